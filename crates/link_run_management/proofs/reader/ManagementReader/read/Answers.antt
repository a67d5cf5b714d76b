use Rattle.std.proofs.Common.{◌≡◌, ℕ, List, length, Option, Some, None, Bor, refl, sym, ◌∙◌, subst}
use Rattle.std.specs.Option.{option_copied}
use Rattle.link_text.specs.Gathered.{Gathers, BreaksOff}
use Rattle.link_text.proofs.Gathering.{gathers_none}
use Rattle.link_run_management.specs.Management.{octets_so_far, slow_places, fast_places}
use Rattle.link_run_management.specs.Reads.{ReaderView, StandsFor}
use Rattle.link_run_management.proofs.Reading.{ok_gives, err_gives, HasOctets, meets, same_lines, slow_text, fast_text, no_text, slow_stands, fast_stands, nothing_stands}
use Rattle.link_run_management.proofs.reader.ManagementReader.read.Goals as goal

copied : (word : Option (Bor (List ℕ))) (width : ℕ) → ((octets : Bor (List ℕ)) → word ≡ Some octets → length octets.now ≡ width) → HasOctets width (option_copied word)
copied None width h = tt
copied (Some octets) width h = h octets refl

pub returns-in-Slow-clause-stands : goal.returns-in-Slow-clause-stands
returns-in-Slow-clause-stands g c =
    let inside = c.self.inside in
    let v : ReaderView = record { width = inside.width; announce = inside.announce; x = inside.x; slow = inside.slow; fast = inside.fast } in
    let w = c.args.self.now in
    let word = option_copied c.args.word in
    let octets : HasOctets w.width word = copied c.args.word w.width c.requires in
    let count = c.in-Slow.count in
    let m = λ (words : List (Option (List ℕ))) (s : StandsFor w words). meets v w words word count 0 c.self.view_is s octets c.in-Slow.ensures.1 in
    let given = option_copied c.front.result in
    ok_gives c.follow.result
    (λ follows words s. slow_stands v words word given count c.follow.new.channel (m words s) c.in-Slow.ensures.0 c.front.ensures (λ before h. (follows before h).0))
    c.follow.ensures.follows

pub returns-in-Slow-clause-gathers : goal.returns-in-Slow-clause-gathers
returns-in-Slow-clause-gathers g c =
    let taken = g.K.Sink.taken in
    let inside = c.self.inside in
    let v : ReaderView = record { width = inside.width; announce = inside.announce; x = inside.x; slow = inside.slow; fast = inside.fast } in
    let w = c.args.self.now in
    let word = option_copied c.args.word in
    let octets : HasOctets w.width word = copied c.args.word w.width c.requires in
    let count = c.in-Slow.count in
    let m = λ (words : List (Option (List ℕ))) (s : StandsFor w words). meets v w words word count 0 c.self.view_is s octets c.in-Slow.ensures.1 in
    let given = option_copied c.front.result in
    let before = λ (words : List (Option (List ℕ))). octets_so_far (slow_places v.announce) v.width words in
    let text = λ (words : List (Option (List ℕ))) (s : StandsFor w words).
    same_lines v w c.args.tick words word c.self.view_is ∙ slow_text v c.args.tick words word given count (m words s) c.in-Slow.ensures.0 c.front.ensures in
    ok_gives c.follow.result
    (λ follows words s. subst (λ (t : List ℕ). Gathers t c.args.text.now (taken c.args.out.now) c.follow.new.text (taken c.follow.new.out)) (sym (text words s)) (follows (before words) (m words s).stands.slow).1)
    c.follow.ensures.follows

pub returns-in-Slow-clause-fails : goal.returns-in-Slow-clause-fails
returns-in-Slow-clause-fails g c =
    let taken = g.K.Sink.taken in
    let inside = c.self.inside in
    let v : ReaderView = record { width = inside.width; announce = inside.announce; x = inside.x; slow = inside.slow; fast = inside.fast } in
    let w = c.args.self.now in
    let word = option_copied c.args.word in
    let octets : HasOctets w.width word = copied c.args.word w.width c.requires in
    let count = c.in-Slow.count in
    let m = λ (words : List (Option (List ℕ))) (s : StandsFor w words). meets v w words word count 0 c.self.view_is s octets c.in-Slow.ensures.1 in
    let given = option_copied c.front.result in
    let before = λ (words : List (Option (List ℕ))). octets_so_far (slow_places v.announce) v.width words in
    let text = λ (words : List (Option (List ℕ))) (s : StandsFor w words).
    same_lines v w c.args.tick words word c.self.view_is ∙ slow_text v c.args.tick words word given count (m words s) c.in-Slow.ensures.0 c.front.ensures in
    err_gives c.follow.result
    (λ breaks words s. subst (λ (t : List ℕ). BreaksOff t c.args.text.now (taken c.args.out.now) (taken c.follow.new.out)) (sym (text words s)) (breaks (before words) (m words s).stands.slow))
    c.follow.ensures.fails

pub returns-in-Fast-clause-stands : goal.returns-in-Fast-clause-stands
returns-in-Fast-clause-stands g c =
    let inside = c.self.inside in
    let v : ReaderView = record { width = inside.width; announce = inside.announce; x = inside.x; slow = inside.slow; fast = inside.fast } in
    let w = c.args.self.now in
    let word = option_copied c.args.word in
    let octets : HasOctets w.width word = copied c.args.word w.width c.requires in
    let count = c.in-Fast.count in
    let m = λ (words : List (Option (List ℕ))) (s : StandsFor w words). meets v w words word 0 count c.self.view_is s octets c.in-Fast.ensures.1 in
    let given = option_copied c.front-in-Fast.result in
    ok_gives c.follow-in-Fast.result
    (λ follows words s. fast_stands v words word given count c.follow-in-Fast.new.channel (m words s) c.in-Fast.ensures.0 c.front-in-Fast.ensures (λ before h. (follows before h).0))
    c.follow-in-Fast.ensures.follows

pub returns-in-Fast-clause-gathers : goal.returns-in-Fast-clause-gathers
returns-in-Fast-clause-gathers g c =
    let taken = g.K.Sink.taken in
    let inside = c.self.inside in
    let v : ReaderView = record { width = inside.width; announce = inside.announce; x = inside.x; slow = inside.slow; fast = inside.fast } in
    let w = c.args.self.now in
    let word = option_copied c.args.word in
    let octets : HasOctets w.width word = copied c.args.word w.width c.requires in
    let count = c.in-Fast.count in
    let m = λ (words : List (Option (List ℕ))) (s : StandsFor w words). meets v w words word 0 count c.self.view_is s octets c.in-Fast.ensures.1 in
    let given = option_copied c.front-in-Fast.result in
    let before = λ (words : List (Option (List ℕ))). octets_so_far (fast_places v.announce) v.width words in
    let text = λ (words : List (Option (List ℕ))) (s : StandsFor w words).
    same_lines v w c.args.tick words word c.self.view_is ∙ fast_text v c.args.tick words word given count (m words s) c.in-Fast.ensures.0 c.front-in-Fast.ensures in
    ok_gives c.follow-in-Fast.result
    (λ follows words s. subst (λ (t : List ℕ). Gathers t c.args.text.now (taken c.args.out.now) c.follow-in-Fast.new.text (taken c.follow-in-Fast.new.out)) (sym (text words s)) (follows (before words) (m words s).stands.fast).1)
    c.follow-in-Fast.ensures.follows

pub returns-in-Fast-clause-fails : goal.returns-in-Fast-clause-fails
returns-in-Fast-clause-fails g c =
    let taken = g.K.Sink.taken in
    let inside = c.self.inside in
    let v : ReaderView = record { width = inside.width; announce = inside.announce; x = inside.x; slow = inside.slow; fast = inside.fast } in
    let w = c.args.self.now in
    let word = option_copied c.args.word in
    let octets : HasOctets w.width word = copied c.args.word w.width c.requires in
    let count = c.in-Fast.count in
    let m = λ (words : List (Option (List ℕ))) (s : StandsFor w words). meets v w words word 0 count c.self.view_is s octets c.in-Fast.ensures.1 in
    let given = option_copied c.front-in-Fast.result in
    let before = λ (words : List (Option (List ℕ))). octets_so_far (fast_places v.announce) v.width words in
    let text = λ (words : List (Option (List ℕ))) (s : StandsFor w words).
    same_lines v w c.args.tick words word c.self.view_is ∙ fast_text v c.args.tick words word given count (m words s) c.in-Fast.ensures.0 c.front-in-Fast.ensures in
    err_gives c.follow-in-Fast.result
    (λ breaks words s. subst (λ (t : List ℕ). BreaksOff t c.args.text.now (taken c.args.out.now) (taken c.follow-in-Fast.new.out)) (sym (text words s)) (breaks (before words) (m words s).stands.fast))
    c.follow-in-Fast.ensures.fails

pub returns-in-Neither-clause-stands : goal.returns-in-Neither-clause-stands
returns-in-Neither-clause-stands g c words s =
    let inside = c.self.inside in
    let v : ReaderView = record { width = inside.width; announce = inside.announce; x = inside.x; slow = inside.slow; fast = inside.fast } in
    let w = c.args.self.now in
    let word = option_copied c.args.word in
    let octets : HasOctets w.width word = copied c.args.word w.width c.requires in
    nothing_stands v words word (meets v w words word 0 0 c.self.view_is s octets c.in-Neither.ensures)

pub returns-in-Neither-clause-gathers : goal.returns-in-Neither-clause-gathers
returns-in-Neither-clause-gathers g c words s =
    let taken = g.K.Sink.taken in
    let inside = c.self.inside in
    let v : ReaderView = record { width = inside.width; announce = inside.announce; x = inside.x; slow = inside.slow; fast = inside.fast } in
    let w = c.args.self.now in
    let word = option_copied c.args.word in
    let octets : HasOctets w.width word = copied c.args.word w.width c.requires in
    subst (λ (t : List ℕ). Gathers t c.args.text.now (taken c.args.out.now) c.args.text.now (taken c.args.out.now))
    (sym (same_lines v w c.args.tick words word c.self.view_is ∙ no_text v c.args.tick words word (meets v w words word 0 0 c.self.view_is s octets c.in-Neither.ensures)))
    (gathers_none c.args.text.now (taken c.args.out.now))
