use Rattle.std.proofs.Common.{◌≡◌, true, false, sym, ap, ◌∙◌}
use Rattle.control_words.specs.Places.{is_slow_place}
use Rattle.link_sender.specs.Channels.{fast_left, managed_next, slow_left}
use Rattle.link_sender.specs.Managed.{fast_in_word, slow_in_word}
use Rattle.link_sender.proofs.ChannelSteps.{fast_left-none, slow_left-none}
use Rattle.link_sender.proofs.ManagedWords.{fast_counted, fast_word_next, no_fast, no_slow, slow_counted, slow_word_next, some_octets}
use Rattle.link_sender.proofs.channels.Channels.next.Goals as goal

pub returns-then-slow_octet-clause-octets : goal.returns-then-slow_octet-clause-octets
returns-then-slow_octet-clause-octets g c =
    let a = c.args.announce in
    let x = c.place_of-x.result.x in
    let slow = c.args.self.now.slow in
    let fast = c.args.self.now.fast in
    let is_slow : is_slow_place a.hdlc x 0 ≡ true = sym c.slow_octet.ensures ∙ c.if-slow_octet.true in
    c.slow_octets.ensures.octets
    ∙ slow_word_next g.row.Y a x slow fast c.managed_len-count.result is_slow (some_octets g.row.Y c.requires.size) c.managed_len-count.ensures.count
    ∙ ap (λ y. managed_next g.row.Y a y slow fast) c.place_of-x.ensures.x

pub returns-then-slow_octet-clause-slow : goal.returns-then-slow_octet-clause-slow
returns-then-slow_octet-clause-slow g c =
    let a = c.args.announce in
    let x = c.place_of-x.result.x in
    let slow = c.args.self.now.slow in
    let is_slow : is_slow_place a.hdlc x 0 ≡ true = sym c.slow_octet.ensures ∙ c.if-slow_octet.true in
    c.slow_octets.ensures.left ∙ ap (λ n. slow_left n slow) (c.managed_len-count.ensures.count ∙ slow_counted g.row.Y a x is_slow)
    ∙ ap (λ y. slow_left (slow_in_word g.row.Y a y) slow) c.place_of-x.ensures.x

pub returns-then-slow_octet-clause-fast : goal.returns-then-slow_octet-clause-fast
returns-then-slow_octet-clause-fast g c =
    let a = c.args.announce in
    let x = c.place_of-x.result.x in
    let fast = c.args.self.now.fast in
    let is_slow : is_slow_place a.hdlc x 0 ≡ true = sym c.slow_octet.ensures ∙ c.if-slow_octet.true in
    fast_left-none fast ∙ ap (λ n. fast_left n fast) (sym (no_fast g.row.Y a x is_slow))
    ∙ ap (λ y. fast_left (fast_in_word g.row.Y a y) fast) c.place_of-x.ensures.x

pub returns-else-slow_octet-clause-octets : goal.returns-else-slow_octet-clause-octets
returns-else-slow_octet-clause-octets g c =
    let a = c.args.announce in
    let x = c.place_of-x.result.x in
    let slow = c.args.self.now.slow in
    let fast = c.args.self.now.fast in
    let is_slow : is_slow_place a.hdlc x 0 ≡ false = sym c.slow_octet.ensures ∙ c.if-slow_octet.false in
    c.fast_octets.ensures.octets
    ∙ fast_word_next g.row.Y a x slow fast c.managed_len-count.result is_slow c.managed_len-count.ensures.count
    ∙ ap (λ y. managed_next g.row.Y a y slow fast) c.place_of-x.ensures.x

pub returns-else-slow_octet-clause-slow : goal.returns-else-slow_octet-clause-slow
returns-else-slow_octet-clause-slow g c =
    let a = c.args.announce in
    let x = c.place_of-x.result.x in
    let slow = c.args.self.now.slow in
    let is_slow : is_slow_place a.hdlc x 0 ≡ false = sym c.slow_octet.ensures ∙ c.if-slow_octet.false in
    slow_left-none slow ∙ ap (λ n. slow_left n slow) (sym (no_slow g.row.Y a x is_slow))
    ∙ ap (λ y. slow_left (slow_in_word g.row.Y a y) slow) c.place_of-x.ensures.x

pub returns-else-slow_octet-clause-fast : goal.returns-else-slow_octet-clause-fast
returns-else-slow_octet-clause-fast g c =
    let a = c.args.announce in
    let x = c.place_of-x.result.x in
    let fast = c.args.self.now.fast in
    let is_slow : is_slow_place a.hdlc x 0 ≡ false = sym c.slow_octet.ensures ∙ c.if-slow_octet.false in
    c.fast_octets.ensures.left ∙ ap (λ n. fast_left n fast) (c.managed_len-count.ensures.count ∙ fast_counted g.row.Y a x is_slow)
    ∙ ap (λ y. fast_left (fast_in_word g.row.Y a y) fast) c.place_of-x.ensures.x
