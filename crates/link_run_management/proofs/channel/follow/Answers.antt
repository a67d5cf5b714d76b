use Rattle.std.proofs.Common.{ℕ, List, Option, sym, ap, subst}
use Rattle.std.specs.Option.{option_copied}
use Rattle.link_run_management.specs.Following.{Follows, BreaksInFrame}
use Rattle.link_run_management.proofs.Follows.{follows_octets, breaks_in_octets}
use Rattle.link_run_management.proofs.Reading.{ok_gives, err_gives}
use Rattle.link_run_management.proofs.channel.follow.Goals as goal

pub returns-in-Some-clause-follows : goal.returns-in-Some-clause-follows
returns-in-Some-clause-follows g c =
    let ch = g.C.Channel in
    let taken = g.K.Sink.taken in
    ok_gives c.push_octets.result
    (λ hands. subst (λ (given : Option (List ℕ)). Follows ch.stands ch.line ch.missed c.args.tick given c.args.channel.now c.push_octets.new.channel c.args.text.now (taken c.args.out.now) c.push_octets.new.text (taken c.push_octets.new.out))
    (sym (ap option_copied c.in-Some.is))
    (follows_octets ch.stands ch.line ch.missed c.args.tick c.in-Some.octets.now c.args.channel.now c.push_octets.new.channel c.args.text.now c.push_octets.new.text (taken c.args.out.now) (taken c.push_octets.new.out) hands))
    c.push_octets.ensures.hands

pub returns-in-Some-clause-fails : goal.returns-in-Some-clause-fails
returns-in-Some-clause-fails g c =
    let ch = g.C.Channel in
    let taken = g.K.Sink.taken in
    err_gives c.push_octets.result
    (λ breaks. subst (λ (given : Option (List ℕ)). BreaksInFrame ch.stands ch.line ch.missed c.args.tick given c.args.channel.now c.args.text.now (taken c.args.out.now) (taken c.push_octets.new.out))
    (sym (ap option_copied c.in-Some.is))
    (breaks_in_octets ch.stands ch.line ch.missed c.args.tick c.in-Some.octets.now c.args.channel.now c.args.text.now (taken c.args.out.now) (taken c.push_octets.new.out) breaks))
    c.push_octets.ensures.fails

pub returns-in-None-clause-follows : goal.returns-in-None-clause-follows
returns-in-None-clause-follows g c =
    let ch = g.C.Channel in
    let taken = g.K.Sink.taken in
    ok_gives c.cut.result
    (λ follows. subst (λ (given : Option (List ℕ)). Follows ch.stands ch.line ch.missed c.args.tick given c.args.channel.now c.cut.new.channel c.args.text.now (taken c.args.out.now) c.cut.new.text (taken c.cut.new.out))
    (sym (ap option_copied c.in-None.is)) follows)
    c.cut.ensures.follows

pub returns-in-None-clause-fails : goal.returns-in-None-clause-fails
returns-in-None-clause-fails g c =
    let ch = g.C.Channel in
    let taken = g.K.Sink.taken in
    err_gives c.cut.result
    (λ breaks. subst (λ (given : Option (List ℕ)). BreaksInFrame ch.stands ch.line ch.missed c.args.tick given c.args.channel.now c.args.text.now (taken c.args.out.now) (taken c.cut.new.out))
    (sym (ap option_copied c.in-None.is)) breaks)
    c.cut.ensures.fails
