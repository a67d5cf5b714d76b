use Rattle.std.proofs.Common.{◌≡◌, ◌≤◌, [], ◌++◌, length, take, drop, sym, ap, ◌∙◌, arith}
use Rattle.std.proofs.lemmas.List.{append-nil}
use Rattle.hdlc_channel.specs.SlowText.{flag}
use Rattle.hdlc_channel.specs.SlowStream.{frame_bits, next_item}
use Rattle.hdlc_channel.specs.Outgoing.{later_bits}
use Rattle.hdlc_channel.proofs.LaidBits.{later_bits-nil, none_left, is_last_iff}
use Rattle.hdlc_channel.proofs.OutSteps.{later_bits-frame, frame_bits-some, written_back}
use Rattle.hdlc_channel.proofs.outgoing.Outgoing.begin_item.Goals as goal

pub returns-in_default-clause-item : goal.returns-in_default-clause-item
returns-in_default-clause-item c =
    let i = c.self.inside in
    let new = c.pop_content.new.octets in
    let room : length i.octets.items ≡ 1502 = c.self.invariant.room in
    let size : i.octets.len ≡ length i.octets.items = i.octets.ok.0 in
    let same : length new ≡ i.octets.len = c.pop_content.auto.octets ∙ c.deref_mut.ensures.len in
    let within : i.end ≤ 1502 = c.self.invariant.within in
    let last : i.at ≡ i.end = (is_last_iff i.ones i.octets.items i.at i.end (omega arith) c.self.invariant.left).1 (ap (λ v. v.later) c.self.view_is ∙ c.requires.last) in
    let nothing : later_bits i.ones (drop i.at (take i.end new)) ≡ [] = later_bits-nil i.ones (drop i.at (take i.end new)) (none_left new i.at i.end (omega arith) last) in
    ap (λ o. c.push_flag.new.self ++ later_bits i.ones (drop i.at (take i.end o))) (written_back i.octets.len new i.octets.items same)
    ∙ ap (λ xs. c.push_flag.new.self ++ xs) nothing ∙ append-nil c.push_flag.new.self ∙ c.push_flag.ensures
    ∙ ap (λ v. v.ready ++ flag) c.self.view_is ∙ ap (λ q. c.args.self.now.ready ++ next_item q) (sym c.in_default.ensures.0)

pub stuff-requires-clause-some : goal.stuff-requires-clause-some
stuff-requires-clause-some c none =
    let i = c.self.inside in
    let new = c.pop_content.new.octets in
    let same : length new ≡ i.octets.len = c.pop_content.auto.octets ∙ c.deref_mut.ensures.len in
    let first = c.in-Some.ensures in
    frame_bits-some first.frame
    (sym (ap (λ o. later_bits 0 (take c.in-Some.len o)) (written_back i.octets.len new i.octets.items same)
    ∙ later_bits-frame c.in-Some.len new first.frame first.content) ∙ none)

pub returns-clause-item : goal.returns-clause-item
returns-clause-item c =
    let i = c.self.inside in
    let new = c.pop_content.new.octets in
    let same : length new ≡ i.octets.len = c.pop_content.auto.octets ∙ c.deref_mut.ensures.len in
    let first = c.in-Some.ensures in
    c.stuff.ensures.same
    ∙ ap (λ o. i.ready ++ later_bits 0 (take c.in-Some.len o)) (written_back i.octets.len new i.octets.items same)
    ∙ ap (λ xs. i.ready ++ xs) (later_bits-frame c.in-Some.len new first.frame first.content)
    ∙ ap (λ v. v.ready ++ frame_bits first.frame) c.self.view_is
    ∙ ap (λ q. c.args.self.now.ready ++ next_item q) (sym first.first)
