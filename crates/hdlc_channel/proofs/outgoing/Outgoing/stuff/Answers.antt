use Rattle.std.proofs.Common.{◌≡◌, ℕ, ◌+◌, ◌<◌, ◌≤◌, Bool, List, [], ◌++◌, length, take, drop, get_or, sym, ap, ◌∙◌, subst, arith}
use Rattle.std.proofs.lemmas.List.{get_or_read, length-append}
use Rattle.hdlc_channel.specs.Bits.{octet_bits, low_bits}
use Rattle.hdlc_channel.specs.SlowText.{flag}
use Rattle.hdlc_channel.specs.SlowStream.{stuffed}
use Rattle.hdlc_channel.specs.Outgoing.{OutView, later_bits, ones_after}
use Rattle.hdlc_channel.proofs.Contents.{length-low_bits}
use Rattle.hdlc_channel.proofs.OutSteps.{some_at, place_in, laid_last, laid_other, out_after}
use Rattle.hdlc_channel.proofs.outgoing.Outgoing.stuff.Goals as goal

-- some octets are left
left_inside : (later seen : OutView) → later ≡ seen → (seen.later ≡ [] → ⊥) → later.later ≡ [] → ⊥
left_inside later seen same some none = some (ap (λ v. v.later) (sym same) ∙ none)

few_inside : (inside seen : OutView) → inside ≡ seen → length seen.ready < 8 → length inside.ready < 8
few_inside inside seen same few = subst (λ (v : OutView). length v.ready < 8) (sym same) few

-- the octet that was read
read_of : (octets : List ℕ) (at octet : ℕ) → length octets ≡ 1502 → at < 1502 → octet ≡ get_or octets at octet → octet ≡ get_or octets at 0
read_of octets at octet room h e = get_or_read octets at octet (omega arith) e 0

-- how many bits are laid out after it
laid_length : (ready more new : List Bool) (n : ℕ) → new ≡ ready ++ more → length more ≡ n → length ready < 8 → 8 ≤ n → n ≤ 10 → (8 ≤ length new) × (length new ≤ 17)
laid_length ready more new n e l few long short = let f = ap length e in let s = length-append ready more in (omega arith, omega arith)

pub index-requires : goal.index-requires
index-requires c =
    let i = c.self.inside in
    let some = some_at i.ready i.ones i.octets.items i.at i.end c.self.invariant (left_inside _ _ c.self.view_is c.requires.some) in
    let place = place_in i.ready i.ones i.octets.items i.at i.end c.self.invariant some in
    let room : length i.octets.items ≡ 1502 = c.self.invariant.room in
    let len : i.octets.len ≡ length i.octets.items = i.octets.ok.0 in
    omega (arith, place, room, len)

pub push_flag-requires : goal.push_flag-requires
push_flag-requires c =
    let s = c.stuff-stuffed in
    let l = laid_length c.self.inside.ready (low_bits s.result.len s.result.bits) c.push.new.self s.result.len c.push.ensures (length-low_bits s.result.len s.result.bits) (few_inside _ _ c.self.view_is c.requires.few) s.ensures.longer s.ensures.within in
    omega (arith, l.1)

pub invariant_of-self : goal.invariant_of-self
invariant_of-self c =
    let i = c.self.inside in
    let s = c.stuff-stuffed in
    let some = some_at i.ready i.ones i.octets.items i.at i.end c.self.invariant (left_inside _ _ c.self.view_is c.requires.some) in
    let l = laid_length i.ready (low_bits s.result.len s.result.bits) c.push.new.self s.result.len c.push.ensures (length-low_bits s.result.len s.result.bits) (few_inside _ _ c.self.view_is c.requires.few) s.ensures.longer s.ensures.within in
    let f = ap length c.push_flag.ensures in
    out_after i.ready i.ones i.octets.items i.at i.end c.self.invariant c.push_flag.new.self s.result.ones some (omega (arith, l.1, f, length-append c.push.new.self flag)) s.ensures.few

pub invariant_of-self-else-self : goal.invariant_of-self-else-self
invariant_of-self-else-self c =
    let i = c.self.inside in
    let s = c.stuff-stuffed in
    let some = some_at i.ready i.ones i.octets.items i.at i.end c.self.invariant (left_inside _ _ c.self.view_is c.requires.some) in
    let l = laid_length i.ready (low_bits s.result.len s.result.bits) c.push.new.self s.result.len c.push.ensures (length-low_bits s.result.len s.result.bits) (few_inside _ _ c.self.view_is c.requires.few) s.ensures.longer s.ensures.within in
    out_after i.ready i.ones i.octets.items i.at i.end c.self.invariant c.push.new.self s.result.ones some (omega (arith, l.1)) s.ensures.few

pub returns-then-self-clause-same : goal.returns-then-self-clause-same
returns-then-self-clause-same c =
    let i = c.self.inside in
    let s = c.stuff-stuffed in
    let some = some_at i.ready i.ones i.octets.items i.at i.end c.self.invariant (left_inside _ _ c.self.view_is c.requires.some) in
    let place = place_in i.ready i.ones i.octets.items i.at i.end c.self.invariant some in
    let octet = read_of i.octets.items i.at c.index.result.now c.self.invariant.room place c.index.ensures in
    let rest = later_bits s.result.ones (drop (i.at + 1) (take i.end i.octets.items)) in
    ap (λ xs. xs ++ rest) c.push_flag.ensures ∙ ap (λ xs. xs ++ flag ++ rest) c.push.ensures
    ∙ laid_last i.ready i.ones i.octets.items i.at i.end c.self.invariant some (low_bits s.result.len s.result.bits) s.result.ones
    (s.ensures.bits ∙ ap (λ o. stuffed i.ones (octet_bits o)) octet) (s.ensures.ones ∙ ap (λ o. ones_after i.ones (octet_bits o)) octet) c.if-self.true
    ∙ ap (λ (v : OutView). v.ready ++ v.later) c.self.view_is

pub returns-then-self-clause-enough : goal.returns-then-self-clause-enough
returns-then-self-clause-enough c =
    let s = c.stuff-stuffed in
    let l = laid_length c.self.inside.ready (low_bits s.result.len s.result.bits) c.push.new.self s.result.len c.push.ensures (length-low_bits s.result.len s.result.bits) (few_inside _ _ c.self.view_is c.requires.few) s.ensures.longer s.ensures.within in
    let f = ap length c.push_flag.ensures in
    omega (arith, l.0, f, length-append c.push.new.self flag)

pub returns-else-self-clause-same : goal.returns-else-self-clause-same
returns-else-self-clause-same c =
    let i = c.self.inside in
    let s = c.stuff-stuffed in
    let some = some_at i.ready i.ones i.octets.items i.at i.end c.self.invariant (left_inside _ _ c.self.view_is c.requires.some) in
    let place = place_in i.ready i.ones i.octets.items i.at i.end c.self.invariant some in
    let octet = read_of i.octets.items i.at c.index.result.now c.self.invariant.room place c.index.ensures in
    let rest = later_bits s.result.ones (drop (i.at + 1) (take i.end i.octets.items)) in
    ap (λ xs. xs ++ rest) c.push.ensures
    ∙ laid_other i.ready i.ones i.octets.items i.at i.end c.self.invariant some (low_bits s.result.len s.result.bits) s.result.ones
    (s.ensures.bits ∙ ap (λ o. stuffed i.ones (octet_bits o)) octet) (s.ensures.ones ∙ ap (λ o. ones_after i.ones (octet_bits o)) octet) c.if-self.false
    ∙ ap (λ (v : OutView). v.ready ++ v.later) c.self.view_is

pub returns-else-self-clause-enough : goal.returns-else-self-clause-enough
returns-else-self-clause-enough c =
    let s = c.stuff-stuffed in
    let l = laid_length c.self.inside.ready (low_bits s.result.len s.result.bits) c.push.new.self s.result.len c.push.ensures (length-low_bits s.result.len s.result.bits) (few_inside _ _ c.self.view_is c.requires.few) s.ensures.longer s.ensures.within in
    l.0
