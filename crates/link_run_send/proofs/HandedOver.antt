-- Samples of the carrier's bits are not refused.
use Rattle.std.proofs.Common.{◌≡◌, ℕ, ◌<◌, List, length, pos, slice_get, Some, All, Result, Ok, Err, subst}
use Rattle.std.specs.Prelude.{OnOk, MatchResult, ⊤}
use Rattle.std.proofs.lemmas.List.Elements.{All-get_or}
use Rattle.carrier_plan.specs.declared.plan.Carrier.{Carrier}
use Rattle.carrier_plan.specs.declared.plan.Plan.{Plan}
use Rattle.link_sender.specs.Senders.{NamesFirst}
use Rattle.link_sender.specs.declared.range.Range.{Range}
use Rattle.link_sender.proofs.Items.{item, item_at}
use Rattle.plan_checker.proofs.Places.{number_at}
use Rattle.sample_bits.specs.Samples.{IsWithin}
use Rattle.sample_bits.specs.declared.iq.RawIq.{RawIq}
use Rattle.link_run_send.specs.Sent.{width_of}

silence : RawIq
silence = record { i = pos 0; q = pos 0 }

pub not_refused : {P : Type 0} (result : Result ⊤ Range) (m c first : ℕ) (samples : List RawIq) → All (IsWithin m) samples
    → MatchResult result (λ _. All (IsWithin m) samples) (NamesFirst m c first samples) → OnOk result P → P
not_refused (Ok u) m c first samples within answer p = p
not_refused (Err range) m c first samples within names p =
    absurd (names.outside.outside silence (All-get_or (IsWithin m) samples names.place silence names.outside.inside within))

-- the answer for the carrier in place c, whose samples have the bits that the plan says
pub handed_over : {P : Type 0} (p : Plan) (result : Result ⊤ Range) (c first : ℕ) (samples : List RawIq) → c < length p.carriers → All (IsWithin (width_of p c)) samples
    → ((carrier : Carrier) → slice_get p.carriers c ≡ Some carrier → MatchResult result (λ _. All (IsWithin carrier.m) samples) (NamesFirst carrier.m c first samples))
    → OnOk result P → P
handed_over p result c first samples inside within answer ok =
    let carrier = item p.carriers c inside in
    let read = item_at p.carriers c inside in
    let width = number_at (λ (x : Carrier). x.m) p.carriers c carrier read in
    not_refused result carrier.m c first samples (subst (λ m. All (IsWithin m) samples) width within) (answer carrier read) ok
