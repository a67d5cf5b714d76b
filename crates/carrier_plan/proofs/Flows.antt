-- The last of some keys of a flow, or of the whole document, is the first bad one.
use Rattle.std.proofs.Common.{◌≡◌, ℕ, List, Ok, Err}
use Rattle.toml.specs.Data.{Members}
use Rattle.carrier_plan.specs.declared.version.Version.{Version}
use Rattle.carrier_plan.specs.declared.plan.Mode.{Mode}
use Rattle.carrier_plan.specs.declared.fault.Field.TheVariants as field
use Rattle.carrier_plan.specs.declared.fault.PlanText.{PlanText}
use Rattle.carrier_plan.specs.PlanOf.{number_at, address_at, of_flow, ends_in, window_in, numbering_in, version_at, mode_at, top, line_in}

pub ends_fault : (i : ℕ) (keys : Members) (id : ℕ) (dst : List ℕ) (e : PlanText) → Ok id ≡ number_at keys (of_flow i field.Id) → Ok dst ≡ address_at keys (of_flow i field.Dst) → Err e ≡ address_at keys (of_flow i field.Src) → ends_in i keys ≡ Err e
unfolding ends_in
ends_fault i keys id dst e a b f = rw (← a, ← b, ← f)

pub window_fault : (i : ℕ) (keys : Members) (frames lmin : ℕ) (e : PlanText) → Ok frames ≡ number_at keys (of_flow i field.Frames) → Ok lmin ≡ number_at keys (of_flow i field.Lmin) → Err e ≡ number_at keys (of_flow i field.Lmax) → window_in i keys ≡ Err e
unfolding window_in
window_fault i keys frames lmin e a b f = rw (← a, ← b, ← f)

pub numbering_fault : (i : ℕ) (keys : Members) (cap p : ℕ) (e : PlanText) → Ok cap ≡ number_at keys (of_flow i field.Cap) → Ok p ≡ number_at keys (of_flow i field.P) → Err e ≡ number_at keys (of_flow i field.Q) → numbering_in i keys ≡ Err e
unfolding numbering_in
numbering_fault i keys cap p e a b f = rw (← a, ← b, ← f)

pub line_fault : (keys : Members) (version : Version) (option : ℕ) (mode : Mode) (e : PlanText) → Ok version ≡ version_at keys (top field.Version) → Ok option ≡ number_at keys (top field.LineOption) → Ok mode ≡ mode_at keys (top field.Mode) → Err e ≡ number_at keys (top field.Playout) → line_in keys ≡ Err e
unfolding line_in
line_fault keys version option mode e a b d f = rw (← a, ← b, ← d, ← f)
