-- The addresses of a plan that is read from text.
use Rattle.std.proofs.Common.{◌≡◌, ℕ, suc, Bool, true, false, List, [], ◌∷◌, length, All, Option, Some, None, Result, Ok, Err, cond, nat_lt, sym, refl, ap, ◌∙◌, subst, arith}
use Rattle.std.proofs.lemmas.List.{get_or_default}
use Rattle.std.proofs.lemmas.List.Elements.{All-nil, All-cons}
use Rattle.std.specs.Str.{is_utf8}
use Rattle.hex.specs.Hex.{decode_sized}
use Rattle.hex.specs.declared.error.FromHexError.{FromHexError}
use Rattle.hex.proofs.HexLemmas.{decode_of-ok, decode_sized-ok, decode_sized-twice}
use Rattle.toml.specs.Data.{Data, Items, Members, array, get_member, item, no_items, string, table}
use Rattle.toml.specs.Parse.{parse_document}
use Rattle.carrier_plan.specs.declared.fault.Field.TheVariants as field
use Rattle.carrier_plan.specs.declared.fault.Part.TheVariants as part
use Rattle.carrier_plan.specs.declared.fault.PlanText.{PlanText}
use Rattle.carrier_plan.specs.declared.fault.PlanText.TheVariants.{Extra, Long, Utf8}
use Rattle.carrier_plan.specs.declared.fault.Spot.{Spot}
use Rattle.carrier_plan.specs.declared.plan.Carrier.{Carrier}
use Rattle.carrier_plan.specs.declared.plan.Flow.{Flow}
use Rattle.carrier_plan.specs.declared.plan.Mode.{Mode}
use Rattle.carrier_plan.specs.declared.plan.Plan.{Plan}
use Rattle.carrier_plan.specs.Keys.{address_of, address_spelled, flow_fields, key_of, top_fields}
use Rattle.carrier_plan.specs.PlanOf.{◌>>=◌, address_at, all_from, carriers_of, ends_in, flow_from, flow_in, flow_of, flows_of, has_extra, line_in, load_in, number_at, of_flow, plan_in, plan_of, plan_of_document, timing_in, value_at}
use Rattle.link_run_delay.specs.Delay.{IsPlain}
use Rattle.link_run_delay.specs.Existing.{AddressesAreOctets, AreOctets}

same_ok : {A : Type 0} (x y : A) → ◌≡◌ {A = Result A PlanText} (Ok x) (Ok y) → x ≡ y
same_ok x y e = cc

-- a step that is passed
bind_ok : {A B : Type 0} (r : Result A PlanText) (f : A → Result B PlanText) (y : B) → (r >>= f) ≡ Ok y → (x : A) × (r ≡ Ok x) × (f x ≡ Ok y)
bind_ok (Ok x) f y h = (x, refl, h)
bind_ok (Err e) f y h = cc

otherwise_ok : {A : Type 0} (test : Bool) (e : PlanText) (r : Result A PlanText) (y : A) → cond test (Err e) r ≡ Ok y → r ≡ Ok y
otherwise_ok true e r y h = cc
otherwise_ok false e r y h = h

passed_ok : {A : Type 0} (test : Bool) (e : PlanText) (r : Result A PlanText) (y : A) → cond test r (Err e) ≡ Ok y → r ≡ Ok y
passed_ok true e r y h = h
passed_ok false e r y h = cc

-- ---- an address

spelled_ok : (spot : Spot) (r : Result (List ℕ) FromHexError) (octets : List ℕ) → address_spelled spot r ≡ Ok octets → r ≡ Ok octets
spelled_ok spot (Ok x) octets h = ap Ok (same_ok x octets h)
spelled_ok spot (Err e) octets h = cc

-- an address has six octets
record IsAddress (octets : List ℕ) : Type 0 where
  six : length octets ≡ 6
  small : AreOctets octets

IsAddress-spelled : (spot : Spot) (text octets : List ℕ) → address_spelled spot (decode_sized text 6) ≡ Ok octets → IsAddress octets
IsAddress-spelled spot text octets h =
    let decoded = spelled_ok spot (decode_sized text 6) octets h in
    let digits = decode_sized-ok text 6 octets decoded in
    let pairs = decode_of-ok text octets (sym (decode_sized-twice text 6 digits) ∙ decoded) in
    record { six = omega (arith, pairs.2); small = λ k d lt. omega (arith, pairs.3 k, get_or_default octets k d 0 lt) }

IsAddress-address_of : (spot : Spot) (d : Data) (octets : List ℕ) → address_of spot d ≡ Ok octets → IsAddress octets
IsAddress-address_of spot (string text) octets h = IsAddress-spelled spot text octets h
IsAddress-address_of spot _ octets h = cc

IsAddress-address_at : (keys : Members) (spot : Spot) (octets : List ℕ) → address_at keys spot ≡ Ok octets → IsAddress octets
IsAddress-address_at keys spot octets h =
    let found = bind_ok (value_at keys spot) (address_of spot) octets h in
    IsAddress-address_of spot found.0 octets found.2

-- ---- a flow

record AreAddresses (dst src : List ℕ) : Type 0 where
  dst_is : IsAddress dst
  src_is : IsAddress src

AreAddresses-ends_in : (i : ℕ) (keys : Members) (ends : ℕ × List ℕ × List ℕ) → ends_in i keys ≡ Ok ends → AreAddresses ends.1 ends.2
unfolding ends_in
AreAddresses-ends_in i keys ends h =
    let to = address_at keys (of_flow i field.Dst) in
    let from = address_at keys (of_flow i field.Src) in
    let id = bind_ok (number_at keys (of_flow i field.Id)) (λ id. to >>= (λ dst. from >>= (λ src. Ok (id, dst, src)))) ends h in
    let dst = bind_ok to (λ dst. from >>= (λ src. Ok (id.0, dst, src))) ends id.2 in
    let src = bind_ok from (λ src. Ok (id.0, dst.0, src)) ends dst.2 in
    let same : ◌≡◌ {A = ℕ × List ℕ × List ℕ} (id.0, dst.0, src.0) ends = same_ok (id.0, dst.0, src.0) ends src.2 in
    let addresses : AreAddresses dst.0 src.0 = record {
      dst_is = IsAddress-address_at keys (of_flow i field.Dst) dst.0 dst.1;
      src_is = IsAddress-address_at keys (of_flow i field.Src) src.0 src.1;
    } in
    subst (λ (e : ℕ × List ℕ × List ℕ). AreAddresses e.1 e.2) {x = (id.0, dst.0, src.0)} same addresses

AreAddresses-flow_in : (i : ℕ) (keys : Members) (f : Flow) → flow_in i keys ≡ Ok f → AreAddresses f.dst f.src
unfolding flow_in
AreAddresses-flow_in i keys f h =
    let extra = has_extra flow_fields keys in
    let fault = Extra (part.Flow i) in
    let ends = bind_ok (ends_in i keys) (λ ends. load_in i keys >>= (λ load. timing_in i keys >>= (λ timing. cond extra (Err fault) (Ok (flow_from ends load timing))))) f h in
    let load = bind_ok (load_in i keys) (λ load. timing_in i keys >>= (λ timing. cond extra (Err fault) (Ok (flow_from ends.0 load timing)))) f ends.2 in
    let timing = bind_ok (timing_in i keys) (λ timing. cond extra (Err fault) (Ok (flow_from ends.0 load.0 timing))) f load.2 in
    let same = same_ok (flow_from ends.0 load.0 timing.0) f (otherwise_ok extra fault (Ok (flow_from ends.0 load.0 timing.0)) f timing.2) in
    subst (λ (g : Flow). AreAddresses g.dst g.src) {x = flow_from ends.0 load.0 timing.0} same (AreAddresses-ends_in i keys ends.0 ends.1)

AreAddresses-flow_of : (i : ℕ) (d : Data) (f : Flow) → flow_of i d ≡ Ok f → AreAddresses f.dst f.src
AreAddresses-flow_of i (table keys) f h = AreAddresses-flow_in i keys f h
AreAddresses-flow_of i _ f h = cc

-- ---- all flows

All-all_from : {A : Type 0} (P : A → Type 0) (judge : ℕ → Data → Result A PlanText) → ((i : ℕ) (d : Data) (x : A) → judge i d ≡ Ok x → P x)
    → (i : ℕ) (items : Items) (xs : List A) → all_from judge i items ≡ Ok xs → All P xs
All-all_from P judge each i no_items xs h = subst (All P) (same_ok [] xs h) (All-nil P)
All-all_from P judge each i (item d rest) xs h =
    let first = bind_ok (judge i d) _ xs h in
    let others = bind_ok (all_from judge (suc i) rest) _ xs first.2 in
    subst (All P) (same_ok (first.0 ∷ others.0) xs others.2)
    (All-cons P first.0 others.0 (each i d first.0 first.1) (All-all_from P judge each (suc i) rest others.0 others.1))

abbrev HasAddresses : Flow → Type 0
HasAddresses f = AreAddresses f.dst f.src

All-flows_of : (found : Option Data) (flows : List Flow) → flows_of found ≡ Ok flows → All HasAddresses flows
All-flows_of None flows h = subst (All HasAddresses) (same_ok [] flows h) (All-nil HasAddresses)
All-flows_of (Some (array elements)) flows h = All-all_from HasAddresses flow_of AreAddresses-flow_of 0 elements flows h
All-flows_of (Some _) flows h = cc

-- the flows of a plan are those that are read last
flows_ok : {V : Type 0} (line_read : Result (V × ℕ × Mode × ℕ) PlanText) (carriers_read : V → Result (List Carrier) PlanText) (flows_read : Result (List Flow) PlanText) (p : Plan)
    → (line_read >>= (λ line. carriers_read line.0 >>= (λ carriers. flows_read >>= (λ flows. Ok (record { option = line.1; mode = line.2; playout = line.3; carriers = carriers; flows = flows }))))) ≡ Ok p
    → flows_read ≡ Ok p.flows
flows_ok {V} line_read carriers_read flows_read p h =
    let made : V × ℕ × Mode × ℕ → List Carrier → List Flow → Plan = λ line carriers flows. record { option = line.1; mode = line.2; playout = line.3; carriers = carriers; flows = flows } in
    let line = bind_ok line_read (λ line. carriers_read line.0 >>= (λ carriers. flows_read >>= (λ flows. Ok (made line carriers flows)))) p h in
    let carriers = bind_ok (carriers_read line.0.0) (λ carriers. flows_read >>= (λ flows. Ok (made line.0 carriers flows))) p line.2 in
    let flows = bind_ok flows_read (λ flows. Ok (made line.0 carriers.0 flows)) p carriers.2 in
    let same = same_ok (made line.0 carriers.0 flows.0) p flows.2 in
    subst (λ (q : Plan). flows_read ≡ Ok q.flows) {x = made line.0 carriers.0 flows.0} same flows.1

All-plan_in : (keys : Members) (p : Plan) → plan_in keys ≡ Ok p → All HasAddresses p.flows
unfolding plan_in
All-plan_in keys p h =
    All-flows_of (get_member (key_of field.Flow) keys) p.flows
    (flows_ok (line_in keys) (λ version. cond (has_extra top_fields keys) (Err (Extra part.Top)) (carriers_of version (get_member (key_of field.Carrier) keys))) (flows_of (get_member (key_of field.Flow) keys)) p h)

All-plan_of_document : (keys : Option Members) (p : Plan) → plan_of_document keys ≡ Ok p → All HasAddresses p.flows
All-plan_of_document None p h = cc
All-plan_of_document (Some keys) p h = All-plan_in keys p h

All-plan_of : (octets : List ℕ) (p : Plan) → plan_of octets ≡ Ok p → All HasAddresses p.flows
unfolding plan_of
All-plan_of octets p h =
    let read = plan_of_document (parse_document octets) in
    All-plan_of_document (parse_document octets) p
    (passed_ok (is_utf8 octets) Utf8 read p (otherwise_ok (nat_lt 65536 (length octets)) Long (cond (is_utf8 octets) read (Err Utf8)) p h))

-- a plan that is read from text is plain
pub IsPlain-plan_of : (octets : List ℕ) (p : Plan) → plan_of octets ≡ Ok p → IsPlain p
IsPlain-plan_of octets p h =
    let addresses = All-plan_of octets p h in
    record { dst = λ k d lt. (addresses k d lt).dst_is.six; src = λ k d lt. (addresses k d lt).src_is.six }

-- and its addresses consist of octets
pub AddressesAreOctets-plan_of : (octets : List ℕ) (p : Plan) → plan_of octets ≡ Ok p → AddressesAreOctets p
AddressesAreOctets-plan_of octets p h = let addresses = All-plan_of octets p h in λ k d lt. ((addresses k d lt).dst_is.small, (addresses k d lt).src_is.small)
