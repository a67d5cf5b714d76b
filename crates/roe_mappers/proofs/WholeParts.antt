-- Parts of a flow of a checked plan, by the payload mode.
use Rattle.std.proofs.Common.{◌≡◌, ℕ, ◌*◌, ◌<◌, ◌≤◌, Bool, true, false, cond, List, length, map, get_or, Fits, w8, sym, ap, subst, ◌∙◌, inl, inr, arith}
use Rattle.std.specs.List.{HoldsAt}
use Rattle.std.proofs.lemmas.Bool.{cases_eq}
use Rattle.std.proofs.lemmas.List.{get_or-map, get_or_default}
use Rattle.carrier_plan.specs.declared.plan.Flow.{Flow}
use Rattle.carrier_plan.specs.declared.plan.Mode.{Mode}
use Rattle.carrier_plan.specs.declared.plan.Mode.TheVariants.{Tunnel}
use Rattle.carrier_plan.specs.declared.plan.Plan.{Plan}
use Rattle.line_code.specs.Decoded.{octet_of}
use Rattle.line_code.specs.Packed.{symbols_in}
use Rattle.line_code.specs.declared.characters.Rd.{Rd}
use Rattle.plan_checker.specs.Flows.{HasPayload, octets_by, octets_of_frame}
use Rattle.plan_checker.specs.Rules.{IsGood}
use Rattle.plan_checker.specs.Rules.Rule.{PayloadSize}
use Rattle.plan_checker.specs.Run.{frame_octets_of}
use Rattle.plan_checker.specs.WordSize.{word_size}
use Rattle.plan_checker.proofs.Places.{number_at}
use Rattle.roe_mappers.specs.FrameAfter.{IsFrameAfter, IsReplacedUnless, Puts}
use Rattle.roe_mappers.specs.Parts.{Carries, IsPart}
use Rattle.roe_mappers.specs.declared.unmapping.Unmapped.{Unmapped}
use Rattle.roe_mappers.specs.declared.unmapping.Unmapped.TheVariants.{Good, BadSymbol}
use Rattle.roe_mappers.proofs.Carried.{flow_at, of_flow, some_at}

-- ---- how many octets

-- the octets of a frame in the modes that carry whole frames
pub octets_in_mode : (p : Plan) (i : ℕ) (m : Mode) (octets : ℕ) → i < length p.flows → p.mode ≡ m → ((f : Flow) → octets_by m p f ≡ octets) → frame_octets_of p i ≡ octets
octets_in_mode p i m octets lt mode same =
    let here = some_at p.flows i lt in
    number_at (octets_of_frame p) p.flows i here.0 here.1 ∙ ap (λ o. octets_by o p here.0) mode ∙ same here.0

small_if : (b : Bool) (m n k : ℕ) → m ≤ k → n ≤ k → cond b m n ≤ k
small_if true m n k low high = low
small_if false m n k low high = high

pub word_size_small : (option : ℕ) → word_size option ≤ 16
word_size_small option =
    small_if _ 1 _ 16 (omega arith) (small_if _ 2 _ 16 (omega arith) (small_if _ 4 _ 16 (omega arith) (small_if _ 5 _ 16 (omega arith)
    (small_if _ 8 _ 16 (omega arith) (small_if _ 10 _ 16 (omega arith) (small_if _ 16 0 16 (omega arith) (omega arith)))))))

-- a plan with packets of symbols has words
pub some_words : (p : Plan) (i y : ℕ) → IsGood p → i < length p.flows → frame_octets_of p i ≡ 20 * y → 1 ≤ y
some_words p i y good lt octets =
    let here = some_at p.flows i lt in
    let f = here.0 in
    let payload : HasPayload p f = of_flow (HasPayload p) p.flows f (λ k d below. good PayloadSize k below d) (flow_at p.flows i f here.1) in
    let size : octets_of_frame p f ≡ 20 * y = sym (number_at (octets_of_frame p) p.flows i f here.1) ∙ octets in
    elim (cases_eq y 0) [
      | inl none ↦
          let empty : f.frames * octets_of_frame p f ≡ f.frames * 0 = ap (λ o. f.frames * o) (size ∙ ap (λ z. 20 * z) none) in
          absurd (omega (arith, empty, payload.some_octets))
      | inr some ↦ omega (arith, some)
    ]

-- ---- parts

pub part_holds : (p : Plan) (i n : ℕ) (rd : Rd) (frame part : List ℕ) → i < length p.flows → length part ≡ frame_octets_of p i → ((k : ℕ) → Fits w8 (get_or part k 0))
    → ((d : Flow) → Carries p.mode p (get_or p.flows i d) n rd frame part) → HoldsAt (λ f. IsPart p f n rd frame part) p.flows i
part_holds p i n rd frame part lt size fits carries d =
    let f = get_or p.flows i d in
    record {
      size = size ∙ size_at p.flows i d lt;
      small = λ k e below. subst (λ x. x < 256) (get_or_default part k 0 e below) (fits k).fits;
      carries = carries d;
    }
  where
    size_at : (flows : List Flow) (j : ℕ) (e : Flow) → j < length flows → get_or (map (octets_of_frame p) flows) j 0 ≡ octets_of_frame p (get_or flows j e)
    size_at flows j e below = get_or-map (octets_of_frame p) flows j e 0 below

pub carries_in : (p : Plan) (f : Flow) (m : Mode) (n : ℕ) (rd : Rd) (frame part : List ℕ) → p.mode ≡ m → Carries m p f n rd frame part → Carries p.mode p f n rd frame part
carries_in p f m n rd frame part mode h = subst (λ o. Carries o p f n rd frame part) (sym mode) h

-- ---- frames

pub puts_in : (p : Plan) (f : Flow) (m : Mode) (part old new : List ℕ) → p.mode ≡ m → Puts m p f part old new → Puts p.mode p f part old new
puts_in p f m part old new mode h = subst (λ o. Puts o p f part old new) (sym mode) h

pub IsFrameAfter-symbols : (u : Unmapped) (p : Plan) (f : Flow) (part old new : List ℕ) → p.mode ≡ Tunnel → IsReplacedUnless u (map octet_of (symbols_in part)) old new → IsFrameAfter u p f part old new
IsFrameAfter-symbols Good p f part old new mode h = puts_in p f Tunnel part old new mode h
IsFrameAfter-symbols (BadSymbol place) p f part old new mode h = h
