-- A sender with the samples of one carrier more, and the text of its ticks.
use Rattle.std.proofs.Common.{◌≡◌, ◌≢◌, ℕ, ◌+◌, ◌<◌, List, length, length-set, get_or-set_other, get_or-set_same, set, slice_index, Result, Ok, Err, sym, ap, ◌∙◌, subst, arith, inl, inr}
use Rattle.std.specs.Prelude.{OnErr, OnOk}
use Rattle.std.proofs.lemmas.Bool.{cases_eq}
use Rattle.carrier_plan.specs.declared.plan.Plan.{Plan}
use Rattle.line_code.specs.declared.characters.Rd.{Rd}
use Rattle.link_sender.specs.HandedIn.{with_samples}
use Rattle.link_sender.specs.Laws.{AgreesBefore}
use Rattle.link_sender.specs.Senders.{SenderView, StandsFor, TakesOn}
use Rattle.link_sender.specs.Stream.{Stream, samples_of}
use Rattle.link_sender.specs.Whole.{disparity_before}
use Rattle.link_sender.proofs.WholeSettled.{disparity_settled}
use Rattle.plan_checker.specs.Rules.{IsGood}
use Rattle.plan_checker.specs.Run.{samples_before}
use Rattle.sample_bits.specs.declared.iq.RawIq.{RawIq}
use Rattle.link_run_send.specs.ComesNext.{HandedTo}
use Rattle.link_run_send.specs.SendsRun.{SendsRun}
use Rattle.link_run_send.specs.SentText.{text_between}
use Rattle.link_run_send.specs.declared.run_output.Output.{Output}
use Rattle.link_run_send.proofs.HandedStreams.{agrees_with}

pub map_ok : {T E A B : Type 0} (r : Result T E) → (A → B) → OnOk r A → OnOk r B
map_ok (Ok x) f a = f a
map_ok (Err e) f a = tt

pub map_err : {T E A B : Type 0} (r : Result T E) → (A → B) → OnErr r A → OnErr r B
map_err (Ok x) f a = tt
map_err (Err e) f a = f a

-- the numbers of samples that were handed in, with those of one carrier more at this tick
pub handed_on : (p : Plan) (counts : List ℕ) (tick carrier : ℕ) → HandedTo p counts tick carrier → carrier < length p.carriers
    → HandedTo p (set counts carrier (samples_before p carrier (tick + 1))) tick (carrier + 1)
handed_on p counts tick carrier to inside =
    let n = samples_before p carrier (tick + 1) in record {
      as_many = length-set counts carrier n ∙ to.as_many;
      before = λ c low within. elim (cases_eq c carrier) [
        | inl same ↦
            ap (slice_index (set counts carrier n)) same ∙ get_or-set_same counts carrier n 0 (omega (arith, inside, to.as_many)) ∙ ap (λ x. samples_before p x (tick + 1)) (sym same)
        | inr other ↦ get_or-set_other counts carrier c n 0 other ∙ to.before c (omega (arith, low, other)) within
      ];
      from = λ c low within.
          let other : c ≢ carrier = omega arith in
          get_or-set_other counts carrier c n 0 other ∙ to.from c (omega (arith, low)) within;
    }

pub counts_on : (s t : SenderView) (p : Plan) (c tick : ℕ) → s.plan ≡ p → s.tick ≡ tick → TakesOn s t c → HandedTo p s.handed tick c → c < length p.carriers → HandedTo p t.handed tick (c + 1)
counts_on s t p c tick plan now takes to inside =
    let counts : t.handed ≡ set s.handed c (samples_before p c (tick + 1)) =
    takes.handed ∙ ap (λ (q : Plan). set s.handed c (samples_before q c (s.tick + 1))) plan ∙ ap (λ n. set s.handed c (samples_before p c (n + 1))) now
    in
    subst (λ counts. HandedTo p counts tick (c + 1)) (sym counts) (handed_on p s.handed tick c to inside)

-- what was handed in of a carrier at a tick is no more than comes before it
module _ (s : SenderView) (p : Plan) (same : s.plan ≡ p) (c : ℕ) (inside : c < length p.carriers) (to : HandedTo p s.handed s.tick c) (σ : Stream) (good : IsGood s.plan) (stands : StandsFor s σ) (more : List RawIq) where
  there : c < length σ.samples
  there = omega (arith, inside, stands.as_many, ap (λ (q : Plan). length q.carriers) same)

  long : length (samples_of σ c) ≡ samples_before s.plan c s.tick
  long =
      stands.handed c (omega (arith, inside, ap (λ (q : Plan). length q.carriers) same)) ∙ to.from c (omega arith) inside ∙ ap (λ (q : Plan). samples_before q c s.tick) (sym same)

  pub agrees_on : AgreesBefore s.plan s.tick σ (with_samples σ c more)
  agrees_on = agrees_with s.plan σ c s.tick more good there long

  pub sends_on : (t : SenderView) (output : Output) (rd : Rd) → TakesOn s t c → StandsFor t (with_samples σ c more) → SendsRun s output rd σ → SendsRun t output rd (with_samples σ c more)
  sends_on t output rd takes stands' sends = record {
    good = subst IsGood (sym takes.plan) good;
    stands = stands';
    spelled = λ symbols.
        sends.spelled symbols ∙ sym (disparity_settled s.plan σ (with_samples σ c more) good s.tick s.tick (omega arith) agrees_on)
        ∙ ap (λ q. disparity_before q (with_samples σ c more) s.tick) (sym takes.plan)
        ∙ ap (disparity_before t.plan (with_samples σ c more)) (sym takes.tick);
  }

pub same_text : (output : Output) (p q : Plan) (h g : ℕ) (σ : Stream) (a b to : ℕ) → p ≡ q → h ≡ g → a ≡ b → text_between output p h σ a to ≡ text_between output q g σ b to
same_text output p q h g σ a b to plan run start =
    ap (λ x. text_between output x h σ a to) plan ∙ ap (λ n. text_between output q n σ a to) run ∙ ap (λ n. text_between output q g σ n to) start
