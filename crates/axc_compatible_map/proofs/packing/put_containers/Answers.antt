use Rattle.std.proofs.Common.{◌≡◌, ℕ, ◌+◌, ◌*◌, ◌/◌, ◌%◌, ◌<◌, ◌≤◌, ◌∙◌, cond, leb, refl, sym, ap, arith, ⊎_elim}
use Rattle.std.proofs.lemmas.Bool.{cases_lt, leb-true}
use Rattle.std.proofs.lemmas.Nat.{mul-le}
use Rattle.link_base.specs.Bits.{bit_of}
use Rattle.sample_bits.specs.Blocks.{bit_of_item}
use Rattle.sample_bits.proofs.RateLemmas.{some_frames}
use Rattle.axc_compatible_map.specs.Container.{bit_of_container, frame_containers}
use Rattle.axc_compatible_map.proofs.Places.{some_in_frame}
use Rattle.axc_compatible_map.proofs.Stuffing.{block_containers, bit_of_container-parts, sample-within, some_containers}
use Rattle.axc_compatible_map.proofs.packing.put_containers.Goals as goal
use Rattle.axc_compatible_map.proofs.packing.put_containers.Goals.{then-carries, else-carries}

-- what the containers of the frames before are due
first_share : (phase s k n : ℕ) → 1 ≤ k → (phase * n + 0) * s ≡ phase * s / k * (n * k) + phase * s % k * n
first_share phase s k n frames =
    let whole = ap (λ v. v * n) (let e : k * (phase * s / k) + phase * s % k ≡ phase * s = omega arith in e) in
    omega arith

pub loop-j-init : goal.loop-j-init
loop-j-init g c =
    let s = c.args.s in
    let k = c.args.k in
    let phase = c.args.phase in
    let n = frame_containers s k in
    let frames = some_frames s k c.requires.rate in
    let some = some_in_frame s k (omega arith) frames in
    let count = ap (λ v. phase * s % k * v) c.containers-count.ensures in
    let part = mul-le (phase * s % k + 1) n k n (omega arith) (omega arith) in
    record {
      share = first_share phase s k n frames ∙ ap (λ v. phase * s / k * (n * k) + v) (sym count);
      part = omega arith;
      put = λ j b none small. absurd (omega arith);
      before = λ x h. refl;
      after = λ x h. refl;
    }

-- a container of the frame is one of the block
within_block : (phase j n k : ℕ) → phase < k → j < n → phase * n + j < n * k
within_block phase j n k frame within =
    let most = mul-le (phase + 1) n k n (omega arith) (omega arith) in
    omega arith

pub word_or_zero-word-requires-clause-sample : goal.word_or_zero-word-requires-clause-sample
word_or_zero-word-requires-clause-sample g c carries =
    let s = c.args.s in
    let k = c.args.k in
    let n = frame_containers s k in
    let all = ap (λ v. v * k) c.containers-count.ensures in
    let more = leb-true (c.containers-count.result * k) (c.loop-j.due + s) carries in
    let known = c.loop-j.invariant in
    omega (arith, sample-within s (n * k) (c.args.phase * n + c.loop-j.j) c.loop-j.sample c.loop-j.due (within_block c.args.phase c.loop-j.j n k c.requires.frame (omega arith)) known.share (omega arith))

pub overflow_add-sample : goal.overflow_add-sample
overflow_add-sample g c =
    let s = c.args.s in
    let k = c.args.k in
    let n = frame_containers s k in
    let all = ap (λ v. v * k) c.containers-count.ensures in
    let more = c.if-carries.true in
    let known = c.loop-j.invariant in
    omega (arith, sample-within s (n * k) (c.args.phase * n + c.loop-j.j) c.loop-j.sample c.loop-j.due (within_block c.args.phase c.loop-j.j n k c.requires.frame (omega arith)) known.share (omega arith))

pub loop-j-preserved : goal.loop-j-preserved
loop-j-preserved g c =
    let m = c.args.m in
    let s = c.args.s in
    let k = c.args.k in
    let n = frame_containers s k in
    let t = block_containers s k in
    let j0 = c.loop-j.j in
    let u : ℕ = c.args.phase * n + j0 in
    let sample = c.loop-j.sample in
    let due = c.loop-j.due in
    let known = c.loop-j.invariant in
    let bits = bit_of_item g.T.SampleWord.sample c.args.block.now in
    let new = c.put_bits.new.octets in
    let all : c.containers-count.result * k ≡ t = ap (λ v. v * k) c.containers-count.ensures in
    let count = ap (λ v. 2 * m * v) c.containers-count.ensures in
    let few = some_containers s k (omega arith) (some_frames s k c.requires.rate) in
    let below = within_block c.args.phase j0 n k c.requires.frame (omega arith) in
    record {
      share = elim c.if-carries.branch [
        | then-carries w ↦ let product = ap (λ v. v * t) w.sample-is in omega (arith, known.share, w.if-carries.true, w.due-is)
        | else-carries w ↦ let product = ap (λ v. v * t) w.sample-is in omega (arith, known.share, w.due-is)
      ];
      part = elim c.if-carries.branch [
        | then-carries w ↦ omega (arith, known.part, w.if-carries.true, w.due-is)
        | else-carries w ↦ omega (arith, w.if-carries.false, w.due-is)
      ];
      put = λ j b h small. ⊎_elim
          (λ early.
          let before = mul-le (j + 1) (2 * m) j0 (2 * m) (omega arith) (omega arith) in
          c.put_bits.ensures.before (c.args.at + j * (2 * m) + b) (omega arith) ∙ known.put j b early small)
          (λ late.
          let same : j ≡ j0 = omega arith in
          let product = ap (λ v. v * (2 * m)) same in
          let place : c.args.at + j * (2 * m) + b ≡ c.args.at + 2 * m * j0 + b = omega arith in
          ap (bit_of new) place ∙ c.put_bits.ensures.put b small ∙ c.word_or_zero-word.ensures b small
          ∙ ap (λ v. cond (leb v (due + s)) (bits sample b) 0) all
          ∙ bit_of_container-parts s k bits u b sample due (some_frames s k c.requires.rate) below known.share known.part
          ∙ ap (λ v. bit_of_container s k bits (c.args.phase * n + v) b) (sym same))
          (cases_lt j j0);
      before = λ x h. c.put_bits.ensures.before x (omega arith) ∙ known.before x h;
      after = λ x h. c.put_bits.ensures.after x (omega arith) ∙ known.after x h;
    }
