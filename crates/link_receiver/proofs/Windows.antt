-- The window of a flow of a good plan is one that a playout buffer takes.
use Rattle.std.proofs.Common.{ℕ, ◌+◌, ◌^◌, ◌≤◌, Contains, subst, arith}
use Rattle.std.proofs.lemmas.Nat.{mul-le}
use Rattle.carrier_plan.specs.declared.plan.Flow.{Flow}
use Rattle.carrier_plan.specs.declared.plan.Plan.{Plan}
use Rattle.plan_checker.specs.Flows.{HasPayload}
use Rattle.plan_checker.specs.Packets.{run_packets}
use Rattle.plan_checker.specs.Rules.{IsGood}
use Rattle.plan_checker.specs.Rules.Rule.{Counts, SampleRate, PayloadSize, ArrivalWindow, PlayedInTime, SequenceNumbers, BufferRoom}
use Rattle.plan_checker.specs.Run.{longest_block}
use Rattle.plan_checker.specs.SampleRate.{HasSampleRate}
use Rattle.plan_checker.specs.Timing.{HasWindow, IsPlayedInTime, HasSequenceNumbers, HasRoom}
use Rattle.plan_checker.proofs.Longest.{greatest_reached_some}
use Rattle.playout_buffer.specs.Conditions.{IsWindow}
use Rattle.sample_bits.proofs.RateLemmas.{div_ceil-le}
use Rattle.link_receiver.specs.Records.{window_of}

-- what a good plan says of a flow of it
pub record IsGoodFlow (p : Plan) (f : Flow) : Type 0 where
  pub payload : HasPayload p f
  pub window : HasWindow f
  pub timed : IsPlayedInTime p.playout f
  pub numbers : HasSequenceNumbers f
  pub room : HasRoom p.playout f

pub good_flow : (p : Plan) (f : Flow) → IsGood p → Contains p.flows f → IsGoodFlow p f
good_flow p f good here = record {
  payload = subst (HasPayload p) here.2 (good PayloadSize here.0 here.1 f);
  window = subst HasWindow here.2 (good ArrivalWindow here.0 here.1 f);
  timed = subst (IsPlayedInTime p.playout) here.2 (good PlayedInTime here.0 here.1 f);
  numbers = subst HasSequenceNumbers here.2 (good SequenceNumbers here.0 here.1 f);
  room = subst (HasRoom p.playout) here.2 (good BufferRoom here.0 here.1 f);
}

pub longest_block-short : (p : Plan) → IsGood p → longest_block p ≤ 96
longest_block-short p good =
    let found = greatest_reached_some p.carriers (good Counts 0 (omega arith)).some_carriers in
    let rate = subst HasSampleRate found.3 (good SampleRate found.0 found.2 found.1) in
    omega (arith, rate.short, found.4)

pub run_packets-few : (p : Plan) (f : Flow) (h : ℕ) → IsGood p → IsGoodFlow p f → h ≤ 2 ^ 40 → run_packets p f h ≤ 2 ^ 41
run_packets-few p f h good flow few =
    let short = longest_block-short p good in
    let product = mul-le (2 ^ 41) 1 (2 ^ 41) f.frames (omega arith) flow.payload.some_frames in
    div_ceil-le (h + longest_block p) f.frames (2 ^ 41) flow.payload.some_frames (omega (arith, product))

pub window-meets : (p : Plan) (f : Flow) (h : ℕ) → IsGood p → Contains p.flows f → h ≤ 2 ^ 40 → IsWindow (window_of p f h)
window-meets p f h good here few =
    let flow = good_flow p f good here in
    record {
      some_frames = flow.payload.some_frames;
      few_frames = flow.payload.few_frames;
      some_octets = flow.payload.some_octets;
      few_octets = flow.payload.few_octets;
      order = flow.window.0;
      soon = flow.window.1;
      in_time = flow.timed.0;
      short_playout = flow.timed.1;
      some_p = flow.numbers.some_p;
      small_p = flow.numbers.small_p;
      some_q = flow.numbers.some_q;
      small_q = flow.numbers.small_q;
      enough_numbers = flow.numbers.enough;
      some_room = flow.room.some;
      small_room = flow.room.small;
      enough_room = flow.room.enough;
      few_packets = run_packets-few p f h good flow few;
    }
