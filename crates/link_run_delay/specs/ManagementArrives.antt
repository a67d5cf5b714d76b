-- What is printed about the management channels of a run, where no control word of it is missed: the frames that were sent, and
-- nothing else. This is the project's own.
use Rattle.std.specs.Prelude.{codes, ◌≡◌, ℕ, ◌+◌, ◌*◌, ◌<◌, List, ◌++◌, map, Option}
use Rattle.std.specs.List.{flat_map, range_with_len}
use Rattle.carrier_plan.specs.declared.plan.Plan.{Plan}
use Rattle.hex.specs.Hex.{encode_lower}
use Rattle.link_base.specs.Record.{Record}
use Rattle.link_receiver.specs.Containers.{control_of_frame}
use Rattle.link_run_management.specs.Events.{numbered}
use Rattle.link_run_management.specs.Management.{frame_lines, run_lines}
use Rattle.link_sender.specs.Managed.{fast_in_word, octets_below, slow_in_word}
use Rattle.link_sender.specs.Stream.{Stream, IsStream}
use Rattle.plan_checker.specs.Rules.{IsGood}
use Rattle.plan_checker.specs.Run.{longest_block}
use Rattle.plan_checker.specs.WordSize.{word_size}
use Rattle.link_run_delay.specs.ControlIsSent.{IsControlReceived}
use Rattle.link_run_delay.specs.Delay.{AreFresh, AreUnaltered, IsPlain}
use Rattle.link_run_delay.specs.PrefixesAreRead.{Ending, between, fast_endings, slow_endings}

-- The slow frames of a stream whose closing flag ends in the slow octets of the frames from one on, as far as below another, in
-- control words of Y octets.
abbrev pub slow_frames : ℕ → Stream → (from to : ℕ) → List (List ℕ)
slow_frames Y σ from to =
    let bits_below = λ (n : ℕ). 8 * octets_below (slow_in_word Y σ.announcement) n in
    map (λ (e : Ending). e.frame) (between (bits_below from) (bits_below to) (slow_endings σ))

-- The fast frames whose R ends in the fast octets of those frames.
abbrev pub fast_frames : ℕ → Stream → (from to : ℕ) → List (List ℕ)
fast_frames Y σ from to =
    let bits_below = λ (n : ℕ). 8 * octets_below (fast_in_word Y σ.announcement) n in
    map (λ (e : Ending). e.frame) (between (bits_below from) (bits_below to) (fast_endings σ))

abbrev pub slow_frame_line : ℕ → List ℕ → List ℕ
slow_frame_line tick frame = numbered tick (codes "slow " ++ encode_lower frame)

abbrev pub fast_frame_line : ℕ → List ℕ → List ℕ
fast_frame_line tick frame = numbered tick (codes "fast " ++ encode_lower frame)

-- the lines of the slow and of the fast frames that are whole with frame n, which is played at a tick
unfoldable pub arriving_lines : ℕ → Stream → (tick n : ℕ) → List ℕ
arriving_lines Y σ tick n =
    flat_map (slow_frame_line tick) (slow_frames Y σ n (n + 1)) ++ flat_map (fast_frame_line tick) (fast_frames Y σ n (n + 1))

-- no frame of a run of h ticks is missed in the flow that has control
abbrev pub IsControlWhole : Plan → ℕ → List Record → Type 0
IsControlWhole p h records = (n : ℕ) → n < h + longest_block p → IsControlReceived p h records n

-- the control words of the frames below n, as they are received
abbrev pub received_words : Plan → ℕ → List Record → ℕ → List (Option (List ℕ))
received_words p h records n = map (control_of_frame p h records) (range_with_len 0 n)

-- What is printed about the channels in a run of so many frames.
pub record ManagementIsPrinted (p : Plan) (h : ℕ) (σ : Stream) (records : List Record) (frames : ℕ) : Type 0 where
  -- about each frame: a line for each management frame that is whole with it, in order, and no other line
  pub lines : (tick n : ℕ) → n < frames
      → frame_lines (word_size p.option) σ.announcement tick (received_words p h records n) (control_of_frame p h records n)
      ≡ arriving_lines (word_size p.option) σ tick n
  -- so about the whole run
  pub text : run_lines (word_size p.option) σ.announcement p.playout (received_words p h records frames)
      ≡ flat_map (λ n. arriving_lines (word_size p.option) σ (n + p.playout) n) (range_with_len 0 frames)
  -- and each management frame that is whole within the run has one line
  pub slow : flat_map (λ n. slow_frames (word_size p.option) σ n (n + 1)) (range_with_len 0 frames) ≡ slow_frames (word_size p.option) σ 0 frames
  pub fast : flat_map (λ n. fast_frames (word_size p.option) σ n (n + 1)) (range_with_len 0 frames) ≡ fast_frames (word_size p.option) σ 0 frames

-- Of a plan that meets the rules, whatever the stream and the capture, where no frame of the run is missed in the flow that has
-- control.
abbrev pub ManagementArrives : Type 0
ManagementArrives =
    (p : Plan) (h : ℕ) (σ : Stream) (records : List Record) → IsGood p → IsPlain p → IsStream p h σ
    → AreUnaltered p h σ records → AreFresh p h σ records → IsControlWhole p h records
    → ManagementIsPrinted p h σ records (h + longest_block p)
