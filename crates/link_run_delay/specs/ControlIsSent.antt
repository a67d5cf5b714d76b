-- The control words that a capture of one stream's packets plays are those that were sent. This is the project's own.
use Rattle.std.specs.Prelude.{◌≡◌, ℕ, false, IsTrue, List, Contains, Some}
use Rattle.carrier_plan.specs.declared.plan.Flow.{Flow}
use Rattle.carrier_plan.specs.declared.plan.Plan.{Plan}
use Rattle.control_words.specs.ControlWord.{word}
use Rattle.link_base.specs.Record.{Record}
use Rattle.link_receiver.specs.Containers.{control_of_frame}
use Rattle.link_receiver.specs.Received.{is_missed}
use Rattle.link_sender.specs.Managed.{managed}
use Rattle.link_sender.specs.Stream.{Stream, IsStream}
use Rattle.plan_checker.specs.Rules.{IsGood}
use Rattle.plan_checker.specs.WordSize.{word_size}
use Rattle.link_run_delay.specs.Delay.{AreFresh, AreUnaltered, IsPlain}

-- frame n is not missed in the flow that has control
abbrev pub IsControlReceived : Plan → ℕ → List Record → ℕ → Type 0
IsControlReceived p h records n = (f : Flow) → Contains p.flows f → IsTrue f.control → is_missed p f h records n ≡ false

-- the control word of frame n of a stream, in words of Y octets
abbrev pub sent_word : ℕ → Stream → ℕ → List ℕ
sent_word Y σ n = word Y n σ.announcement (managed Y σ n)

-- Of a plan that meets the rules, whatever the stream and the capture.
abbrev pub ControlIsSent : Type 0
ControlIsSent =
    (p : Plan) (h : ℕ) (σ : Stream) (records : List Record) (n : ℕ) → IsGood p → IsPlain p → IsStream p h σ
    → AreUnaltered p h σ records → AreFresh p h σ records → IsControlReceived p h records n
    → control_of_frame p h records n ≡ Some (sent_word (word_size p.option) σ n)
