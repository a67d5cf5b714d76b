-- What `send` and `line` write of a file of samples, over the stream of all its lines. This is the project's own.
use Rattle.std.specs.Prelude.{codes, bytes_eq, ◌≡◌, ◌⊎◌, ◌↔◌, ◌<◌, ◌≤◌, ℕ, Bool, false, ◌&&◌, ◌||◌, is_none, if◌then◌else◌, None, List, [], ◌∷◌, ◌++◌, length}
use Rattle.carrier_plan.specs.declared.plan.Plan.{Plan}
use Rattle.link_run_capture.specs.Capture.{run_header}
use Rattle.link_run_capture.specs.declared.header.Header.{Header}
use Rattle.link_run_capture.specs.declared.header.RunFile.TheVariants.{Samples}
use Rattle.link_run_capture.specs.declared.header.Version.{Version}
use Rattle.link_run_capture.specs.declared.header.Version.TheVariants.{One, Two}
use Rattle.link_run_feed.specs.Feed.{feed_answer, settled}
use Rattle.link_run_feed.specs.Leads.{EndsGood}
use Rattle.link_run_feed.specs.declared.status.Status.TheVariants.{Done}
use Rattle.link_sender.specs.Stream.{IsStream, Stream, samples_of}
use Rattle.link_text.specs.Lines.{lines_of, longest}
use Rattle.link_text.specs.Printed.{ended}
use Rattle.plan_checker.specs.Rules.{IsGood}
use Rattle.plan_checker.specs.Run.{samples_before}
use Rattle.plan_checker.specs.WordSize.{word_size}
use Rattle.link_run_send.specs.Lacking.{complete_ticks, lacking_tick}
use Rattle.link_run_send.specs.SampleFile.{AreLines, BeginsSampleFile, IsSampleFile, stream_of}
use Rattle.link_run_send.specs.Sent.{Sent, has_samples, sent_form, sent_lines}
use Rattle.link_run_send.specs.SentText.{first_line, last_tick, text_between}
use Rattle.link_run_send.specs.declared.run_output.Output.{Output}

-- the text of all ticks below this one, after the first line
abbrev pub text_to : Output → Plan → Header → Stream → ℕ → List ℕ
text_to output p header σ tick = first_line output p header ++ text_between output p header.run_ticks σ 0 tick

-- the whole text of a run that carries this stream
abbrev pub whole_text : Output → Plan → Header → Stream → List ℕ
whole_text output p header σ = text_to output p header σ (last_tick output p header.run_ticks) ++ ended (codes "end")

-- whether the last line follows, and all samples have come before it
abbrev pub is_over : Plan → ℕ → Stream → List (List ℕ) → Bool
is_over p h σ [] = false
is_over p h σ (line ∷ lines) = bytes_eq line (codes "end") && is_none (lacking_tick p h σ)

-- The ticks below this one are settled by what has come: they have all their samples. In version 2 none is before the first sample
-- or the last line, since frames of the management channels may come.
abbrev pub settled_ticks : Version → Plan → ℕ → Stream → Bool → ℕ
settled_ticks One p h σ over = complete_ticks p h σ
settled_ticks Two p h σ over = if has_samples σ || over then complete_ticks p h σ else 0

-- What is written of a file that is good to its end: the text of the stream of all its lines.
pub record IsWholeText (output : Output) (p : Plan) (octets text : List ℕ) : Type 0 where
  pub header : Header
  pub lines : List (List ℕ)
  pub file : IsSampleFile p octets header lines
  pub is_stream : IsStream p header.run_ticks (stream_of p header lines)
  pub written : text ≡ whole_text output p header (stream_of p header lines)

-- a run of which these lines were read
abbrev pub sent_after : Output → Plan → Header → List (List ℕ) → Sent
sent_after output p header lines =
    let σ = stream_of p header lines in
    record { plan = p; output = output; header = header; stream = σ; settled = settled_ticks header.version p header.run_ticks σ false }

-- What is written of a file that begins with these lines, the first after which is not good: the text of the ticks that they settle,
-- by their stream.
pub record IsSettledText (output : Output) (p : Plan) (octets text : List ℕ) : Type 0 where
  pub header : Header
  pub lines : List (List ℕ)
  pub following : List (List ℕ)
  pub begins : BeginsSampleFile p octets header lines following
  pub ends : EndsGood sent_lines (sent_after output p header lines) following
  pub written : let σ = stream_of p header lines in
      text ≡ text_to output p header σ (settled_ticks header.version p header.run_ticks σ (is_over p header.run_ticks σ following))

-- No header was read: there is no whole line, or the first one is too long, or is no header.
abbrev pub HasNoHeader : Plan → List ℕ → Type 0
HasNoHeader p octets =
    (first : List ℕ) (rest : List (List ℕ)) → lines_of octets ≡ first ∷ rest → length first ≤ longest → run_header Samples (word_size p.option) first ≡ None

-- What is settled of a file: nothing before its header was read, and then the text that its good lines settle.
abbrev pub IsSettled : Output → Plan → List ℕ → List ℕ → Type 0
IsSettled output p octets text = (HasNoHeader p octets × (text ≡ [])) ⊎ IsSettledText output p octets text

-- What is written while the lines of a file come is the text of the stream of all of them, by any plan that meets the rules.
pub record TextIsWhole : Type 0 where
  -- the text that stands before the line of a bad line, and alone after a read fault
  pub settles : (output : Output) (p : Plan) (octets : List ℕ) → IsGood p → IsSettled output p octets (settled (sent_form output p) octets)
  -- the text of an answer that is done
  pub done : (output : Output) (p : Plan) (octets : List ℕ) → IsGood p → (feed_answer (sent_form output p) octets).status ≡ Done
      → IsWholeText output p octets (feed_answer (sent_form output p) octets).text

-- The text of the ticks that are settled by some lines is the same by the stream of any lines that begin with them.
abbrev pub TextIsSettled : Type 0
TextIsSettled =
    (output : Output) (p : Plan) (header : Header) (lines more : List (List ℕ)) → IsGood p → AreLines header.version (lines ++ more)
    → let σ = stream_of p header lines in
    let tick = settled_ticks header.version p header.run_ticks σ false in
    text_between output p header.run_ticks (stream_of p header (lines ++ more)) 0 tick ≡ text_between output p header.run_ticks σ 0 tick

-- The ticks that are complete are as many, of a run of h ticks, as all carriers have the samples of.
abbrev pub TicksAreComplete : Type 0
TicksAreComplete =
    (p : Plan) (h : ℕ) (σ : Stream) (n : ℕ)
    → (n ≤ complete_ticks p h σ) ↔ ((n ≤ h) × ((c : ℕ) → c < length p.carriers → samples_before p c n ≤ length (samples_of σ c)))
