-- Lines of samples that are read one after another, without those after them. This is the project's own.
use Rattle.std.specs.Prelude.{◌≡◌, ℕ, ◌+◌, ◌<◌, ⊤, List, [], ◌∷◌, ◌++◌, length, take, drop, Some}
use Rattle.link_text.specs.Lines.{IsLine, with_feeds}
use Rattle.sample_bits.specs.Samples.{IsWithin}
use Rattle.sample_bits.specs.declared.iq.RawIq.{RawIq}
use Rattle.link_run_send.specs.SampleLine.{sample_of}
use Rattle.link_run_send.specs.declared.due.Due.{Due}
use Rattle.link_run_send.specs.declared.sample_run.SampleRun.{SampleRun}

-- The lines have these samples, each of m bits.
abbrev pub AreSamples : ℕ → List (List ℕ) → List RawIq → Type 0
AreSamples m [] [] = ⊤
AreSamples m (line ∷ lines) (v ∷ samples) = IsLine line × (sample_of line ≡ Some v) × IsWithin m v × AreSamples m lines samples
AreSamples m [] (v ∷ samples) = ⊥
AreSamples m (line ∷ lines) [] = ⊥

-- The first line of these octets, which has so many octets before its line feed, has this sample, of m bits.
pub record IsFrontSample (m : ℕ) (octets : List ℕ) (v : RawIq) (size : ℕ) : Type 0 where
  pub within : size < length octets
  pub line : IsLine (take size octets)
  pub at : octets ≡ take size octets ++ 10 ∷ drop (size + 1) octets
  pub gives : sample_of (take size octets) ≡ Some v
  pub fits : IsWithin m v

-- The octets are so many lines of samples of m bits, which came after those of the carrier that had come. One of it is still missing.
pub record TakesLines (m : ℕ) (old : Due) (octets : List ℕ) (count : ℕ) (new : Due) : Type 0 where
  pub lines : List (List ℕ)
  pub samples : List RawIq
  pub octets_are : octets ≡ with_feeds lines
  pub as_many : count ≡ length lines
  pub are : AreSamples m lines samples
  pub tick : new.tick ≡ old.tick
  pub carrier : new.carrier ≡ old.carrier
  pub due : new.count ≡ old.count
  pub come : new.come ≡ old.come + count
  pub missing : new.come < new.count
  pub taken : take new.come new.samples ≡ take old.come old.samples ++ samples

-- So many lines were read, and no text is settled by them.
pub record StaysAt (old new : SampleRun) (lines : ℕ) : Type 0 where
  pub header : new.header ≡ old.header
  pub sampled : new.sampled ≡ old.sampled
  pub tick : new.due.tick ≡ old.due.tick
  pub made : new.output.sender.tick ≡ old.output.sender.tick
  pub left : new.lines_left + lines ≡ old.lines_left
