-- What a run carries, as it is handed in: samples, and the frames of the management channels. This is the project's own.
use Rattle.std.specs.Prelude.{◌≡◌, ℕ, List, [], length, All, slice_get, slice_index_or, Some, pos}
use Rattle.carrier_plan.specs.declared.plan.Carrier.{Carrier}
use Rattle.carrier_plan.specs.declared.plan.Plan.{Plan}
use Rattle.control_words.specs.Announcement.{IsWithinTable}
use Rattle.control_words.specs.declared.announce.Announce.{Announce}
use Rattle.ethernet_channel.specs.FastStream as fast
use Rattle.hdlc_channel.specs.SlowStream as slow
use Rattle.plan_checker.specs.Run.{samples_before}
use Rattle.plan_checker.specs.WordSize.{word_size}
use Rattle.sample_bits.specs.declared.iq.RawIq.{RawIq}
use Rattle.sample_bits.specs.Samples.{IsWithin}

pub record Stream : Type 0 where
  -- the samples of each carrier, in the order of the carriers and of time
  pub samples : List (List RawIq)
  -- what is announced in the control words
  pub announcement : Announce
  -- the frames of the slow and of the fast management channel, in the order in which they are sent
  pub slow : List (List ℕ)
  pub fast : List (List ℕ)

abbrev pub samples_of : Stream → ℕ → List RawIq
samples_of σ c = slice_index_or σ.samples c []

-- Sample j of carrier c. After the last sample of a run there is silence.
abbrev pub sample_at : Stream → ℕ → ℕ → RawIq
sample_at σ c j = slice_index_or (samples_of σ c) j (record { i = pos 0; q = pos 0 })

-- Each carrier has the samples that are handed in before tick h, of its width, and the management frames are such as their
-- channels carry.
pub record IsStream (p : Plan) (h : ℕ) (σ : Stream) : Type 0 where
  pub carriers : length σ.samples ≡ length p.carriers
  pub samples : (c : ℕ) (carrier : Carrier) → slice_get p.carriers c ≡ Some carrier → length (samples_of σ c) ≡ samples_before p c h
  pub widths : (c : ℕ) (carrier : Carrier) → slice_get p.carriers c ≡ Some carrier → All (IsWithin carrier.m) (samples_of σ c)
  pub announced : IsWithinTable (word_size p.option) σ.announcement
  pub no_state : σ.announcement.l1 ≡ 0
  pub slow_frames : All slow.IsFrame σ.slow
  pub fast_frames : All fast.IsFrame σ.fast
  pub no_slow : σ.announcement.hdlc ≡ 0 → σ.slow ≡ []
  pub no_fast : σ.announcement.pointer ≡ 0 → σ.fast ≡ []
