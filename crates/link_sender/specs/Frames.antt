-- The basic frames that carry a stream (CPRI V7.0, sections 4.2.7.1 to 4.2.7.4), over this project's own numbering of
-- IQ bits.
use Rattle.std.specs.Prelude.{◌≡◌, ◌↔◌, ℕ, ◌*◌, ◌<◌, List, length, take, All, slice_get, Some}
use Rattle.basic_frame.specs.Frames.{iq_bit}
use Rattle.carrier_plan.specs.declared.plan.Carrier.{Carrier}
use Rattle.carrier_plan.specs.declared.plan.Plan.{Plan}
use Rattle.control_words.specs.ControlWord.{word}
use Rattle.plan_checker.specs.WordSize.{word_size, iq_bits}
use Rattle.plan_checker.specs.Place.{place_of}
use Rattle.sample_bits.specs.Samples.{sample_bit}
use Rattle.link_sender.specs.Managed.{managed}
use Rattle.link_sender.specs.Stream.{Stream, sample_at}

-- bit b of sample j of carrier c stands at IQ bit x of frame n
pub record StandsAt (p : Plan) (n x c j b : ℕ) : Type 0 where
  pub carrier : Carrier
  pub at : slice_get p.carriers c ≡ Some carrier
  pub within : b < 2 * carrier.m
  pub frame : (place_of carrier j b).frame ≡ n
  pub bit : (place_of carrier j b).bit ≡ x

-- a bit of a sample that is 1 stands at IQ bit x of frame n
pub record CarriesOne (p : Plan) (σ : Stream) (n x : ℕ) : Type 0 where
  pub carrier : ℕ
  pub number : ℕ
  pub place : ℕ
  pub stands : StandsAt p n x carrier number place
  pub one : sample_bit (sample_at σ carrier number) place ≡ 1

-- These are the octets of frame n.
pub record IsFrame (p : Plan) (σ : Stream) (n : ℕ) (octets : List ℕ) : Type 0 where
  pub size : length octets ≡ 16 * word_size p.option
  pub small : All (λ octet. octet < 256) octets
  pub control : take (word_size p.option) octets ≡ word (word_size p.option) n σ.announcement (managed (word_size p.option) σ n)
  pub bits : (x : ℕ) → x < iq_bits p.option → (iq_bit (word_size p.option) octets x ≡ 1) ↔ CarriesOne p σ n x
