-- What a receiver keeps of the basic frames that it was handed, beside its management channels.
use Rattle.std.specs.Prelude.{◌≡◌, ℕ, ◌+◌, ◌*◌, List, length, take, Some}
use Rattle.line_code.specs.declared.characters.Rd.TheVariants.{Minus}
use Rattle.hyperframe.specs.Acquires.{Acquires}
use Rattle.hyperframe.specs.CountsLoss.{CountsLoss}
use Rattle.hyperframe.specs.Loss.{violations_in as violations_of}
use Rattle.link_run_inspect.specs.declared.reception.Reception.{Reception}
use Rattle.link_run_inspect.specs.Frames.{commas, counted, disparity_after, control_words, violations_of_last, state_at, place_at, is_lost_at}

pub record Receives (r : Reception) (frames : List (List ℕ)) : Type 0 where
  pub number : r.number ≡ length frames
  pub disparity : r.disparity ≡ disparity_after Minus frames
  pub violations : r.violations ≡ violations_of (counted frames)
  pub acquire : Acquires r.acquire (commas frames)
  pub state : r.state ≡ state_at frames
  pub los : CountsLoss r.los (counted frames)
  pub lost : r.lost ≡ is_lost_at frames
  -- of the hyperframe in hand, the control words and the violations
  pub control : (x : ℕ) → place_at frames ≡ Some x → take (r.width * (x + 1)) r.in_hand.control.items ≡ control_words r.width (x + 1) frames
  pub in_hand : (x : ℕ) → place_at frames ≡ Some x → r.in_hand.violations ≡ violations_of_last (x + 1) frames
