use Rattle.std.proofs.Common.{◌≡◌, ◌<◌, ◌≤◌, ℕ, refl, sym, arith}
use Rattle.std.specs.Prelude.{Result, Ok, Err, is_ok, IsOk, IsErr}
use Rattle.std.proofs.lemmas.Bool.{false≢true}
use Rattle.control_words.specs.declared.announce.Announce.{Announce}
use Rattle.startup_machine.specs.declared.crowded.Crowded.{Crowded}
use Rattle.startup_machine.proofs.side.Side.append.Goals as goal

-- an answer that follows one which says whether there was room
refused : (r : Result (Unit {0}) Announce) (s : Result (Unit {0}) Crowded) (n m : ℕ) → is_ok s ≡ is_ok r → (IsOk r → n < m) × (n < m → IsOk r) → m ≡ 4096 → n ≤ 4096 → (IsErr s → n ≡ 4096) × (n ≡ 4096 → IsErr s)
refused (Ok a) (Ok b) n m same room size within =
    let some : n < m = room.0 refl in
    (λ e. absurd (false≢true e), λ e. absurd (omega arith))
refused (Ok a) (Err b) n m same room size within = absurd (false≢true same)
refused (Err a) (Ok b) n m same room size within = absurd (false≢true (sym same))
refused (Err a) (Err b) n m same room size within =
    let none : n < m → ⊥ = λ some. false≢true (room.1 some) in
    (λ e. omega arith, λ e. refl)

pub returns-clause-crowded : goal.returns-clause-crowded
returns-clause-crowded c =
    let queue = c.self.invariant in
    rw (← c.self.view_is) (refused c.try_push_back.result c.map_err.result _ _ c.map_err.ensures.variant c.try_push_back.ensures.variant queue.room queue.within)
