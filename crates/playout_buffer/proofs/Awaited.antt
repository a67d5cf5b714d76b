-- The packets that are awaited at a tick: those that may arrive, and the one of which a frame is played.
use Rattle.std.proofs.Common.{◌≡◌, ℕ, ◌+◌, ◌*◌, ◌/◌, true, arith}
use Rattle.std.proofs.lemmas.Bool.{leb-true, le-leb}
use Rattle.std.proofs.lemmas.Nat.{mod_below, div-add-mod'}
use Rattle.link_base.specs.Window.{last_frame, IsHeld}
use Rattle.playout_buffer.specs.Candidate.{IsCandidate}
use Rattle.playout_buffer.specs.Conditions.{IsWindow}
use Rattle.playout_buffer.specs.declared.window.Window.{Window}
use Rattle.playout_buffer.specs.Held.{is_awaited}

-- a packet that may arrive may have to be held
pub candidate_held : (w : Window) (t seq i : ℕ) → IsWindow w → IsCandidate w t seq i → IsHeld w.frames w.lmin w.playout t i
candidate_held w t seq i is candidate = (candidate.arrives.0, (let late = candidate.arrives.1 in let in_time = is.in_time in omega arith))

pub candidate_awaited : (w : Window) (t seq i : ℕ) → IsWindow w → IsCandidate w t seq i → is_awaited w t i ≡ true
candidate_awaited w t seq i is candidate = le-leb t (last_frame w.frames i + w.playout) (candidate_held w t seq i is candidate).1

pub frame_awaited : (w : Window) (t n : ℕ) → IsWindow w → n + w.playout ≡ t → is_awaited w t (n / w.frames) ≡ true
frame_awaited w t n is played =
    let i = n / w.frames in
    let some = is.some_frames in
    let split = div-add-mod' n w.frames in
    let small = mod_below n w.frames (omega arith) in
    let product : (i + 1) * w.frames ≡ i * w.frames + w.frames = omega arith in
    le-leb t (last_frame w.frames i + w.playout) (omega (arith, split, small, product))

-- and those of the next tick
pub still_awaited : (w : Window) (t i : ℕ) → is_awaited w (t + 1) i ≡ true → is_awaited w t i ≡ true
still_awaited w t i next =
    let late = leb-true (t + 1) (last_frame w.frames i + w.playout) next in
    le-leb t (last_frame w.frames i + w.playout) (omega arith)
