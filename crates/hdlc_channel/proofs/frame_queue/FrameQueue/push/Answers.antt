use Rattle.std.proofs.Common.{◌≡◌, ℕ, ◌+◌, ◌≤◌, List, [], ◌∷◌, ◌++◌, length, sym, ap, ◌∙◌, subst}
use Rattle.circular_buffer.specs.Buffer.{Buffer, buffer}
use Rattle.hdlc_channel.specs.Outgoing.{cut, IsQueue}
use Rattle.hdlc_channel.specs.SlowStream.{room_of}
use Rattle.hdlc_channel.proofs.Queues.{pushed_lengths, pushed_octets, pushed_queue, cut-push}
use Rattle.hdlc_channel.proofs.frame_queue.FrameQueue.push.Goals as goal

-- there is room in what is kept
room_inside : (inside seen : List (List ℕ)) (n : ℕ) → inside ≡ seen → n + 2 ≤ room_of seen → n + 2 ≤ room_of inside
room_inside inside seen n same room = subst (λ (q : List (List ℕ)). n + 2 ≤ room_of q) (sym same) room

pub invariant_of-self : goal.invariant_of-self
invariant_of-self c =
    let l = c.self.inside.lengths in
    let o = c.self.inside.octets in
    let room = room_inside _ _ (length c.args.frame.now) c.self.view_is c.requires.room in
    let more : c.push_back.new.self ≡ buffer (l.items ++ length c.args.frame.now ∷ []) l.capacity =
    c.push_back.ensures.items ∙ ap (λ xs. buffer xs l.capacity) (pushed_lengths l.items o.items l.capacity o.capacity c.self.invariant c.args.frame.now c.requires.few room) in
    let longer : c.extend_from_slice.new.self ≡ buffer (o.items ++ c.args.frame.now) o.capacity =
    c.extend_from_slice.ensures ∙ ap (λ xs. buffer xs o.capacity) (pushed_octets l.items o.items l.capacity o.capacity c.self.invariant c.args.frame.now c.requires.few room) in
    let P : Buffer ℕ → Buffer ℕ → Type 0 = λ a b. IsQueue a.items b.items a.capacity b.capacity in
    subst (λ a. P a c.extend_from_slice.new.self) (sym more)
    (subst (P (buffer (l.items ++ length c.args.frame.now ∷ []) l.capacity)) (sym longer)
    (pushed_queue l.items o.items l.capacity o.capacity c.self.invariant c.args.frame.now c.requires.few room))

pub returns : goal.returns
returns c =
    let l = c.self.inside.lengths in
    let o = c.self.inside.octets in
    let room = room_inside _ _ (length c.args.frame.now) c.self.view_is c.requires.room in
    let more : c.push_back.new.self ≡ buffer (l.items ++ length c.args.frame.now ∷ []) l.capacity =
    c.push_back.ensures.items ∙ ap (λ xs. buffer xs l.capacity) (pushed_lengths l.items o.items l.capacity o.capacity c.self.invariant c.args.frame.now c.requires.few room) in
    let longer : c.extend_from_slice.new.self ≡ buffer (o.items ++ c.args.frame.now) o.capacity =
    c.extend_from_slice.ensures ∙ ap (λ xs. buffer xs o.capacity) (pushed_octets l.items o.items l.capacity o.capacity c.self.invariant c.args.frame.now c.requires.few room) in
    ap (λ b. cut b.items c.extend_from_slice.new.self.items) more ∙ ap (λ b. cut (l.items ++ length c.args.frame.now ∷ []) b.items) longer
    ∙ cut-push l.items o.items c.args.frame.now c.self.invariant.whole ∙ ap (λ q. q ++ c.args.frame.now ∷ []) c.self.view_is
