use Rattle.std.proofs.Common.{◌≡◌, ℕ, ◌≤◌, List, ◌∷◌, ◌++◌, length, take, drop, min, Some, sym, ap, ◌∙◌, subst, arith}
use Rattle.std.proofs.lemmas.List.{length-append, length-take-le, take-append-le, take_at}
use Rattle.circular_buffer.specs.Buffer.{Buffer, buffer}
use Rattle.hdlc_channel.specs.Outgoing.{cut, IsQueue}
use Rattle.hdlc_channel.proofs.Queues.{first_of, none_of, cut-none, cut-first, first_few, first_inside, popped_queue}
use Rattle.hdlc_channel.proofs.frame_queue.FrameQueue.pop.Goals as goal

-- so many octets were moved
moved : (k n : ℕ) (ring dst : List ℕ) → n ≤ 1500 → n ≤ length ring → 1500 ≤ length dst → k ≡ min (length (take n dst)) (length ring) → k ≡ n
moved k n ring dst few inside room e = let t = length-take-le n dst (omega arith) in omega arith

-- they stand in front
in_front : (n : ℕ) (ring rest new more : List ℕ) → n ≤ length ring → new ≡ take n ring ++ rest → take n ring ≡ take n (new ++ more)
in_front n ring rest new more inside e =
    let l = length-take-le n ring inside in
    sym (ap (λ xs. take n (xs ++ more)) e ∙ take-append-le n (take n ring ++ rest) more (omega (arith, l, length-append (take n ring) rest)) ∙ take_at (take n ring) rest n l)

pub returns-in_default-clause-frame : goal.returns-in_default-clause-frame
returns-in_default-clause-frame c =
    let q = c.self.inside in
    sym c.self.view_is ∙ cut-none q.lengths.items q.octets.items (none_of q.lengths.items c.in_default.ensures.value)

pub invariant_of-self-2 : goal.invariant_of-self-2
invariant_of-self-2 c =
    let l = c.self.inside.lengths in
    let o = c.self.inside.octets in
    let n = c.from-len.result in
    let first : l.items ≡ n ∷ drop 1 l.items = first_of l.items n (ap Some c.from-len.ensures ∙ c.in-Some.ensures.value) in
    let few : n ≤ 1500 = first_few l.items o.items l.capacity o.capacity c.self.invariant n first in
    let inside : n ≤ length o.items = first_inside l.items o.items l.capacity o.capacity c.self.invariant n first in
    let count = moved c.read_into.result n o.items c.args.octets.now few inside c.requires c.read_into.ensures.count in
    let rest : c.read_into.new.self ≡ buffer (drop n o.items) o.capacity = c.read_into.ensures.items ∙ ap (λ k. buffer (drop k o.items) o.capacity) count in
    let P : Buffer ℕ → Buffer ℕ → Type 0 = λ a b. IsQueue a.items b.items a.capacity b.capacity in
    subst (λ a. P a c.read_into.new.self) (sym c.pop_front.ensures.items)
    (subst (P (buffer (drop 1 l.items) l.capacity)) (sym rest) (popped_queue l.items o.items l.capacity o.capacity c.self.invariant n first))

pub returns-clause-frame : goal.returns-clause-frame
returns-clause-frame c =
    let l = c.self.inside.lengths in
    let o = c.self.inside.octets in
    let n = c.from-len.result in
    let first : l.items ≡ n ∷ drop 1 l.items = first_of l.items n (ap Some c.from-len.ensures ∙ c.in-Some.ensures.value) in
    let few : n ≤ 1500 = first_few l.items o.items l.capacity o.capacity c.self.invariant n first in
    let inside : n ≤ length o.items = first_inside l.items o.items l.capacity o.capacity c.self.invariant n first in
    let count = moved c.read_into.result n o.items c.args.octets.now few inside c.requires c.read_into.ensures.count in
    let read : c.read_into.new.dst ≡ take n o.items ++ drop n (take n c.args.octets.now) =
    c.read_into.ensures.read ∙ ap (λ k. take k o.items ++ drop k (take n c.args.octets.now)) count in
    let rest : c.read_into.new.self ≡ buffer (drop n o.items) o.capacity = c.read_into.ensures.items ∙ ap (λ k. buffer (drop k o.items) o.capacity) count in
    sym c.self.view_is ∙ cut-first l.items o.items n first
    ∙ ap (λ f. f ∷ cut (drop 1 l.items) (drop n o.items)) (in_front n o.items (drop n (take n c.args.octets.now)) c.read_into.new.dst (drop n c.args.octets.now) inside read)
    ∙ ap (λ b. take n (c.read_into.new.dst ++ drop n c.args.octets.now) ∷ cut (drop 1 l.items) b.items) (sym rest)
    ∙ ap (λ b. take n (c.read_into.new.dst ++ drop n c.args.octets.now) ∷ cut b.items c.read_into.new.self.items) (sym c.pop_front.ensures.items)
