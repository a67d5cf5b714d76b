use Rattle.std.proofs.Common.{◌≡◌, ℕ, ◌/◌, ◌%◌, ◌<◌, cond, [], ◌∷◌, length, sym, ap, ◌∙◌, arith}
use Rattle.std.proofs.lemmas.Bool.{eq-eqb}
use Rattle.std.proofs.lemmas.Slice.{take-put_mid_below}
use Rattle.plan_checker.specs.Packets.{sequence_of}
use Rattle.roe_header.specs.Layout.{four_octets}
use Rattle.link_sender.specs.Rings.{front_of, order_of}
use Rattle.link_sender.proofs.Slots.{at_mid}
use Rattle.link_sender.proofs.packet_ring.number_packet.Goals as goal

pub returns-then-n-frames-eq0-clause-front : goal.returns-then-n-frames-eq0-clause-front
unfolding front_of
returns-then-n-frames-eq0-clause-front c = take-put_mid_below 18 4 c.args.packet.now c.copy_from_slice.new.self 18 (omega arith) (omega arith)

-- the highest octet of a number of four octets
highest : (n : ℕ) → n < 4294967296 → (n / 16777216 % 256) ∷ (n / 65536 % 256) ∷ (n / 256 % 256) ∷ (n % 256) ∷ [] ≡ four_octets n
highest n low = let e : n / 16777216 % 256 ≡ n / 16777216 = omega arith in ap (λ x. x ∷ (n / 65536 % 256) ∷ (n / 256 % 256) ∷ (n % 256) ∷ []) e

pub returns-then-n-frames-eq0-clause-order : goal.returns-then-n-frames-eq0-clause-order
unfolding order_of
returns-then-n-frames-eq0-clause-order c =
    let n : ℕ = c.args.n in
    let frames = c.args.flow.now.frames in
    let order = c.sequence-order.result in
    let written = c.copy_from_slice.new.self in
    let four : length written ≡ 4 = ap length (c.copy_from_slice.ensures.after ∙ c.to_be_bytes.ensures) in
    let test : n % frames ≡ 0 = ap (λ x. n % x) (sym c.from-frames.ensures) ∙ c.if-n-frames-eq0.true in
    at_mid 18 4 c.args.packet.now written (omega arith) four ∙ c.copy_from_slice.ensures.after ∙ c.to_be_bytes.ensures ∙ highest order c.sequence-order.type_inv
    ∙ ap four_octets (c.sequence-order.ensures ∙ ap (λ x. sequence_of c.args.flow.now (n / x)) c.from-frames.ensures)
    ∙ ap (λ b. cond b (four_octets (sequence_of c.args.flow.now (n / frames))) (order_of c.args.packet.now)) (sym (eq-eqb (n % frames) 0 test))
