use Rattle.std.proofs.Common.{◌≡◌, ◌-◌, ◌<◌, ◌≤◌, true, length, take, get_or, sym, ap, ◌∙◌, arith}
use Rattle.hdlc_channel.proofs.ContentReads.{cut_at_zero, cut_at_one, cut_at_none}
use Rattle.hdlc_channel.proofs.content.Content.len_before_flag.Goals.{else-len-gt0-via-then-len-gt0+else-not-bit, else-len-gt0-via-else-len-gt0}
use Rattle.hdlc_channel.proofs.content.Content.len_before_flag.Goals as goal

pub returns-then-not-bit-clause-front : goal.returns-then-not-bit-clause-front
returns-then-not-bit-clause-front c =
    let bits = c.args.self.now in
    let cut : c.saturating_sub-len.result ≡ length bits - 6 = c.saturating_sub-len.ensures ∙ ap (λ n. n - 6) c.len.ensures.len in
    ap (λ n. take (n - 1) bits) cut
    ∙ cut_at_zero bits (let h : 0 < c.saturating_sub-len.result = c.if-len-gt0.true in omega arith) (ap (λ n. get_or bits (n - 1) true) (sym cut) ∙ sym c.bit.ensures ∙ c.if-not-bit.true)

pub returns-else-len-gt0-clause-front : goal.returns-else-len-gt0-clause-front
returns-else-len-gt0-clause-front c =
    let bits = c.args.self.now in
    let cut : c.saturating_sub-len.result ≡ length bits - 6 = c.saturating_sub-len.ensures ∙ ap (λ n. n - 6) c.len.ensures.len in
    ap (λ n. take n bits) cut
    ∙ elim c.else-len-gt0.branch [
      | else-len-gt0-via-then-len-gt0+else-not-bit w ↦ cut_at_one bits (let h : 0 < c.saturating_sub-len.result = w.if-len-gt0.true in omega arith) (ap (λ n. get_or bits (n - 1) true) (sym cut) ∙ sym w.bit.ensures ∙ w.if-not-bit.false)
      | else-len-gt0-via-else-len-gt0 w ↦ cut_at_none bits (let h : c.saturating_sub-len.result ≤ 0 = w.if-len-gt0.false in omega arith)
    ]
