use Rattle.std.proofs.Common.{◌+◌, ◌/◌, ◌%◌, ◌∙◌, ◌++◌, ◌∷◌, [], ap, sym, arith, append_assoc}
use Rattle.std.proofs.lemmas.Fmt.{decimal_digit, decimal_step}
use Rattle.link_text.proofs.text_buffer.TextBuffer.put_short.Goals as goal

pub returns-then-n-lt10-clause-text : goal.returns-then-n-lt10-clause-text
returns-then-n-lt10-clause-text c =
    c.put_octet.ensures ∙ ap (λ text. c.args.self.now ++ text) (sym (decimal_digit c.args.n c.if-n-lt10.true))

pub returns-else-n-lt10-clause-text : goal.returns-else-n-lt10-clause-text
returns-else-n-lt10-clause-text c =
    let n = c.args.n in
    let last = 48 + n % 10 in
    c.put_octet-else-n-lt10-2.ensures
    ∙ ap (λ text. text ++ last ∷ []) c.put_octet-else-n-lt10.ensures
    ∙ append_assoc c.args.self.now ((48 + n / 10) ∷ []) (last ∷ [])
    ∙ ap (λ text. c.args.self.now ++ text)
    (sym (decimal_step n (omega arith) (omega arith) ∙ ap (λ text. text ++ last ∷ []) (decimal_digit (n / 10) (omega arith))))
