use Rattle.std.proofs.Common.{◌≡◌, ℕ, ◌-◌, List, ◌++◌, replicate, take, ap, ◌∙◌, arith}
use Rattle.std.proofs.lemmas.List.{take-replicate}
use Rattle.roe_header.proofs.writing.pad.Goals as goal

-- the zeros behind what is written
append_zeros : (written new : List ℕ) (len n : ℕ) → len ≡ n →
    new ≡ written ++ take (60 - len) (replicate 60 0) → new ≡ written ++ replicate (60 - n) 0
append_zeros written new len n e h =
    let zeros : take (60 - len) (replicate 60 0) ≡ replicate (60 - len) 0 = take-replicate (60 - len) 60 0 (omega arith) in
    h ∙ ap (λ (xs : List ℕ). written ++ xs) (zeros ∙ ap (λ (k : ℕ). replicate (60 - k) 0) e)

pub returns-then-len-lt-LEAST : goal.returns-then-len-lt-LEAST
returns-then-len-lt-LEAST c =
    let len = c.len-then-len-lt-LEAST in
    append_zeros c.args.out.now.items c.append.new.out.items len.result _ len.ensures.value c.append.ensures
