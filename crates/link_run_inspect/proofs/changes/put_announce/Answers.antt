use Rattle.std.proofs.Common.{codes, decimal, ◌≡◌, ◌++◌, ◌∷◌, [], ◌∙◌, refl, append_assoc}
use Rattle.link_run_inspect.proofs.changes.put_announce.Goals as goal

pub returns : goal.returns
returns c =
    let number = decimal c.args.number in
    let first = decimal c.args.a.version ++ codes " " ++ decimal c.args.a.hdlc in
    let second = decimal c.args.a.pointer ++ codes " " ++ decimal c.args.a.l1 in
    let all : c.put-3.new.self ≡ (((((c.args.text.now ++ number) ++ codes " announce ") ++ first) ++ codes " ") ++ second) ++ 10 ∷ [] = cc in
    all ∙ simp append_assoc refl
