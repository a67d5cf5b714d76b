use Rattle.std.proofs.Common.{◌≡◌, refl, sym, ◌∙◌, ap, None}
use Rattle.link_text.specs.Lines.{Reading}
use Rattle.link_text.proofs.Answered.{keeps_ending, shows_ending}
use Rattle.link_text.proofs.lines.LineReader.next.Goals as goal

pub returns-in-Some-ended : goal.returns-in-Some-ended
returns-in-Some-ended g c =
    let fresh : c.args.self.now.ended ≡ None = sym (ap (λ (r : Reading). r.ended) c.self.view_is) ∙ c.in_default.is in
    let advance = c.advance-self-inside.ensures in (
      (
        refl,
        λ _. tt,
        keeps_ending c.args.self.now c.self.inside.buffer c.advance-self-inside.new.self _ _ c.advance-self-inside.result c.in-Some-ended.ending c.line-in-Some-ended.result
            fresh (ap (λ (r : Reading). r.rest) c.self.view_is) advance.advanced c.in-Some-ended.is advance.fits c.line-in-Some-ended.ensures,
      ),
      record {
        keeps = tt;
        again = rw fresh tt;
        shows = shows_ending c.args.self.now _ _ c.advance-self-inside.result c.in-Some-ended.ending c.line-in-Some-ended.result fresh c.in-Some-ended.is c.line-in-Some-ended.ensures advance.shows;
        files = advance.files;
        chosen = advance.advanced.took.chosen;
      },
    )
