use Rattle.std.proofs.Common.{◌≡◌, refl, get_or}
use Rattle.line_code.specs.declared.tables.TheConstants.{SPELLED}
use Rattle.line_code.specs.Tables.{entry_character}
use Rattle.line_code.proofs.DecodeTable.{along, entry_of_spelled, not_spelled_at_both, spelled_at_some}
use Rattle.line_code.proofs.Spelling.{decoded_is}
use Rattle.line_code.proofs.decoder.decode.Goals as goal

pub returns-then-entry-eq3-clause-spelled : goal.returns-then-entry-eq3-clause-spelled
returns-then-entry-eq3-clause-spelled c ch =
    (λ e. cc, λ spelled. absurd (not_spelled_at_both c.args.sym.bits c.if-entry-eq3.true spelled.0 ch spelled.1 spelled.2))

pub returns-then-entry-eq3-clause-none : goal.returns-then-entry-eq3-clause-none
returns-then-entry-eq3-clause-none c =
    (λ e. not_spelled_at_both c.args.sym.bits c.if-entry-eq3.true, λ none. refl)

pub returns-else-entry-eq3-clause-spelled : goal.returns-else-entry-eq3-clause-spelled
returns-else-entry-eq3-clause-spelled c ch =
    let here = spelled_at_some c.args.sym.bits c.args.sym.ten_bits c.if-entry-eq3.false in (
      λ e.
          let answer = c.character_of_entry.ensures in
          let same : entry_character (get_or SPELLED c.args.sym.bits 0) ≡ ch = cc in
          (here.0, here.1, along here.0 c.args.sym.bits _ ch here.1 same here.2),
      λ spelled.
          let same = (entry_of_spelled spelled.0 ch c.args.sym.bits spelled.1 spelled.2).2 in
          let answer = c.character_of_entry.ensures in
          cc,
    )

pub returns-else-entry-eq3-clause-none : goal.returns-else-entry-eq3-clause-none
returns-else-entry-eq3-clause-none c =
    let here = spelled_at_some c.args.sym.bits c.args.sym.ten_bits c.if-entry-eq3.false in
    (λ e. cc, λ none. absurd (none _ _ _ here.2))

pub returns-then-entry-eq3-clause-found : goal.returns-then-entry-eq3-clause-found
returns-then-entry-eq3-clause-found c = decoded_is c.args.sym.bits _ (returns-then-entry-eq3-clause-spelled c)

pub returns-else-entry-eq3-clause-found : goal.returns-else-entry-eq3-clause-found
returns-else-entry-eq3-clause-found c = decoded_is c.args.sym.bits _ (returns-else-entry-eq3-clause-spelled c)
