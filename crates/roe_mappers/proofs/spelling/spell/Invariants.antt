use Rattle.std.proofs.Common.{◌≡◌, ◌*◌, take}
use Rattle.line_code.specs.Line.{disparity_after_all, frame_characters, symbols_of}
use Rattle.line_code.specs.Packed.{symbols_in}
use Rattle.roe_mappers.proofs.spelling.spell.Given as goal

-- the characters so far
abbrev pub invariant-loop-group : goal.invariant-loop-group
invariant-loop-group l = record {
  spelled : symbols_in (take (5 * l.group) l.out) ≡ symbols_of l.fn.rd (take (4 * l.group) (frame_characters l.n l.octets));
  after : l.disparity ≡ disparity_after_all l.fn.rd (take (4 * l.group) (frame_characters l.n l.octets));
}
