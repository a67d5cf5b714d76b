use Rattle.std.proofs.Common.{◌≡◌, take, true}
use Rattle.std.specs.Str.{all_ascii_digits}
use Rattle.std.specs.Str.Parse.{digits_value}
use Rattle.link_text.proofs.numbers.decimal.Given as goal

abbrev pub invariant-loop-c : goal.invariant-loop-c
invariant-loop-c l = record {
  digits : all_ascii_digits (take l.c-index l.text) ≡ true;
  value : l.value ≡ digits_value 10 (take l.c-index l.text);
}
