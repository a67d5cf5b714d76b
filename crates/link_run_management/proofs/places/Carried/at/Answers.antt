use Rattle.std.proofs.Common.{◌≡◌, ◌∙◌, true, arith}
use Rattle.std.proofs.lemmas.Bool.{lt-ltb}
use Rattle.control_words.specs.Places.{is_fast_place}
use Rattle.link_run_management.proofs.WordPlaces.{slow_none}
use Rattle.link_run_management.proofs.places.Carried.at.Goals as goal

pub returns-then-fast-gt0 : goal.returns-then-fast-gt0
returns-then-fast-gt0 g c =
    let count = c.fast_len-fast.result in
    let is_fast : is_fast_place c.args.a.pointer c.args.x ≡ true = c.fast_len-fast.ensures.first 0 (omega (arith, c.fast_len-fast.ensures.fits)) ∙ lt-ltb 0 count c.if-fast-gt0.true in (
      c.if-fast-gt0.true,
      record {
        slow = record { fits = omega arith; first = λ y lt. slow_none c.args.a.hdlc c.args.a.pointer c.args.x y is_fast };
        fast = record { fits = c.fast_len-fast.ensures.fits; first = c.fast_len-fast.ensures.first };
      },
    )
