-- What becomes of the packets of a drill on their way. This is the project's own.
use Rattle.std.specs.Prelude.{ℕ, zero, suc, ◌+◌, ◌%◌, ◌==◌, Bool, true, false, List, map, if◌then◌else◌}
use Rattle.std.specs.List.{range_with_len}
use Rattle.link_base.specs.Window.{last_frame}
use Rattle.link_drill.specs.declared.fates.Fate.{Fate}
use Rattle.link_drill.specs.declared.fates.Fate.TheVariants.{Lost, Arrives}
use Rattle.link_drill.specs.Draws.{draw}

-- the first tick of the window of packet i
abbrev pub opening : ℕ → ℕ
opening i = last_frame 4 i + 10

-- of packet i, by its draw and the next one: one in sixteen is lost, and one in sixteen arrives twice
abbrev pub fate_by : (i d e : ℕ) → Fate
fate_by i d e = if d % 16 == 0 then Lost else Arrives (opening i + e % 21) (d % 16 == 1)

-- The draws of packet i begin after those of the packets before, where that of packet 0 is known. A lost packet takes one draw,
-- and another one two.
unfoldable pub fate_draw : (number first : ℕ) → ℕ → ℕ
fate_draw number first zero = first
fate_draw number first (suc i) =
    if draw number (fate_draw number first i) % 16 == 0 then fate_draw number first i + 1 else fate_draw number first i + 2

abbrev pub fate_of : (number first : ℕ) → ℕ → Fate
fate_of number first i = fate_by i (draw number (fate_draw number first i)) (draw number (fate_draw number first i + 1))

-- of the first packets
unfoldable pub fates_of : (number first count : ℕ) → List Fate
fates_of number first count = map (fate_of number first) (range_with_len 0 count)

abbrev pub is_lost : Fate → Bool
is_lost Lost = true
is_lost (Arrives tick twice) = false

abbrev pub is_repeated : Fate → Bool
is_repeated Lost = false
is_repeated (Arrives tick twice) = twice
