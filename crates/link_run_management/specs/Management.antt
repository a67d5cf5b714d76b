-- What the management channels say in the control words of the frames that a run plays. The octets of a channel run on from one
-- control word to the next (CPRI Specification V7.0, sections 4.2.7.7.1 and 4.2.7.7.2). A frame that is missed cuts a channel if
-- it would have carried octets of it, and behind a cut the channel begins anew. The cuts and the texts are this project's own.
use Rattle.std.specs.Prelude.{codes, ℕ, ◌+◌, suc, Bool, if◌then◌else◌, List, [], ◌∷◌, ◌++◌, length, take, slice_index, slice_index_or, Option, Some, None, is_none}
use Rattle.std.specs.List.{flat_map, list_any, range_with_len}
use Rattle.control_words.specs.Places.{is_slow_place, is_fast_place}
use Rattle.control_words.specs.declared.announce.Announce.{Announce}
use Rattle.hdlc_channel.specs.Bits.{bits_of}
use Rattle.hyperframe.specs.Numbering.{frame_x}
use Rattle.link_run_management.specs.Events.{numbered, bit_lines, slow_line, fast_line}

-- the octets at these places of the control word of place x
abbrev pub octets_in : (ℕ → ℕ → Bool) → ℕ → List ℕ → List ℕ
octets_in is_place x word = flat_map (λ y. if is_place x y then slice_index word y ∷ [] else []) (range_with_len 0 (length word))

-- whether a control word of so many octets has such a place
abbrev pub has_place : (ℕ → ℕ → Bool) → ℕ → ℕ → Bool
has_place is_place width x = list_any (is_place x) (range_with_len 0 width)

-- What the control word of frame n gives to a channel: its octets, or none where the frame is missed and the channel is cut.
unfoldable pub given_by : (ℕ → ℕ → Bool) → ℕ → ℕ → Option (List ℕ) → Option (List ℕ)
given_by is_place width n (Some word) = Some (octets_in is_place (frame_x n) word)
given_by is_place width n None = if has_place is_place width (frame_x n) then None else Some []

-- the same of frames that follow one another, the first of which has number n
unfoldable pub given_from : (ℕ → ℕ → Bool) → ℕ → ℕ → List (Option (List ℕ)) → List (Option (List ℕ))
given_from is_place width n [] = []
given_from is_place width n (word ∷ words) = given_by is_place width n word ∷ given_from is_place width (suc n) words

-- the octets behind the last cut
unfoldable pub since_cut : List (Option (List ℕ)) → List ℕ
since_cut [] = []
since_cut (None ∷ given) = since_cut given
since_cut (Some octets ∷ given) = if list_any is_none given then since_cut given else octets ++ since_cut given

-- The octets of a channel in the first frames of a run, behind the last cut.
abbrev pub octets_so_far : (ℕ → ℕ → Bool) → ℕ → List (Option (List ℕ)) → List ℕ
octets_so_far is_place width words = since_cut (given_from is_place width 0 words)

-- The lines of a channel about a frame, behind these octets: of what its bits complete, or that it is missed.
unfoldable pub given_lines : (ℕ → List Bool → List ℕ) → List ℕ → ℕ → List ℕ → Option (List ℕ) → List ℕ
given_lines line missed tick before None = numbered tick missed
given_lines line missed tick before (Some octets) = bit_lines line tick (bits_of before) (bits_of octets)

-- the places of the two channels that are announced
abbrev pub slow_places : Announce → ℕ → ℕ → Bool
slow_places a = is_slow_place a.hdlc

abbrev pub fast_places : Announce → ℕ → ℕ → Bool
fast_places a x y = is_fast_place a.pointer x

-- The lines about the frame of this control word that is played at a tick, after the frames of others, in control words of so
-- many octets: those of the slow channel, then those of the fast one.
unfoldable pub frame_lines : ℕ → Announce → ℕ → List (Option (List ℕ)) → Option (List ℕ) → List ℕ
frame_lines width a tick words word =
    given_lines slow_line (codes "slow missed") tick (octets_so_far (slow_places a) width words) (given_by (slow_places a) width (length words) word)
    ++ given_lines fast_line (codes "fast missed") tick (octets_so_far (fast_places a) width words) (given_by (fast_places a) width (length words) word)

-- the lines of the frames of a run, each played so many ticks behind its number
unfoldable pub run_lines : ℕ → Announce → ℕ → List (Option (List ℕ)) → List ℕ
run_lines width a playout words =
    flat_map (λ n. frame_lines width a (n + playout) (take n words) (slice_index_or words n None)) (range_with_len 0 (length words))
