-- A reader of the management channels takes one more frame.
use Rattle.std.proofs.Common.{codes, ◌≡◌, ℕ, ◌+◌, ◌%◌, ◌<◌, Bool, List, [], ◌∷◌, ◌++◌, length, take, Option, Some, Result, Ok, Err, OnOk, OnErr, refl, sym, ◌∙◌, ap, subst, arith, append-nil}
use Rattle.std.specs.Option.{option_map, MatchOption}
use Rattle.std.proofs.lemmas.List.{length_push}
use Rattle.control_words.specs.declared.announce.Announce.{Announce}
use Rattle.ethernet_channel.specs.Keeps.{Kept, StandsFor as FastStandsFor}
use Rattle.hdlc_channel.specs.Bits.{bits_of}
use Rattle.hdlc_channel.specs.Reader.{SlowView, StandsFor as SlowStandsFor}
use Rattle.hyperframe.specs.Numbering.{frame_x}
use Rattle.link_run_management.specs.Events.{slow_line, fast_line}
use Rattle.link_run_management.specs.Following.{behind}
use Rattle.link_run_management.specs.Management.{given_by, given_lines, octets_so_far, slow_places, fast_places, frame_lines}
use Rattle.link_run_management.specs.Reads.{ReaderView, StandsFor, IsFront, Carries}
use Rattle.link_run_management.proofs.Giving.{octets_so_far-push, given_carried, given_nothing, lines_of_nothing, behind_nothing}

pub ok_gives : {T E P Q : Type 0} (r : Result T E) → (P → Q) → OnOk r P → OnOk r Q
ok_gives (Ok v) f h = f h
ok_gives (Err e) f h = h

pub err_gives : {T E P Q : Type 0} (r : Result T E) → (P → Q) → OnErr r P → OnErr r Q
err_gives (Ok v) f h = h
err_gives (Err e) f h = f h

-- a control word, if there is one, has so many octets
abbrev pub HasOctets : ℕ → Option (List ℕ) → Type 0
HasOctets width word = MatchOption word (Unit {0}) (λ octets. length octets ≡ width)

-- the frames before, the reader that stands for them, the next word, and what it carries
pub record Meets (v : ReaderView) (words : List (Option (List ℕ))) (word : Option (List ℕ)) (slow_count fast_count : ℕ) : Type 0 where
  pub stands : StandsFor v words
  pub octets : HasOctets v.width word
  pub carries : Carries v.announce v.width v.x slow_count fast_count

at_place : (v : ReaderView) (words : List (Option (List ℕ))) (is_place : ℕ → ℕ → Bool) (count : ℕ) → v.x ≡ length words % 256
    → IsFront is_place v.width v.x count → IsFront is_place v.width (frame_x (length words)) count
at_place v words is_place count place front = subst (λ x. IsFront is_place v.width x count) place front

pub slow_given : (v : ReaderView) (words : List (Option (List ℕ))) (word : Option (List ℕ)) (count other : ℕ) → Meets v words word count other → 0 < count
    → given_by (slow_places v.announce) v.width (length words) word ≡ option_map (take count) word
slow_given v words word count other m some =
    given_carried (slow_places v.announce) v.width (length words) count word m.octets (at_place v words (slow_places v.announce) count m.stands.place m.carries.slow) some

pub no_slow : (v : ReaderView) (words : List (Option (List ℕ))) (word : Option (List ℕ)) (other : ℕ) → Meets v words word 0 other
    → given_by (slow_places v.announce) v.width (length words) word ≡ Some []
no_slow v words word other m =
    given_nothing (slow_places v.announce) v.width (length words) word m.octets (at_place v words (slow_places v.announce) 0 m.stands.place m.carries.slow)

pub fast_given : (v : ReaderView) (words : List (Option (List ℕ))) (word : Option (List ℕ)) (count other : ℕ) → Meets v words word other count → 0 < count
    → given_by (fast_places v.announce) v.width (length words) word ≡ option_map (take count) word
fast_given v words word count other m some =
    given_carried (fast_places v.announce) v.width (length words) count word m.octets (at_place v words (fast_places v.announce) count m.stands.place m.carries.fast) some

pub no_fast : (v : ReaderView) (words : List (Option (List ℕ))) (word : Option (List ℕ)) (other : ℕ) → Meets v words word other 0
    → given_by (fast_places v.announce) v.width (length words) word ≡ Some []
no_fast v words word other m =
    given_nothing (fast_places v.announce) v.width (length words) word m.octets (at_place v words (fast_places v.announce) 0 m.stands.place m.carries.fast)

-- ---- the lines

text_of : (width : ℕ) (a : Announce) (tick : ℕ) (words : List (Option (List ℕ))) (word slow fast : Option (List ℕ))
    → given_by (slow_places a) width (length words) word ≡ slow → given_by (fast_places a) width (length words) word ≡ fast
    → frame_lines width a tick words word
    ≡ given_lines slow_line (codes "slow missed") tick (octets_so_far (slow_places a) width words) slow
    ++ given_lines fast_line (codes "fast missed") tick (octets_so_far (fast_places a) width words) fast
unfolding frame_lines
text_of width a tick words word slow fast s f =
    let first = λ (given : Option (List ℕ)). given_lines slow_line (codes "slow missed") tick (octets_so_far (slow_places a) width words) given in
    let second = λ (given : Option (List ℕ)). given_lines fast_line (codes "fast missed") tick (octets_so_far (fast_places a) width words) given in
    ap (λ given. first given ++ second (given_by (fast_places a) width (length words) word)) s ∙ ap (λ given. first slow ++ second given) f

pub slow_text : (v : ReaderView) (tick : ℕ) (words : List (Option (List ℕ))) (word given : Option (List ℕ)) (count : ℕ) → Meets v words word count 0 → 0 < count
    → given ≡ option_map (take count) word
    → frame_lines v.width v.announce tick words word
    ≡ given_lines slow_line (codes "slow missed") tick (octets_so_far (slow_places v.announce) v.width words) given
slow_text v tick words word given count m some e =
    let before = octets_so_far (fast_places v.announce) v.width words in
    text_of v.width v.announce tick words word given (Some []) (slow_given v words word count 0 m some ∙ sym e) (no_fast v words word count m)
    ∙ ap (λ t. given_lines slow_line (codes "slow missed") tick (octets_so_far (slow_places v.announce) v.width words) given ++ t)
    (lines_of_nothing fast_line (codes "fast missed") tick before (Some []) refl)
    ∙ append-nil (given_lines slow_line (codes "slow missed") tick (octets_so_far (slow_places v.announce) v.width words) given)

pub fast_text : (v : ReaderView) (tick : ℕ) (words : List (Option (List ℕ))) (word given : Option (List ℕ)) (count : ℕ) → Meets v words word 0 count → 0 < count
    → given ≡ option_map (take count) word
    → frame_lines v.width v.announce tick words word
    ≡ given_lines fast_line (codes "fast missed") tick (octets_so_far (fast_places v.announce) v.width words) given
fast_text v tick words word given count m some e =
    let before = octets_so_far (slow_places v.announce) v.width words in
    text_of v.width v.announce tick words word (Some []) given (no_slow v words word count m) (fast_given v words word count 0 m some ∙ sym e)
    ∙ ap (λ t. t ++ given_lines fast_line (codes "fast missed") tick (octets_so_far (fast_places v.announce) v.width words) given)
    (lines_of_nothing slow_line (codes "slow missed") tick before (Some []) refl)

pub no_text : (v : ReaderView) (tick : ℕ) (words : List (Option (List ℕ))) (word : Option (List ℕ)) → Meets v words word 0 0
    → frame_lines v.width v.announce tick words word ≡ []
no_text v tick words word m =
    let slow = octets_so_far (slow_places v.announce) v.width words in
    let fast = octets_so_far (fast_places v.announce) v.width words in
    text_of v.width v.announce tick words word (Some []) (Some []) (no_slow v words word 0 m) (no_fast v words word 0 m)
    ∙ ap (λ t. t ++ given_lines fast_line (codes "fast missed") tick fast (Some [])) (lines_of_nothing slow_line (codes "slow missed") tick slow (Some []) refl)
    ∙ lines_of_nothing fast_line (codes "fast missed") tick fast (Some []) refl

-- ---- what is kept

slow_stays : (v : ReaderView) (words : List (Option (List ℕ))) (word : Option (List ℕ)) (other : ℕ) → Meets v words word 0 other
    → SlowStandsFor v.slow (bits_of (octets_so_far (slow_places v.announce) v.width (words ++ word ∷ [])))
slow_stays v words word other m =
    let before = octets_so_far (slow_places v.announce) v.width words in
    subst (λ octets. SlowStandsFor v.slow (bits_of octets))
    (sym (octets_so_far-push (slow_places v.announce) v.width words word ∙ behind_nothing before _ (no_slow v words word other m))) m.stands.slow

fast_stays : (v : ReaderView) (words : List (Option (List ℕ))) (word : Option (List ℕ)) (other : ℕ) → Meets v words word other 0
    → FastStandsFor v.fast (bits_of (octets_so_far (fast_places v.announce) v.width (words ++ word ∷ [])))
fast_stays v words word other m =
    let before = octets_so_far (fast_places v.announce) v.width words in
    subst (λ octets. FastStandsFor v.fast (bits_of octets))
    (sym (octets_so_far-push (fast_places v.announce) v.width words word ∙ behind_nothing before _ (no_fast v words word other m))) m.stands.fast

next_place : (x n m : ℕ) → x ≡ n % 256 → m ≡ n + 1 → (x + 1) % 256 ≡ m % 256
next_place x n m place more = omega (arith, place, more)

pub slow_stands : (v : ReaderView) (words : List (Option (List ℕ))) (word given : Option (List ℕ)) (count : ℕ) (slow : SlowView) → Meets v words word count 0 → 0 < count
    → given ≡ option_map (take count) word
    → ((before : List ℕ) → SlowStandsFor v.slow (bits_of before) → SlowStandsFor slow (bits_of (behind before given)))
    → StandsFor (record { width = v.width; announce = v.announce; x = (v.x + 1) % 256; slow = slow; fast = v.fast }) (words ++ word ∷ [])
slow_stands v words word given count slow m some e follows =
    let before = octets_so_far (slow_places v.announce) v.width words in record {
      place = next_place v.x (length words) (length (words ++ word ∷ [])) m.stands.place (length_push words word);
      slow =
          subst (λ octets. SlowStandsFor slow (bits_of octets))
          (sym (octets_so_far-push (slow_places v.announce) v.width words word ∙ ap (behind before) (slow_given v words word count 0 m some ∙ sym e))) (follows before m.stands.slow);
      fast = fast_stays v words word count m;
    }

pub fast_stands : (v : ReaderView) (words : List (Option (List ℕ))) (word given : Option (List ℕ)) (count : ℕ) (fast : Kept) → Meets v words word 0 count → 0 < count
    → given ≡ option_map (take count) word
    → ((before : List ℕ) → FastStandsFor v.fast (bits_of before) → FastStandsFor fast (bits_of (behind before given)))
    → StandsFor (record { width = v.width; announce = v.announce; x = (v.x + 1) % 256; slow = v.slow; fast = fast }) (words ++ word ∷ [])
fast_stands v words word given count fast m some e follows =
    let before = octets_so_far (fast_places v.announce) v.width words in record {
      place = next_place v.x (length words) (length (words ++ word ∷ [])) m.stands.place (length_push words word);
      slow = slow_stays v words word count m;
      fast =
          subst (λ octets. FastStandsFor fast (bits_of octets))
          (sym (octets_so_far-push (fast_places v.announce) v.width words word ∙ ap (behind before) (fast_given v words word count 0 m some ∙ sym e))) (follows before m.stands.fast);
    }

pub nothing_stands : (v : ReaderView) (words : List (Option (List ℕ))) (word : Option (List ℕ)) → Meets v words word 0 0
    → StandsFor (record { width = v.width; announce = v.announce; x = (v.x + 1) % 256; slow = v.slow; fast = v.fast }) (words ++ word ∷ [])
nothing_stands v words word m = record {
  place = next_place v.x (length words) (length (words ++ word ∷ [])) m.stands.place (length_push words word);
  slow = slow_stays v words word 0 m;
  fast = fast_stays v words word 0 m;
}

-- ---- by what the fields of a reader show

pub meets : (v w : ReaderView) (words : List (Option (List ℕ))) (word : Option (List ℕ)) (slow_count fast_count : ℕ) → v ≡ w
    → StandsFor w words → HasOctets w.width word → Carries v.announce v.width v.x slow_count fast_count → Meets v words word slow_count fast_count
meets v w words word slow_count fast_count same stands octets carries = record {
  stands = subst (λ (u : ReaderView). StandsFor u words) (sym same) stands;
  octets = subst (λ (u : ReaderView). HasOctets u.width word) (sym same) octets;
  carries = carries;
}

pub same_lines : (v w : ReaderView) (tick : ℕ) (words : List (Option (List ℕ))) (word : Option (List ℕ)) → v ≡ w
    → frame_lines w.width w.announce tick words word ≡ frame_lines v.width v.announce tick words word
same_lines v w tick words word same = sym (ap (λ (u : ReaderView). frame_lines u.width u.announce tick words word) same)
