-- The octets of the channels in the control words of a stream.
use Rattle.std.proofs.Common.{◌≡◌, ℕ, zero, suc, ◌+◌, ◌-◌, ◌<◌, ◌≤◌, ltb, min, Bool, true, false, ◌||◌, List, [], ◌∷◌, ◌++◌, length, take, Some, inl, inr, refl, sym, ap, ◌∙◌, subst, arith}
use Rattle.std.specs.List.{flat_map, range_with_len}
use Rattle.std.proofs.lemmas.Bool.{cases_Bool, cases_lt, cond-true, cond-false, le-ltb, lt-ltb}
use Rattle.std.proofs.lemmas.Grind.{flat_map-append}
use Rattle.std.proofs.lemmas.List.{append-nil, ext_get_or, get_or-take, length-take-le, nil_from_length}
use Rattle.std.proofs.lemmas.List.FromFn.{get_or-map-range_with_len, length-map-range_with_len}
use Rattle.std.proofs.lemmas.Option.{same_Some}
use Rattle.control_words.specs.ControlWord.{octet_of, word}
use Rattle.control_words.specs.Places.{is_fast_place, is_slow_place, managed_before}
use Rattle.control_words.specs.declared.announce.Announce.{Announce}
use Rattle.control_words.proofs.ManagedPlaces.{count_below, managed_first}
use Rattle.control_words.proofs.Octets.{managed_fits, octet_of_channel}
use Rattle.hyperframe.specs.Numbering.{frame_x, frame_z, frame_bfn}
use Rattle.link_run_management.specs.Management.{given_by, octets_in, slow_places, fast_places}
use Rattle.link_run_management.specs.Reads.{IsFront}
use Rattle.link_run_management.proofs.Giving.{given_carried, given_nothing}
use Rattle.link_run_management.proofs.WordPlaces.{slow_none}
use Rattle.link_run_delay.specs.ChannelsArePrefixes.{ChannelsArePrefixes, sent_octets}
use Rattle.link_run_delay.specs.ControlIsSent.{sent_word}
use Rattle.link_sender.specs.Managed.{fast_in_word, fast_octets, managed, octets_below, slow_in_word, slow_octets}
use Rattle.link_sender.specs.Stream.{Stream}
use Rattle.link_sender.proofs.ManagedSteps.{octets_below-more}
use Rattle.link_sender.proofs.ManagedWords.{fast_counted, no_slow, slow_counted}
use Rattle.link_run_delay.proofs.StreamChannels.{fast_goes_on, slow_goes_on}
use Rattle.link_run_delay.proofs.StreamOctets.{length-octets_from, octets_from-add}

-- ---- the places of a channel are the first ones of its words

or_false : (b : Bool) → (b || false) ≡ b
or_false true = refl
or_false false = refl

module _ (Y : ℕ) (a : Announce) (x : ℕ) where
  slow_front : IsFront (slow_places a) Y x (slow_in_word Y a x)
  slow_front =
      let alone : Announce = record a { pointer = 0 } in
      let count = managed_before Y x alone in
      let few : count ≤ Y = managed_fits Y x alone in
      let first : (y : ℕ) → y < Y → is_slow_place a.hdlc x y ≡ ltb y count = λ y lt. sym (or_false (is_slow_place a.hdlc x y)) ∙ managed_first Y x y alone lt in
      let all : slow_in_word Y a x ≡ min (count - 0) Y = count_below (is_slow_place a.hdlc x) count 0 Y (λ y _ lt. first y (omega arith)) in
      let same : slow_in_word Y a x ≡ count = omega arith in
      record { fits = omega arith; first = λ y lt. first y lt ∙ ap (ltb y) (sym same) }

  fast_front_by : (w : ℕ) → w ≤ Y → ((y : ℕ) → y < Y → is_fast_place a.pointer x ≡ ltb y w) → IsFront (fast_places a) Y x (fast_in_word Y a x)
  fast_front_by w few first =
      let all : fast_in_word Y a x ≡ min (w - 0) Y = count_below (λ (y : ℕ). is_fast_place a.pointer x) w 0 Y (λ y _ lt. first y (omega arith)) in
      let same : fast_in_word Y a x ≡ w = omega arith in
      record { fits = omega arith; first = λ y lt. first y lt ∙ ap (ltb y) (sym same) }

  fast_front : IsFront (fast_places a) Y x (fast_in_word Y a x)
  fast_front =
      elim (cases_Bool (is_fast_place a.pointer x)) [
        | inl on ↦ fast_front_by Y (omega arith) (λ y lt. on ∙ sym (lt-ltb y Y lt))
        | inr off ↦ fast_front_by 0 (omega arith) (λ y lt. off ∙ sym (le-ltb y 0 (omega arith)))
      ]

-- ---- the octets at them

module _ (is_place : ℕ → ℕ → Bool) (Y n : ℕ) (word : List ℕ) (long : length word ≡ Y) where
  carried : (count : ℕ) → IsFront is_place Y (frame_x n) count → 0 < count → octets_in is_place (frame_x n) word ≡ take count word
  unfolding given_by
  carried count front some = same_Some (octets_in is_place (frame_x n) word) (take count word) (given_carried is_place Y n count (Some word) long front some)

  nothing : (count : ℕ) → IsFront is_place Y (frame_x n) count → count ≡ 0 → octets_in is_place (frame_x n) word ≡ []
  unfolding given_by
  nothing count front none =
      same_Some (octets_in is_place (frame_x n) word) []
      (given_nothing is_place Y n (Some word) long (subst (IsFront is_place Y (frame_x n)) none front))

-- a word begins with its management octets
first_octets : (Y n : ℕ) (a : Announce) (octets : List ℕ) → length octets ≡ managed_before Y (frame_x n) a → take (length octets) (word Y n a octets) ≡ octets
first_octets Y n a octets long =
    let few : managed_before Y (frame_x n) a ≤ Y = managed_fits Y (frame_x n) a in
    let f : ℕ → ℕ = octet_of (frame_x n) (frame_z n) (frame_bfn n) a octets in
    let size : length (word Y n a octets) ≡ Y = length-map-range_with_len f 0 Y in
    let taken : length (take (length octets) (word Y n a octets)) ≡ length octets = length-take-le (length octets) (word Y n a octets) (omega arith) in
    ext_get_or 0 (take (length octets) (word Y n a octets)) octets taken
    (λ i lt.
    let inside : i < length octets = omega arith in
    get_or-take (length octets) (word Y n a octets) i 0 inside
    ∙ get_or-map-range_with_len f 0 Y i i 0 (omega arith) (omega arith)
    ∙ octet_of_channel Y (frame_x n) (frame_z n) (frame_bfn n) i a octets long (omega arith) inside)

-- ---- the octets of all words

range_more : (k n : ℕ) → range_with_len k (suc n) ≡ range_with_len k n ++ (k + n) ∷ []
range_more k zero = let e : k ≡ k + 0 = omega arith in ap (λ i. i ∷ []) e
range_more k (suc n) =
    let last : k + 1 + n ≡ k + suc n = omega arith in
    ap (λ is. k ∷ is) (range_more (k + 1) n ∙ ap (λ i. range_with_len (k + 1) n ++ i ∷ []) last)

pub sent_more : (f : ℕ → List ℕ) (n : ℕ) → flat_map f (range_with_len 0 (suc n)) ≡ flat_map f (range_with_len 0 n) ++ f n
sent_more f n =
    let here : 0 + n ≡ n = omega arith in
    ap (flat_map f) (range_more 0 n ∙ ap (λ i. range_with_len 0 n ++ i ∷ []) here)
    ∙ flat_map-append f (range_with_len 0 n) (n ∷ [])
    ∙ ap (λ os. flat_map f (range_with_len 0 n) ++ os) (append-nil (f n))

module _ (Y : ℕ) (σ : Stream) where
  abbrev a : Announce
  a = σ.announcement

  pub length-slow_octets : (k count : ℕ) → length (slow_octets σ k count) ≡ count
  length-slow_octets k count = length-octets_from _ (slow_goes_on _) k count

  pub length-fast_octets : (k count : ℕ) → length (fast_octets σ k count) ≡ count
  length-fast_octets k count = length-octets_from _ (fast_goes_on _) k count

  length-sent_word : (n : ℕ) → length (sent_word Y σ n) ≡ Y
  length-sent_word n = length-map-range_with_len (octet_of (frame_x n) (frame_z n) (frame_bfn n) a (managed Y σ n)) 0 Y

  -- the slow channel
  module _ (n : ℕ) where
    abbrev slow_count : ℕ
    slow_count = slow_in_word Y a (frame_x n)

    abbrev slow_part : List ℕ
    slow_part = slow_octets σ (octets_below (slow_in_word Y a) n) slow_count

    slow_some : 0 < slow_count → octets_in (slow_places a) (frame_x n) (sent_word Y σ n) ≡ slow_part
    unfolding managed
    slow_some some =
        let front = slow_front Y a (frame_x n) in
        let first : is_slow_place a.hdlc (frame_x n) 0 ≡ true = front.first 0 (omega (arith, front.fits)) ∙ lt-ltb 0 slow_count some in
        let is : managed Y σ n ≡ slow_part = cond-true (ltb 0 slow_count) slow_part _ (lt-ltb 0 slow_count some) in
        let long : length slow_part ≡ slow_count = length-slow_octets _ slow_count in
        carried (slow_places a) Y n (sent_word Y σ n) (length-sent_word n) slow_count front some
        ∙ ap (λ octets. take slow_count (word Y n a octets)) is
        ∙ ap (λ k. take k (word Y n a slow_part)) (sym long)
        ∙ first_octets Y n a slow_part (long ∙ sym (slow_counted Y a (frame_x n) first))

    pub slow_in_sent : octets_in (slow_places a) (frame_x n) (sent_word Y σ n) ≡ slow_part
    slow_in_sent =
        elim (cases_lt 0 slow_count) [
          | inl some ↦ slow_some some
          | inr few ↦
              let none : slow_count ≡ 0 = omega arith in
              nothing (slow_places a) Y n (sent_word Y σ n) (length-sent_word n) slow_count (slow_front Y a (frame_x n)) none
              ∙ sym (nil_from_length slow_part (length-slow_octets _ slow_count ∙ none))
        ]

    abbrev fast_count : ℕ
    fast_count = fast_in_word Y a (frame_x n)

    abbrev fast_part : List ℕ
    fast_part = fast_octets σ (octets_below (fast_in_word Y a) n) fast_count

    fast_some : 0 < fast_count → octets_in (fast_places a) (frame_x n) (sent_word Y σ n) ≡ fast_part
    unfolding managed
    fast_some some =
        let front = fast_front Y a (frame_x n) in
        let is_fast : is_fast_place a.pointer (frame_x n) ≡ true = front.first 0 (omega (arith, front.fits)) ∙ lt-ltb 0 fast_count some in
        let not_slow : is_slow_place a.hdlc (frame_x n) 0 ≡ false = slow_none a.hdlc a.pointer (frame_x n) 0 is_fast ∙ le-ltb 0 0 (omega arith) in
        let none : slow_count ≡ 0 = no_slow Y a (frame_x n) not_slow in
        let is : managed Y σ n ≡ fast_part = cond-false (ltb 0 slow_count) slow_part fast_part (le-ltb 0 slow_count (omega arith)) in
        let long : length fast_part ≡ fast_count = length-fast_octets _ fast_count in
        carried (fast_places a) Y n (sent_word Y σ n) (length-sent_word n) fast_count front some
        ∙ ap (λ octets. take fast_count (word Y n a octets)) is
        ∙ ap (λ k. take k (word Y n a fast_part)) (sym long)
        ∙ first_octets Y n a fast_part (long ∙ sym (fast_counted Y a (frame_x n) not_slow))

    pub fast_in_sent : octets_in (fast_places a) (frame_x n) (sent_word Y σ n) ≡ fast_part
    fast_in_sent =
        elim (cases_lt 0 fast_count) [
          | inl some ↦ fast_some some
          | inr few ↦
              let none : fast_count ≡ 0 = omega arith in
              nothing (fast_places a) Y n (sent_word Y σ n) (length-sent_word n) fast_count (fast_front Y a (frame_x n)) none
              ∙ sym (nil_from_length fast_part (length-fast_octets _ fast_count ∙ none))
        ]

  -- ---- all of them

  pub slow_sent : (n : ℕ) → sent_octets (slow_places a) Y σ n ≡ slow_octets σ 0 (octets_below (slow_in_word Y a) n)
  slow_sent zero = sym (nil_from_length (slow_octets σ 0 0) (length-slow_octets 0 0))
  slow_sent (suc n) =
      let f : ℕ → List ℕ = λ i. octets_in (slow_places a) (frame_x i) (sent_word Y σ i) in
      let e : suc n ≡ n + 1 = omega arith in
      sent_more f n ∙ ap (λ os. os ++ f n) (slow_sent n) ∙ ap (λ os. slow_octets σ 0 (octets_below (slow_in_word Y a) n) ++ os) (slow_in_sent n)
      ∙ octets_from-add _ (slow_goes_on _) (octets_below (slow_in_word Y a) n) (slow_count n)
      ∙ ap (slow_octets σ 0) (sym (ap (octets_below (slow_in_word Y a)) e ∙ octets_below-more (slow_in_word Y a) n))

  pub fast_sent : (n : ℕ) → sent_octets (fast_places a) Y σ n ≡ fast_octets σ 0 (octets_below (fast_in_word Y a) n)
  fast_sent zero = sym (nil_from_length (fast_octets σ 0 0) (length-fast_octets 0 0))
  fast_sent (suc n) =
      let f : ℕ → List ℕ = λ i. octets_in (fast_places a) (frame_x i) (sent_word Y σ i) in
      let e : suc n ≡ n + 1 = omega arith in
      sent_more f n ∙ ap (λ os. os ++ f n) (fast_sent n) ∙ ap (λ os. fast_octets σ 0 (octets_below (fast_in_word Y a) n) ++ os) (fast_in_sent n)
      ∙ octets_from-add _ (fast_goes_on _) (octets_below (fast_in_word Y a) n) (fast_count n)
      ∙ ap (fast_octets σ 0) (sym (ap (octets_below (fast_in_word Y a)) e ∙ octets_below-more (fast_in_word Y a) n))

pub ChannelsArePrefixes-holds : ChannelsArePrefixes
ChannelsArePrefixes-holds Y σ n =
    let a = σ.announcement in
    let slow = slow_sent Y σ n in
    let fast = fast_sent Y σ n in
    record {
      slow = slow ∙ ap (slow_octets σ 0) (sym (ap length slow ∙ length-slow_octets Y σ 0 (octets_below (slow_in_word Y a) n)));
      fast = fast ∙ ap (fast_octets σ 0) (sym (ap length fast ∙ length-fast_octets Y σ 0 (octets_below (fast_in_word Y a) n)));
    }
