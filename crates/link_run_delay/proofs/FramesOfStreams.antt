-- The octets of each frame of a stream.
use Rattle.std.proofs.Common.{◌≡◌, ℕ, zero, suc, ◌*◌, ◌/◌, ◌%◌, ◌<◌, ◌≤◌, Bool, true, false, cond, List, [], ◌∷◌, length, map, get_or, IsTrue, refl, sym, ap, ◌∙◌, subst, arith}
use Rattle.std.specs.List.{HoldsAt, range_with_len}
use Rattle.std.proofs.lemmas.Bool.Decides.{nat_tests}
use Rattle.std.proofs.lemmas.List.Elements.{All-cons, All-map, All-nil}
use Rattle.std.proofs.lemmas.List.FromFn.{get_or-map-range_with_len, length-map-range_with_len}
use Rattle.carrier_plan.specs.declared.plan.Plan.{Plan}
use Rattle.control_words.specs.Announcement.{IsWithinTable, allows_hdlc, allows_pointer}
use Rattle.control_words.specs.ControlWord.{octet_of, word}
use Rattle.control_words.specs.declared.announce.Announce.{Announce}
use Rattle.hdlc_channel.specs.Bits.{number_of, octets_of}
use Rattle.link_sender.specs.Frames.{IsFrame}
use Rattle.link_sender.specs.Managed.{managed}
use Rattle.link_sender.specs.Stream.{IsStream, Stream}
use Rattle.link_sender.specs.Whole.{is_one}
use Rattle.link_sender.proofs.CarriedOnes.{is_one-decides}
use Rattle.plan_checker.specs.Rules.{IsGood}
use Rattle.plan_checker.specs.WordSize.{word_size}
use Rattle.link_run_delay.specs.Existing.{AreOctets}
use Rattle.link_run_delay.proofs.OctetsOfBits.{octets_with}

-- ---- bits as numbers

abbrev bit_by : Bool → ℕ
bit_by b = cond b 1 0

bit_by-le : (b : Bool) → bit_by b ≤ 1
bit_by-le true = omega arith
bit_by-le false = omega arith

true_from_bit : (b : Bool) → bit_by b ≡ 1 → b ≡ true
true_from_bit true h = refl
true_from_bit false h = absurd (omega arith)

-- ---- the octets of the management channels

number_of-eight : (a b c d e f g h : Bool) → number_of (a ∷ b ∷ c ∷ d ∷ e ∷ f ∷ g ∷ h ∷ []) < 256
unfolding number_of
number_of-eight a b c d e f g h = omega (arith, bit_by-le a, bit_by-le b, bit_by-le c, bit_by-le d, bit_by-le e, bit_by-le f, bit_by-le g, bit_by-le h)

-- eight bits make up an octet
octets_of-small : (bits : List Bool) → AreOctets (octets_of bits)
unfolding octets_of
octets_of-small (a ∷ b ∷ c ∷ d ∷ e ∷ f ∷ g ∷ h ∷ bits) =
    All-cons (λ k. k < 256) (number_of (a ∷ b ∷ c ∷ d ∷ e ∷ f ∷ g ∷ h ∷ [])) (octets_of bits) (number_of-eight a b c d e f g h) (octets_of-small bits)
octets_of-small _ = All-nil (λ k. k < 256)

either_octets : (b : Bool) (xs ys : List ℕ) → AreOctets xs → AreOctets ys → AreOctets (cond b xs ys)
either_octets true xs ys first second = first
either_octets false xs ys first second = second

managed_small : (y : ℕ) (σ : Stream) (n : ℕ) → AreOctets (managed y σ n)
unfolding managed
managed_small y σ n = either_octets _ _ _ (octets_of-small _) (octets_of-small _)

-- ---- the control word

-- what is announced fits an octet each
record IsSmall (a : Announce) : Type 0 where
  version : a.version < 256
  hdlc : a.hdlc < 256
  l1 : a.l1 < 256
  pointer : a.pointer < 256

hdlc_small : (y code : ℕ) → IsTrue (allows_hdlc y code) → code < 256
hdlc_small y code allowed = grind (arith, nat_tests)

pointer_small : (pointer : ℕ) → IsTrue (allows_pointer pointer) → pointer < 256
pointer_small pointer allowed = grind (arith, nat_tests)

announced_small : (y : ℕ) (a : Announce) → IsWithinTable y a → IsSmall a
announced_small y a within = record {
  version = omega (arith, within.version);
  hdlc = hdlc_small y a.hdlc within.hdlc;
  l1 = omega (arith, within.l1);
  pointer = pointer_small a.pointer within.pointer;
}

either_small : (b : Bool) (x y : ℕ) → x < 256 → y < 256 → cond b x y < 256
either_small true x y first second = first
either_small false x y first second = second

-- an octet of a list, or 0 past its end
octet_at-small : (octets : List ℕ) (k : ℕ) → AreOctets octets → get_or octets k 0 < 256
octet_at-small [] k small = omega arith
octet_at-small (x ∷ octets) zero small = small 0 0 (omega arith)
octet_at-small (x ∷ octets) (suc k) small = octet_at-small octets k (λ i d lt. small (suc i) d (omega arith))

-- each octet of a control word is below 256
octet_small : (x z bfn y : ℕ) (a : Announce) (octets : List ℕ) → z < 256 → bfn < 4096 → IsSmall a → AreOctets octets → octet_of x z bfn a octets y < 256
unfolding octet_of
octet_small x z bfn y a octets small few announced are_octets =
    let comma : 188 < 256 = omega arith in
    let filler : 80 < 256 = omega arith in
    let low : bfn % 256 < 256 = omega arith in
    let high : bfn / 256 < 256 = omega arith in
    let none : 0 < 256 = omega arith in
    either_small _ _ _ comma
    (either_small _ _ _ filler
    (either_small _ _ _ small
    (either_small _ _ _ low
    (either_small _ _ _ high
    (either_small _ _ _ announced.version
    (either_small _ _ _ announced.hdlc
    (either_small _ _ _ announced.l1
    (either_small _ _ _ announced.pointer
    (either_small _ _ _ (octet_at-small octets _ are_octets) none)))))))))

module _ (y n : ℕ) (a : Announce) (octets : List ℕ) where
  -- the octets of the control word of frame n, with the numbers of frame n written out
  abbrev octet : ℕ → ℕ
  octet = octet_of (n % 256) (n / 256 % 150) (n / 38400 % 4096) a octets

  length-word : length (word y n a octets) ≡ y
  length-word = length-map-range_with_len octet 0 y

  word_small : IsSmall a → AreOctets octets → AreOctets (word y n a octets)
  word_small announced are_octets =
      let z : n / 256 % 150 < 256 = omega arith in
      let bfn : n / 38400 % 4096 < 4096 = omega arith in
      All-map (λ k. k < 256) octet (range_with_len 0 y)
      (λ k d lt. octet_small (n % 256) (n / 256 % 150) (n / 38400 % 4096) (get_or (range_with_len 0 y) k d) a octets z bfn announced are_octets)

-- ---- the frames

module _ (p : Plan) (h : ℕ) (σ : Stream) (good : IsGood p) (stream : IsStream p h σ) where
  -- the control word and the bits that the search finds
  pub frame_of : (n : ℕ) → (octets : List ℕ) × IsFrame p σ n octets
  frame_of n =
      let y = word_size p.option in
      let octets = managed y σ n in
      let first = word y n σ.announcement octets in
      let bits : ℕ → ℕ = λ x. bit_by (is_one p σ n x) in
      let found =
      octets_with y (15 * y) first bits (length-word y n σ.announcement octets)
      (word_small y n σ.announcement octets (announced_small y σ.announcement stream.announced) (managed_small y σ n))
      (λ x. bit_by-le (is_one p σ n x)) in (
        found.0,
        record {
          size = omega (arith, found.1.size);
          small = found.1.small;
          control = found.1.front;
          bits = λ x lt. (
            λ one. (is_one-decides p σ n x good).0 (true_from_bit (is_one p σ n x) (sym (found.1.same x (omega arith)) ∙ one)),
            λ carries. found.1.same x (omega arith) ∙ ap bit_by ((is_one-decides p σ n x good).1 carries),
          );
        },
      )

  -- the frames before frame n
  abbrev frame : ℕ → List ℕ
  frame n = (frame_of n).0

  abbrev pub frames_before : ℕ → List (List ℕ)
  frames_before n = map frame (range_with_len 0 n)

  pub length-frames_before : (n : ℕ) → length (frames_before n) ≡ n
  length-frames_before n = length-map-range_with_len frame 0 n

  pub IsFrame-before : (n i : ℕ) → i < n → HoldsAt (IsFrame p σ i) (frames_before n) i
  IsFrame-before n i lt d = subst (IsFrame p σ i) (sym (get_or-map-range_with_len frame 0 n i i d lt (omega arith))) (frame_of i).1
