-- What was written is read again.
use Rattle.std.specs.Prelude.{◌≡◌, ℕ, ◌+◌, ◌-◌, ◌*◌, ◌/◌, ◌%◌, ◌^◌, ◌<◌, ◌≤◌, ◌==◌, List, [], ◌∷◌, ◌++◌, length, take, drop, slice_index, replicate, Bool, true, false, cond, nat_lt, IsTrue, Result, Ok, Err, IfOk, refl}
use Rattle.std.proofs.Common.{arith, ap, sym, subst, ◌∙◌, append_assoc, length-append, length-take-le, take-append-drop}
use Rattle.std.proofs.Math.Seq.{take-append_seam}
use Rattle.std.proofs.lemmas.Bool.Decides.{nat_tests}
use Rattle.roe_header.specs.declared.packet.Packet.{Packet}
use Rattle.roe_header.specs.declared.packet.NotRoe.{NotRoe}
use Rattle.roe_header.specs.Layout.{Fields, IsWritable, header, packet_octets, is_subtype, two_at, parsed, fields_at, fields, answered, BeginsWith}

-- an address is six octets
pub record SixOctets (xs : List ℕ) : Type 0 where
  pub a : ℕ
  pub b : ℕ
  pub c : ℕ
  pub d : ℕ
  pub e : ℕ
  pub f : ℕ
  pub whole : xs ≡ a ∷ b ∷ c ∷ d ∷ e ∷ f ∷ []

six : (xs : List ℕ) → length xs ≡ 6 → SixOctets xs
six (a ∷ b ∷ c ∷ d ∷ e ∷ f ∷ []) h = record { a = a; b = b; c = c; d = d; e = e; f = f; whole = refl }
six [] h = absurd (omega arith)
six (a ∷ []) h = absurd (omega arith)
six (a ∷ b ∷ []) h = absurd (omega arith)
six (a ∷ b ∷ c ∷ []) h = absurd (omega arith)
six (a ∷ b ∷ c ∷ d ∷ []) h = absurd (omega arith)
six (a ∷ b ∷ c ∷ d ∷ e ∷ []) h = absurd (omega arith)
six (a ∷ b ∷ c ∷ d ∷ e ∷ f ∷ g ∷ xs) h = absurd (omega arith)

-- what is chosen where the octets are as many as they say
long_enough : {A : Type 0} (total said : ℕ) (short long found : A) → 22 + said ≤ total →
    cond (nat_lt total 22) short (cond (nat_lt (total - 22) said) long found) ≡ found
long_enough total said short long found h =
    let e : nat_lt total 22 ≡ false = grind (arith, nat_tests) in
    let k : nat_lt (total - 22) said ≡ false = grind (arith, nat_tests) in
    rw (e, k) refl

-- a packet whose addresses are given by their octets
read_cells : (a b c d e f g h i j k l sub flow seq : ℕ) (payload rest : List ℕ) → IsTrue (is_subtype sub) →
    seq < 2 ^ 32 → length payload ≤ 1492 →
    parsed ((header (record { dst = a ∷ b ∷ c ∷ d ∷ e ∷ f ∷ []; src = g ∷ h ∷ i ∷ j ∷ k ∷ l ∷ []; sub = sub; flow = flow; seq = seq; payload = payload }) ++ payload) ++ rest)
    ≡ Ok (record { dst = a ∷ b ∷ c ∷ d ∷ e ∷ f ∷ []; src = g ∷ h ∷ i ∷ j ∷ k ∷ l ∷ []; sub = sub; flow = flow; seq = seq; payload = payload })
unfolding parsed
read_cells a b c d e f g h i j k l sub flow seq payload rest s q p =
    let allowed : is_subtype sub ≡ true = s in
    let said : 256 * (length payload / 256) + length payload % 256 ≡ length payload = omega arith in
    let order : 65536 * (256 * (seq / 16777216) + seq / 65536 % 256) + (256 * (seq / 256 % 256) + seq % 256) ≡ seq = omega arith in
    let whole : take (length payload) (payload ++ rest) ≡ payload = take-append_seam payload rest in
    let octets : List ℕ = (header (record { dst = a ∷ b ∷ c ∷ d ∷ e ∷ f ∷ []; src = g ∷ h ∷ i ∷ j ∷ k ∷ l ∷ []; sub = sub; flow = flow; seq = seq; payload = payload }) ++ payload) ++ rest in
    let enough : 22 + length payload ≤ length octets = omega (arith, length-append payload rest) in
    rw (said, order, allowed, whole) (long_enough (length octets) (length payload) _ _ _ enough)

-- and one whose addresses have six octets
read_fields : (dst src : List ℕ) (sub flow seq : ℕ) (payload rest : List ℕ) → length dst ≡ 6 →
    length src ≡ 6 → IsTrue (is_subtype sub) → seq < 2 ^ 32 → length payload ≤ 1492 →
    parsed ((header (record { dst = dst; src = src; sub = sub; flow = flow; seq = seq; payload = payload }) ++ payload) ++ rest)
    ≡ Ok (record { dst = dst; src = src; sub = sub; flow = flow; seq = seq; payload = payload })
read_fields dst src sub flow seq payload rest ld ls s q p =
    let x = six dst ld in
    let y = six src ls in
    rw (x.whole, y.whole) (read_cells x.a x.b x.c x.d x.e x.f y.a y.b y.c y.d y.e y.f sub flow seq payload rest s q p)

pub read_back : (f : Fields) (rest : List ℕ) → IsWritable f → parsed (packet_octets f ++ rest) ≡ Ok f
unfolding packet_octets
read_back f rest w =
    let written = header f ++ f.payload in
    let zeros : List ℕ = replicate (60 - length written) 0 in
    ap parsed (append_assoc written zeros rest)
    ∙ read_fields f.dst f.src f.sub f.flow f.seq f.payload (zeros ++ rest) w.dst w.src w.sub w.seq w.payload

-- a header by its octets, where the payload is as long as the header says
header_cells : (c0 c1 c2 c3 c4 c5 c6 c7 c8 c9 c10 c11 c12 c13 c14 c15 c16 c17 c18 c19 c20 c21 : ℕ) (payload : List ℕ) →
    c12 < 256 → c13 < 256 → c16 < 256 → c17 < 256 → c18 < 256 → c19 < 256 → c20 < 256 → c21 < 256 →
    256 * c12 + c13 ≡ 64573 → length payload ≡ 256 * c16 + c17 →
    header (record { dst = c0 ∷ c1 ∷ c2 ∷ c3 ∷ c4 ∷ c5 ∷ []; src = c6 ∷ c7 ∷ c8 ∷ c9 ∷ c10 ∷ c11 ∷ []; sub = c14; flow = c15; seq = 65536 * (256 * c18 + c19) + (256 * c20 + c21); payload = payload })
    ≡ c0 ∷ c1 ∷ c2 ∷ c3 ∷ c4 ∷ c5 ∷ c6 ∷ c7 ∷ c8 ∷ c9 ∷ c10 ∷ c11 ∷ c12 ∷ c13 ∷ c14 ∷ c15 ∷ c16 ∷ c17 ∷ c18 ∷ c19 ∷ c20 ∷ c21 ∷ []
header_cells c0 c1 c2 c3 c4 c5 c6 c7 c8 c9 c10 c11 c12 c13 c14 c15 c16 c17 c18 c19 c20 c21 payload h12 h13 h16 h17 h18 h19 h20 h21 type said =
    let e12 : c12 ≡ 252 = omega arith in
    let e13 : c13 ≡ 61 = omega arith in
    let l1 : length payload / 256 ≡ c16 = omega arith in
    let l0 : length payload % 256 ≡ c17 = omega arith in
    let n = 65536 * (256 * c18 + c19) + (256 * c20 + c21) in
    let s3 : n / 16777216 ≡ c18 = omega arith in
    let s2 : n / 65536 % 256 ≡ c19 = omega arith in
    let s1 : n / 256 % 256 ≡ c20 = omega arith in
    let s0 : n % 256 ≡ c21 = omega arith in
    rw (e12, e13, l1, l0, s3, s2, s1, s0) refl

-- the octets before the payload, the payload and what follows are all octets
begins : (octets : List ℕ) → 22 + two_at octets 16 ≤ length octets → ((i : ℕ) → slice_index octets i < 256) →
    two_at octets 12 ≡ 64573 →
    octets ≡ (header (fields_at octets)
    ++ take (two_at octets 16) (drop 22 octets)) ++ drop (two_at octets 16) (drop 22 octets)
begins (c0 ∷ c1 ∷ c2 ∷ c3 ∷ c4 ∷ c5 ∷ c6 ∷ c7 ∷ c8 ∷ c9 ∷ c10 ∷ c11 ∷ c12 ∷ c13 ∷ c14 ∷ c15 ∷ c16 ∷ c17 ∷ c18 ∷ c19 ∷ c20 ∷ c21 ∷ xs) h b type =
    let said = 256 * c16 + c17 in
    let payload = take said xs in
    let count : length payload ≡ said = length-take-le said xs (omega arith) in
    let front = header_cells c0 c1 c2 c3 c4 c5 c6 c7 c8 c9 c10 c11 c12 c13 c14 c15 c16 c17 c18 c19 c20 c21 payload (b 12) (b 13) (b 16) (b 17) (b 18) (b 19) (b 20) (b 21) type count in
    sym (ap (λ (front : List ℕ). (front ++ payload) ++ drop said xs) front
    ∙ ap (λ (ys : List ℕ). c0 ∷ c1 ∷ c2 ∷ c3 ∷ c4 ∷ c5 ∷ c6 ∷ c7 ∷ c8 ∷ c9 ∷ c10 ∷ c11 ∷ c12 ∷ c13 ∷ c14 ∷ c15 ∷ c16 ∷ c17 ∷ c18 ∷ c19 ∷ c20 ∷ c21 ∷ ys) (take-append-drop said xs))
begins _ h b type = absurd (omega arith)

-- which way a choice went that is no error
passed : {A E : Type 0} (b : Bool) (r : Result A E) (e : E) (x : A) → cond b r (Err e) ≡ Ok x →
    (b ≡ true) × (r ≡ Ok x)
passed true r e x h = (refl, h)
passed false r e x h = cc

not_failed : {A E : Type 0} (b : Bool) (r : Result A E) (e : E) (x : A) → cond b (Err e) r ≡ Ok x →
    (b ≡ false) × (r ≡ Ok x)
not_failed true r e x h = cc
not_failed false r e x h = (refl, h)

-- what is read stands so in the octets
stands : (octets : List ℕ) (f : Fields) → ((i : ℕ) → slice_index octets i < 256) → parsed octets ≡ Ok f →
    BeginsWith f octets
unfolding parsed
stands octets f b h =
    let long = not_failed (nat_lt (length octets) 22) _ _ f h in
    let kind = passed (two_at octets 12 == 64573) _ _ f long.1 in
    let sub = passed (is_subtype (slice_index octets 14)) _ _ f kind.1 in
    let whole = not_failed (nat_lt (length octets - 22) (two_at octets 16)) _ _ f sub.1 in
    let type : two_at octets 12 ≡ 64573 = grind (arith, nat_tests, kind.0) in
    let enough : 22 + two_at octets 16 ≤ length octets = grind (arith, nat_tests, long.0, whole.0) in
    let same : fields_at octets ≡ f = cc (whole.1) in
    subst (λ (g : Fields). BeginsWith g octets) same (drop (two_at octets 16) (drop 22 octets), begins octets enough b type)

pub found_by : (r : Result Packet NotRoe) (octets : List ℕ) → ((i : ℕ) → slice_index octets i < 256) →
    answered r ≡ parsed octets → IfOk r (λ p. BeginsWith (fields p) octets)
found_by (Ok p) octets b h = stands octets (fields p) b (sym h)
found_by (Err e) octets b h = tt
