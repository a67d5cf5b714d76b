-- The octets of a packet, part by part.
use Rattle.std.proofs.Common.{◌≡◌, ℕ, ◌+◌, ◌-◌, ◌≤◌, List, [], ◌∷◌, ◌++◌, length, take, drop, replicate, length-append, append_assoc, refl, sym, ap, ◌∙◌, arith}
use Rattle.std.proofs.lemmas.List.{drop-drop, drop_at, length-replicate, take_at}
use Rattle.roe_header.specs.Layout.{Fields, four_octets, header, packet_octets, two_octets}
use Rattle.link_sender.specs.Rings.{front_of}

abbrev pub front : Fields → List ℕ
front f = f.dst ++ f.src ++ two_octets 64573 ++ f.sub ∷ f.flow ∷ [] ++ two_octets (length f.payload)

abbrev pub zeros : Fields → List ℕ
zeros f = replicate (60 - length (header f ++ f.payload)) 0

module _ (f : Fields) (dst : length f.dst ≡ 6) (src : length f.src ≡ 6) where
  pub length-front : length (front f) ≡ 18
  length-front = simp length-append (omega arith)

  pub length-header : length (header f) ≡ 22
  length-header = length-append (front f) (four_octets f.seq) ∙ omega (arith, length-front)

  pub whole : packet_octets f ≡ front f ++ (four_octets f.seq ++ (f.payload ++ zeros f))
  unfolding packet_octets
  whole =
      append_assoc (header f) f.payload (zeros f) ∙ append_assoc (front f) (four_octets f.seq) (f.payload ++ zeros f)

  pub length-packet : (22 + length f.payload ≤ length (packet_octets f)) × (length (packet_octets f) ≤ 60 + length f.payload)
  unfolding packet_octets
  length-packet =
      let written = length-append (header f) f.payload in
      let all = length-append (header f ++ f.payload) (zeros f) in
      let rest = length-replicate {A = ℕ} (60 - length (header f ++ f.payload)) 0 in
      (omega (arith, written, all, rest, length-header), omega (arith, written, all, rest, length-header))

  pub most-packet : length f.payload ≤ 1492 → length (packet_octets f) ≤ 1514
  unfolding packet_octets
  most-packet few =
      let written = length-append (header f) f.payload in
      let all = length-append (header f ++ f.payload) (zeros f) in
      let rest = length-replicate {A = ℕ} (60 - length (header f ++ f.payload)) 0 in
      omega (arith, written, all, rest, length-header)

  pub front_of-packet : front_of (packet_octets f) ≡ front f
  unfolding front_of
  front_of-packet = ap (take 18) whole ∙ take_at (front f) (four_octets f.seq ++ (f.payload ++ zeros f)) 18 length-front

  pub drop_header : drop 22 (packet_octets f) ≡ f.payload ++ zeros f
  drop_header =
      let behind = f.payload ++ zeros f in
      let past : drop 22 (front f ++ (four_octets f.seq ++ behind)) ≡ drop 4 (drop 18 (front f ++ (four_octets f.seq ++ behind))) = sym (drop-drop 4 18 (front f ++ (four_octets f.seq ++ behind))) in
      ap (drop 22) whole ∙ past ∙ ap (drop 4) (drop_at (front f) (four_octets f.seq ++ behind) 18 length-front) ∙ drop_at (four_octets f.seq) behind 4 refl

  pub drop_payload : (n : ℕ) → n ≡ length f.payload → drop (22 + n) (packet_octets f) ≡ zeros f
  drop_payload n is =
      let past : drop (22 + n) (packet_octets f) ≡ drop n (drop 22 (packet_octets f)) = sym (drop-drop n 22 (packet_octets f)) in
      past ∙ ap (drop n) drop_header ∙ drop_at f.payload (zeros f) n (sym is)
