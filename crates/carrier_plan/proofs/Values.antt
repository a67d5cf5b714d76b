-- The tables that are printed, and what is read of them.
use Rattle.std.proofs.Common.{◌≡◌, ℕ, suc, ◌+◌, ◌≤◌, Bool, ◌++◌, length, get_or, take, Result, Err, ap, sym, ◌<◌, ◌^◌, true, List, [], ◌∷◌, Ok, refl, ◌∙◌, arith, String, Global, Ordering, Less, Equal, Greater, string_bytes, pos, false, All, Some, slice_get}
use Rattle.std.specs.Prelude.{nat_lt, is_some, ◌==◌, if◌then◌else◌}
use Rattle.std.proofs.lemmas.Bool.{and_parts, eqb-true}
use Rattle.std.proofs.lemmas.List.Sums.{AllPass-from_list_all}
use Rattle.std.specs.List.{list_all}
use Rattle.std.proofs.lemmas.List.{take_more}
use Rattle.std.proofs.lemmas.Bool.Decides.{nat_tests}
use Rattle.std.specs.Ordering.{match_ordering}
use Rattle.std.specs.String.{string_cmp}
use Rattle.std.specs.BTreeMap.{insert_entry}
use Rattle.hex.specs.Hex.{encode_lower, decode_sized, IsBytes}
use Rattle.hex.proofs.HexLemmas.{decode_sized-encode_lower}
use Rattle.toml.specs.Data.{Data, integer, string, boolean, array, table, as_integer, depth, items_depth, members_depth, Items, Members, no_members, get_member}
use Rattle.toml.specs.View.{view, items_view, members_view}
use Rattle.toml.specs.declared.value.Value.{Value}
use Rattle.carrier_plan.specs.declared.version.Version.{Version}
use Rattle.carrier_plan.specs.declared.version.Version.TheVariants.{One, Two}
use Rattle.carrier_plan.specs.declared.plan.Method.{Method}
use Rattle.carrier_plan.specs.declared.plan.Piece.{Piece}
use Rattle.carrier_plan.specs.declared.plan.Method.TheVariants.{Sample, Compatible}
use Rattle.carrier_plan.specs.declared.plan.Carrier.{Carrier}
use Rattle.carrier_plan.specs.declared.plan.Flow.{Flow}
use Rattle.carrier_plan.specs.declared.plan.Mode.{Mode}
use Rattle.carrier_plan.specs.declared.plan.Mode.TheVariants.{Tunnel, Bytes, Aware}
use Rattle.carrier_plan.specs.declared.fault.PlanText.{PlanText}
use Rattle.carrier_plan.specs.declared.fault.Field.TheVariants as field
use Rattle.carrier_plan.specs.declared.fault.Spot.{Spot}
use Rattle.carrier_plan.specs.Keys.{number_of, address_of, address_spelled, mode_of, key_of, method_numbered, number_of_version, version_numbered}
use Rattle.carrier_plan.specs.PlanOf.{◌>>=◌, number_at, method_at, mode_at, address_at, numbers_at, numbers_of, numbers_in, are_integers, is_pair, piece_of, are_pairs, pieces_in, pieces_of, pieces_at, all_from, of_carrier, of_flow, top, rate_in, container_in, carrier_in, carrier_of, ends_in, load_in, timing_in, window_in, numbering_in, flow_in, flow_of, line_in, plan_in, version_at}
use Rattle.carrier_plan.specs.Tables.{with_key, method_number, mode_name, rate_members, CanWrite, version_of}

match_members : (o : Ordering) (a b c : List (String Global × Value)) → members_view (match_ordering o a b c) ≡ match_ordering o (members_view a) (members_view b) (members_view c)
match_members Less a b c = refl
match_members Equal a b c = refl
match_members Greater a b c = refl

-- what an insert into the map of a table leaves
pub with_key-view : (es : List (String Global × Value)) (k : String Global) (v : Value) → members_view (insert_entry string_cmp es k v) ≡ with_key (string_bytes k) (view v) (members_view es)
with_key-view [] k v = refl
with_key-view (e ∷ es) k v = match_members (string_cmp k e.0) _ _ _ ∙ rw (with_key-view es k v)

below : (n m : ℕ) → n < m → nat_lt n m ≡ true
below n m h = grind (arith, nat_tests)

-- a number in range is read back
pub number_reads : (spot : Spot) (n : ℕ) → n < 2 ^ 32 → number_of spot (integer (pos n)) ≡ Ok n
number_reads spot n h = rw (below n (2 ^ 32) h)

method_reads : (spot : Spot) (method : Method) → number_of spot (integer (pos (method_number method))) >>= method_numbered spot ≡ Ok method
method_reads spot Sample = refl
method_reads spot Compatible = refl

-- the rate of a carrier is read back, whatever keys come after it
rate_reads : (i : ℕ) (c : Carrier) (keys : Members) → c.s < 2 ^ 32 → c.k < 2 ^ 32 → c.m < 2 ^ 32
    → get_member (key_of field.S) keys ≡ Some (integer (pos c.s)) → get_member (key_of field.K) keys ≡ Some (integer (pos c.k)) → get_member (key_of field.M) keys ≡ Some (integer (pos c.m))
    → rate_in i keys ≡ Ok (c.s, c.k, c.m)
unfolding rate_in
rate_reads i c keys hs hk hm gs gk gm =
    rw (gs, number_reads (of_carrier i field.S) c.s hs, gk, number_reads (of_carrier i field.K) c.k hk, gm, number_reads (of_carrier i field.M) c.m hm)

-- the table of a carrier of one piece, key by key
abbrev pub piece_members : Carrier → Piece → Members
piece_members c piece =
    with_key (key_of field.Size) (integer (pos piece.size)) (with_key (key_of field.Start) (integer (pos piece.start)) (rate_members c))

pub carrier_of_piece_reads : (i : ℕ) (c : Carrier) (piece : Piece) → c.pieces ≡ piece ∷ [] → c.s < 2 ^ 32 → c.k < 2 ^ 32 → c.m < 2 ^ 32 → piece.start < 2 ^ 32 → piece.size < 2 ^ 32
    → carrier_in One i (piece_members c piece) ≡ Ok c
unfolding carrier_in container_in
carrier_of_piece_reads i c piece one hs hk hm ht hz =
    let keys = piece_members c piece in
    let rate : rate_in i keys ≡ Ok (c.s, c.k, c.m) = rate_reads i c keys hs hk hm refl refl refl in
    let method : method_at keys (of_carrier i field.Method) ≡ Ok c.method = method_reads (of_carrier i field.Method) c.method in
    let et : number_at keys (of_carrier i field.Start) ≡ Ok piece.start = number_reads (of_carrier i field.Start) piece.start ht in
    let ez : number_at keys (of_carrier i field.Size) ≡ Ok piece.size = number_reads (of_carrier i field.Size) piece.size hz in
    rw (method, rate, et, ez, ← one) refl

pub carrier_of_piece_depth : (c : Carrier) (piece : Piece) → depth (table (piece_members c piece)) ≡ 1
carrier_of_piece_depth c piece = refl

-- the table of a carrier of any pieces
abbrev pub pieces_members : Carrier → Data → Members
pieces_members c pieces = with_key (key_of field.Pieces) pieces (rate_members c)

abbrev pub ReadsPieces : Data → List Piece → Type 0
ReadsPieces d pieces = (spot : Spot) → pieces_of spot d ≡ Ok pieces

pub carrier_of_pieces_reads : (i : ℕ) (c : Carrier) (d : Data) → ReadsPieces d c.pieces → c.s < 2 ^ 32 → c.k < 2 ^ 32 → c.m < 2 ^ 32
    → carrier_in Two i (pieces_members c d) ≡ Ok c
unfolding carrier_in container_in
carrier_of_pieces_reads i c d reads hs hk hm =
    let keys = pieces_members c d in
    let rate : rate_in i keys ≡ Ok (c.s, c.k, c.m) = rate_reads i c keys hs hk hm refl refl refl in
    let method : method_at keys (of_carrier i field.Method) ≡ Ok c.method = method_reads (of_carrier i field.Method) c.method in
    let pieces : pieces_at keys (of_carrier i field.Pieces) ≡ Ok c.pieces = reads (of_carrier i field.Pieces) in
    rw (method, rate, pieces) refl

pub carrier_of_pieces_depth : (c : Carrier) (d : Data) → depth d ≤ 2 → depth (table (pieces_members c d)) ≤ 3
carrier_of_pieces_depth c d h = omega (arith, h)

-- two numbers that are read back are a piece's
pub pair_reads : (spot : Spot) (v w : Value) (piece : Piece) → view v ≡ integer (pos piece.start) → view w ≡ integer (pos piece.size) → piece.start < 2 ^ 32 → piece.size < 2 ^ 32
    → piece_of spot (array (items_view (v ∷ w ∷ []))) ≡ Ok piece
pair_reads spot v w piece ev ew hv hw = rw (ev, ew, number_reads spot piece.start hv, number_reads spot piece.size hw) refl

pub pair_is_pair : (v w : Value) (a b : ℕ) → view v ≡ integer (pos a) → view w ≡ integer (pos b) → is_pair (array (items_view (v ∷ w ∷ []))) ≡ true
pair_is_pair v w a b ev ew = rw (ev, ew) refl

pub pair_depth : (v w : Value) (a b : ℕ) → view v ≡ integer (pos a) → view w ≡ integer (pos b) → depth (array (items_view (v ∷ w ∷ []))) ≤ 1
pair_depth v w a b ev ew = rw (ev, ew) (omega arith)

-- carriers that a version can write
can_write_by : (cs : List Carrier) (b : Bool) → list_all (λ c. length c.pieces == 1) cs ≡ b → All (CanWrite (if b then One else Two)) cs
can_write_by cs true e k d lt = eqb-true _ _ (AllPass-from_list_all (λ (c : Carrier). length c.pieces == 1) cs e k d lt)
can_write_by cs false e k d lt = tt

pub can_write_all : (cs : List Carrier) → All (CanWrite (version_of cs)) cs
can_write_all cs = can_write_by cs (list_all (λ c. length c.pieces == 1) cs) refl

pub one_piece : (pieces : List Piece) (piece : Piece) → length pieces ≡ 1 → slice_get pieces 0 ≡ Some piece → pieces ≡ piece ∷ []
one_piece [] piece one at = absurd (omega arith)
one_piece (p ∷ []) piece one at = let same : p ≡ piece = cc in ap (λ x. x ∷ []) same
one_piece (p ∷ q ∷ ps) piece one at = absurd (omega arith)

-- the table of a flow, key by key
abbrev pub flow_members : ℕ → Data → Data → Bool → Data → ℕ → ℕ → ℕ → ℕ → ℕ → ℕ → Members
flow_members id dst src control carriers frames lmin lmax cap p q =
    with_key (key_of field.Q) (integer (pos q)) (with_key (key_of field.P) (integer (pos p)) (with_key (key_of field.Cap) (integer (pos cap)) (with_key (key_of field.Lmax) (integer (pos lmax)) (with_key (key_of field.Lmin) (integer (pos lmin)) (with_key (key_of field.Frames) (integer (pos frames)) (with_key (key_of field.Carriers) carriers (with_key (key_of field.Control) (boolean control) (with_key (key_of field.Src) src (with_key (key_of field.Dst) dst (with_key (key_of field.Id) (integer (pos id)) no_members))))))))))

-- what the three values of a flow that are no numbers give
abbrev pub ReadsAddress : Data → List ℕ → Type 0
ReadsAddress d octets = (spot : Spot) → address_of spot d ≡ Ok octets

abbrev pub ReadsNumbers : Data → List ℕ → Type 0
ReadsNumbers d numbers = (spot : Spot) → numbers_of spot d ≡ Ok numbers

pub flow_reads : (i id : ℕ) (to from : Data) (dst src : List ℕ) (control : Bool) (load : Data) (carriers : List ℕ) (frames lmin lmax cap p q : ℕ)
    → id < 2 ^ 32 → ReadsAddress to dst → ReadsAddress from src → ReadsNumbers load carriers → frames < 2 ^ 32 → lmin < 2 ^ 32 → lmax < 2 ^ 32 → cap < 2 ^ 32 → p < 2 ^ 32 → q < 2 ^ 32
    → flow_in i (flow_members id to from control load frames lmin lmax cap p q) ≡ Ok (record { id = id; dst = dst; src = src; control = control; carriers = carriers; frames = frames; lmin = lmin; lmax = lmax; cap = cap; p = p; q = q })
unfolding flow_in ends_in load_in timing_in window_in numbering_in
flow_reads i id to from dst src control load carriers frames lmin lmax cap p q h-id h-to h-from h-load h-frames h-lmin h-lmax h-cap h-p h-q =
    let keys = flow_members id to from control load frames lmin lmax cap p q in
    let e-id : number_at keys (of_flow i field.Id) ≡ Ok id = number_reads (of_flow i field.Id) id h-id in
    let e-to : address_at keys (of_flow i field.Dst) ≡ Ok dst = h-to (of_flow i field.Dst) in
    let e-from : address_at keys (of_flow i field.Src) ≡ Ok src = h-from (of_flow i field.Src) in
    let e-load : numbers_at keys (of_flow i field.Carriers) ≡ Ok carriers = h-load (of_flow i field.Carriers) in
    let e-frames : number_at keys (of_flow i field.Frames) ≡ Ok frames = number_reads (of_flow i field.Frames) frames h-frames in
    let e-lmin : number_at keys (of_flow i field.Lmin) ≡ Ok lmin = number_reads (of_flow i field.Lmin) lmin h-lmin in
    let e-lmax : number_at keys (of_flow i field.Lmax) ≡ Ok lmax = number_reads (of_flow i field.Lmax) lmax h-lmax in
    let e-cap : number_at keys (of_flow i field.Cap) ≡ Ok cap = number_reads (of_flow i field.Cap) cap h-cap in
    let e-p : number_at keys (of_flow i field.P) ≡ Ok p = number_reads (of_flow i field.P) p h-p in
    let e-q : number_at keys (of_flow i field.Q) ≡ Ok q = number_reads (of_flow i field.Q) q h-q in
    rw (e-id, e-to, e-from, e-load, e-frames, e-lmin, e-lmax, e-cap, e-p, e-q)

pub flow_depth : (id : ℕ) (to from : Data) (control : Bool) (load : Data) (frames lmin lmax cap p q : ℕ) → depth to ≡ 0 → depth from ≡ 0 → depth load ≤ 1 → depth (table (flow_members id to from control load frames lmin lmax cap p q)) ≤ 2
flow_depth id to from control load frames lmin lmax cap p q a b h = rw (a, b) (omega (arith, h))

-- the table of a plan, key by key
abbrev pub plan_members : Version → ℕ → Mode → ℕ → Items → Items → Members
plan_members version option mode playout carriers flows =
    with_key (key_of field.Flow) (array flows) (with_key (key_of field.Carrier) (array carriers) (with_key (key_of field.Playout) (integer (pos playout)) (with_key (key_of field.Mode) (string (mode_name mode)) (with_key (key_of field.LineOption) (integer (pos option)) (with_key (key_of field.Version) (integer (pos (number_of_version version))) no_members)))))

mode_reads : (spot : Spot) (mode : Mode) → mode_of spot (string (mode_name mode)) ≡ Ok mode
mode_reads spot Tunnel = refl
mode_reads spot Bytes = refl
mode_reads spot Aware = refl

version_reads : (spot : Spot) (version : Version) → number_of spot (integer (pos (number_of_version version))) >>= version_numbered spot ≡ Ok version
version_reads spot One = refl
version_reads spot Two = refl

pub plan_reads : (version : Version) (option : ℕ) (mode : Mode) (playout : ℕ) (carrier-items flow-items : Items) (carriers : List Carrier) (flows : List Flow)
    → option < 2 ^ 32 → playout < 2 ^ 32 → all_from (carrier_of version) 0 carrier-items ≡ Ok carriers → all_from flow_of 0 flow-items ≡ Ok flows
    → plan_in (plan_members version option mode playout carrier-items flow-items) ≡ Ok (record { option = option; mode = mode; playout = playout; carriers = carriers; flows = flows })
unfolding plan_in line_in
plan_reads version option mode playout carrier-items flow-items carriers flows h-option h-playout h-carriers h-flows =
    let keys = plan_members version option mode playout carrier-items flow-items in
    let e-version : version_at keys (top field.Version) ≡ Ok version = version_reads (top field.Version) version in
    let e-option : number_at keys (top field.LineOption) ≡ Ok option = number_reads (top field.LineOption) option h-option in
    let e-mode : mode_at keys (top field.Mode) ≡ Ok mode = mode_reads (top field.Mode) mode in
    let e-playout : number_at keys (top field.Playout) ≡ Ok playout = number_reads (top field.Playout) playout h-playout in
    rw (e-version, e-option, e-mode, e-playout, h-carriers, h-flows)

pub plan_depth : (version : Version) (option : ℕ) (mode : Mode) (playout : ℕ) (carriers flows : Items) → items_depth carriers ≤ 3 → items_depth flows ≤ 2 → members_depth (plan_members version option mode playout carriers flows) ≤ 80
plan_depth version option mode playout carriers flows a b = omega (arith, a, b)

-- one more element behind those that were read
push_read : {A : Type 0} (a : Result A PlanText) (b : Result (List A) PlanText) (x : A) → (a >>= (λ first. (b >>= (λ xs. Ok (xs ++ x ∷ []))) >>= (λ others. Ok (first ∷ others)))) ≡ ((a >>= (λ first. b >>= (λ others. Ok (first ∷ others)))) >>= (λ xs. Ok (xs ++ x ∷ [])))
push_read (Ok y) (Ok ys) x = refl
push_read (Ok y) (Err e) x = refl
push_read (Err e) b x = refl

all_from-push : {A : Type 0} (judge : ℕ → Data → Result A PlanText) (vs : List Value) (i : ℕ) (v : Value) (x : A) → ((j : ℕ) → judge j (view v) ≡ Ok x) → all_from judge i (items_view (vs ++ v ∷ [])) ≡ (all_from judge i (items_view vs) >>= (λ xs. Ok (xs ++ x ∷ [])))
all_from-push judge [] i v x h = rw (h i)
all_from-push judge (u ∷ vs) i v x h = rw (all_from-push judge vs (suc i) v x h) (push_read (judge i (view u)) (all_from judge (suc i) (items_view vs)) x)

pub all_read_more : {A : Type 0} (judge : ℕ → Data → Result A PlanText) (vs : List Value) (v : Value) (xs : List A) (i : ℕ) (d : A) → i < length xs → ((j : ℕ) → judge j (view v) ≡ Ok (get_or xs i d)) → all_from judge 0 (items_view vs) ≡ Ok (take i xs) → all_from judge 0 (items_view (vs ++ v ∷ [])) ≡ Ok (take (i + 1) xs)
all_read_more judge vs v xs i d within h before =
    all_from-push judge vs 0 v (get_or xs i d) h ∙ ap (λ r. r >>= (λ ys. Ok (ys ++ get_or xs i d ∷ []))) before ∙ ap Ok (sym (take_more xs i d within))

pub items_depth-push : (vs : List Value) (v : Value) (n : ℕ) → items_depth (items_view vs) ≤ n → depth (view v) ≤ n → items_depth (items_view (vs ++ v ∷ [])) ≤ n
items_depth-push [] v n a b = omega (arith, a, b)
items_depth-push (u ∷ vs) v n a b =
    let rest = items_depth-push vs v n (omega (arith, a)) b in
    omega (arith, a, rest)

pub are_integers-push : (vs : List Value) (v : Value) (n : ℕ) → view v ≡ integer (pos n) → are_integers (items_view vs) ≡ true → are_integers (items_view (vs ++ v ∷ [])) ≡ true
are_integers-push [] v n h e = rw h
are_integers-push (u ∷ vs) v n h e =
    let (here, more) = and_parts (is_some (as_integer (view u))) (are_integers (items_view vs)) e in
    rw (here, are_integers-push vs v n h more)

-- an address is read back from its digits
pub address_reads : (octets digits : List ℕ) → digits ≡ encode_lower octets → length octets ≡ 6 → IsBytes octets → ReadsAddress (string digits) octets
address_reads octets digits same len bytes spot = ap (λ text. address_spelled spot (decode_sized text 6)) same ∙ ap (address_spelled spot) (decode_sized-encode_lower octets 6 len bytes)

-- whole numbers that are read back are an array's
pub numbers_read : (vs : List Value) (numbers : List ℕ) → are_integers (items_view vs) ≡ true → ((spot : Spot) → numbers_in spot (items_view vs) ≡ Ok numbers) → ReadsNumbers (array (items_view vs)) numbers
numbers_read vs numbers integers reads spot = rw integers (reads spot)

-- pairs of whole numbers that are read back are an array's
pub pieces_read : (vs : List Value) (pieces : List Piece) → are_pairs (items_view vs) ≡ true → ((spot : Spot) → pieces_in spot (items_view vs) ≡ Ok pieces) → ReadsPieces (array (items_view vs)) pieces
pieces_read vs pieces pairs reads spot = rw pairs (reads spot)

pub are_pairs-push : (vs : List Value) (v : Value) → is_pair (view v) ≡ true → are_pairs (items_view vs) ≡ true → are_pairs (items_view (vs ++ v ∷ [])) ≡ true
are_pairs-push [] v h e = rw h
are_pairs-push (u ∷ vs) v h e =
    let (here, more) = and_parts (is_pair (view u)) (are_pairs (items_view vs)) e in
    rw (here, are_pairs-push vs v h more)
