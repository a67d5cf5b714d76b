-- Bits of a frame that are taken together.
use Rattle.std.proofs.Common.{◌≡◌, ℕ, suc, ◌+◌, ◌*◌, ◌/◌, ◌%◌, ◌^◌, ◌<◌, ◌≤◌, Bool, true, false, cond, eqb, List, [], ◌∷◌, ◌++◌, length, take, drop, get_or, Option, Some, None, refl, sym, ◌∙◌, ap, subst, arith, append_assoc, add-zero, zero-add, length-take, length-drop, lit<, zero-le, pow-add, Fits, w16}
use Rattle.std.specs.Option.{option_to_list, is_some}
use Rattle.std.proofs.Math.Nat.{add-mul, mul_assoc, mul_right_comm, mul_comm, add-mul-mod_self_left, pow-succ', pow-le-pow_right, le-mul_of_pos_right, le_of_mul-le-mul_right, mul-le-mul_right, div-lt_iff_lt-mul}
use Rattle.std.proofs.lemmas.Bool.{agree_below, agree_below_at, eq-eqb, ne_eqb, eqb-true, cond-true, cond-false}
use Rattle.std.proofs.lemmas.List.{append-nil, take-append-drop}
use Rattle.std.proofs.lemmas.Nat.{one_shl, mod-mul-add, mod_below, div-add-mod'}
use Rattle.ethernet_channel.specs.declared.events.FastEvent.{FastEvent}
use Rattle.ethernet_channel.specs.declared.groups.TheConstants.{REVERSED}
use Rattle.ethernet_channel.specs.declared.reader.Step.{Step}
use Rattle.ethernet_channel.specs.declared.reader.Step.TheVariants.{Hunting, Preamble, Data, End}
use Rattle.ethernet_channel.specs.Bits.{low_bits, octet_bits}
use Rattle.ethernet_channel.specs.Codes.{number, five, delimiter, terminate, reset, nibble_of, start}
use Rattle.ethernet_channel.specs.Keeps.{Kept}
use Rattle.ethernet_channel.specs.Steps.{Taken, goes_on, stops, takes_nibble, takes_reset, takes_group, with_bit, with_bits, takes_part, takes_in, takes, run, run_events, IsPastEvent, Ran, IsInFrame, IsAfterBits}
use Rattle.ethernet_channel.proofs.Hunts.{number_start}
use Rattle.ethernet_channel.proofs.Numbers.{number-append, number-below}

-- ---- the table

table_passes : agree_below (λ octet. eqb (get_or REVERSED octet 0) (number (octet_bits octet))) (λ octet. true) 256 ≡ true
unfolding low_bits
table_passes = refl

pub reversed_is : (octet : ℕ) → octet < 256 → get_or REVERSED octet 0 ≡ number (octet_bits octet)
reversed_is octet h =
    eqb-true _ _ (agree_below_at (λ k. eqb (get_or REVERSED k 0) (number (octet_bits k))) (λ k. true) 256 octet table_passes h)

-- ---- bits among the last ten

mod_product : (a n c : ℕ) → (a % 1024 * n + c) % 1024 ≡ (a * n + c) % 1024
mod_product a n c =
    let whole : a ≡ a % 1024 + 1024 * (a / 1024) = omega arith in
    let product : a * n ≡ a % 1024 * n + 1024 * (a / 1024 * n) =
    ap (λ x. x * n) whole ∙ add-mul (a % 1024) (1024 * (a / 1024)) n ∙ ap (λ x. a % 1024 * n + x) (mul_assoc 1024 (a / 1024) n) in
    let sum : a * n + c ≡ (a % 1024 * n + c) + 1024 * (a / 1024 * n) = omega (arith, product) in
    sym (ap (λ x. x % 1024) sum ∙ add-mul-mod_self_left (a % 1024 * n + c) 1024 (a / 1024 * n))

twice_product : (r p q more : ℕ) → q ≡ 2 * p → (2 * r + 0) * p + more ≡ r * q + (0 + more)
twice_product r p q more e =
    ap (λ x. x * p + more) (add-zero (2 * r))
    ∙ ap (λ x. x + more) (mul_right_comm 2 r p ∙ mul_comm (2 * p) r ∙ ap (λ x. r * x) (sym e))
    ∙ ap (λ x. r * q + x) (sym (zero-add more))

twice_and_one : (r p q more : ℕ) → q ≡ 2 * p → (2 * r + 1) * p + more ≡ r * q + (p + more)
twice_and_one r p q more e =
    let sum : (2 * r + 1) * p ≡ 2 * r * p + 1 * p = add-mul (2 * r) 1 p in
    let product : 2 * r * p ≡ r * q = mul_right_comm 2 r p ∙ mul_comm (2 * p) r ∙ ap (λ x. r * x) (sym e) in
    omega (arith, sum, product)

-- one bit and then others
recent_more : (r : ℕ) (bit : Bool) (bits : List Bool)
    → ((2 * r + cond bit 1 0) % 1024 * 2 ^ length bits + number bits) % 1024 ≡ (r * 2 ^ length (bit ∷ bits) + number (bit ∷ bits)) % 1024
recent_more r bit bits =
    let n = length bits in
    let power : 2 ^ suc n ≡ 2 * 2 ^ n = pow-succ' 2 n in
    mod_product (2 * r + cond bit 1 0) (2 ^ n) (number bits) ∙ ap (λ x. x % 1024) (by_bit bit power)
  where
    by_bit : (bit : Bool) → 2 ^ suc (length bits) ≡ 2 * 2 ^ length bits
        → (2 * r + cond bit 1 0) * 2 ^ length bits + number bits ≡ r * 2 ^ length (bit ∷ bits) + number (bit ∷ bits)
    by_bit true power = twice_and_one r (2 ^ length bits) (2 ^ suc (length bits)) (number bits) power
    by_bit false power = twice_product r (2 ^ length bits) (2 ^ suc (length bits)) (number bits) power

-- ---- one bit within a frame

in_part : (s : Step) (k : Kept) → (s ≡ Hunting → ⊥) → takes_in s k ≡ takes_part s k
in_part Hunting k h = absurd (h refl)
in_part Preamble k h = refl
in_part Data k h = refl
in_part End k h = refl

inside_one : (k : Kept) (bit : Bool) → IsInFrame k → k.bits < 4 → takes k bit ≡ goes_on (record (with_bit k bit) { bits = k.bits + 1 })
unfolding takes
inside_one k bit h few =
    in_part k.step (with_bit k bit) h ∙ cond-false (eqb k.bits 4) _ _ (ne_eqb k.bits 4 (λ e. omega (arith, e, few)))

inside_last : (k : Kept) (bit : Bool) → IsInFrame k → k.bits ≡ 4
    → takes k bit ≡ takes_group k.step (record (with_bit k bit) { bits = 0 }) ((with_bit k bit).recent % 32)
unfolding takes
inside_last k bit h four =
    in_part k.step (with_bit k bit) h ∙ cond-true (eqb k.bits 4) _ _ (eq-eqb k.bits 4 four)

-- ---- a part of a group

part_of : Kept → List Bool → Kept
part_of k bits = record k { recent = (k.recent * 2 ^ length bits + number bits) % 1024; bits = k.bits + length bits }

record RunsTo (k : Kept) (bits : List Bool) (new : Kept) (events : List FastEvent) : Type 0 where
  kept : run k bits ≡ new
  events_are : run_events k bits ≡ events

kept_same : (k : Kept) (recent recent' bits bits' : ℕ) → recent ≡ recent' → bits ≡ bits'
    → (let a : Kept = record k { recent = recent; bits = bits } in let b : Kept = record k { recent = recent'; bits = bits' } in a ≡ b)
kept_same k recent recent' bits bits' e e' =
    ap (λ r. let x : Kept = record k { recent = r; bits = bits } in x) e ∙ ap (λ n. let x : Kept = record k { recent = recent'; bits = n } in x) e'

after_takes : (k : Kept) (bit : Bool) (bits : List Bool) (t : Taken) (new : Kept) (events : List FastEvent) → takes k bit ≡ t
    → RunsTo t.kept bits new events → RunsTo k (bit ∷ bits) new (option_to_list t.event ++ events)
after_takes k bit bits t new events e h = record {
  kept = ap (λ x. run x.kept bits) e ∙ h.kept;
  events_are = ap (λ x. option_to_list x.event ++ run_events x.kept bits) e ∙ ap (λ xs. option_to_list t.event ++ xs) h.events_are;
}

nothing_more : (k : Kept) → RunsTo k [] k []
nothing_more k = record { kept = refl; events_are = refl }

run_few : (k : Kept) (bit : Bool) (bits : List Bool) → IsInFrame k → k.bits + length (bit ∷ bits) ≤ 4 → RunsTo k (bit ∷ bits) (part_of k (bit ∷ bits)) []
unfolding part_of
run_few k bit [] h few =
    let one = after_takes k bit [] _ _ [] (inside_one k bit h (omega arith)) (nothing_more _) in
    record {
      kept = one.kept ∙ kept_same k _ _ _ _ (by_bit bit) refl;
      events_are = one.events_are;
    }
  where
    by_bit : (bit : Bool) → (2 * k.recent + cond bit 1 0) % 1024 ≡ (k.recent * 2 ^ 1 + number (bit ∷ [])) % 1024
    by_bit true = omega arith
    by_bit false = omega arith
run_few k bit (next ∷ bits) h few =
    let k' : Kept = record (with_bit k bit) { bits = k.bits + 1 } in
    let more = run_few k' next bits h (omega arith) in
    let all = after_takes k bit (next ∷ bits) _ _ [] (inside_one k bit h (omega arith)) more in
    record {
      kept = all.kept ∙ kept_same k _ _ _ _ (recent_more k.recent bit (next ∷ bits)) (omega arith);
      events_are = all.events_are;
    }

-- ---- the end of a group

-- the group that is whole with these bits
grouped : Kept → List Bool → Taken
grouped k bits =
    let recent = (k.recent * 2 ^ length bits + number bits) % 1024 in takes_group k.step (record k { recent = recent; bits = 0 }) (recent % 32)

run_group : (k : Kept) (bit : Bool) (bits : List Bool) → IsInFrame k → k.bits + length (bit ∷ bits) ≡ 5
    → (let t = grouped k (bit ∷ bits) in RunsTo k (bit ∷ bits) t.kept (option_to_list t.event))
unfolding grouped
run_group k bit [] h whole =
    let r : (2 * k.recent + cond bit 1 0) % 1024 ≡ (k.recent * 2 ^ 1 + number (bit ∷ [])) % 1024 = by_bit bit in
    let e = inside_last k bit h (omega arith) ∙ ap (λ n. takes_group k.step (record k { recent = n; bits = 0 }) (n % 32)) r in
    let one = after_takes k bit [] _ _ [] e (nothing_more _) in
    record { kept = one.kept; events_are = one.events_are ∙ append-nil _ }
  where
    by_bit : (bit : Bool) → (2 * k.recent + cond bit 1 0) % 1024 ≡ (k.recent * 2 ^ 1 + number (bit ∷ [])) % 1024
    by_bit true = omega arith
    by_bit false = omega arith
run_group k bit (next ∷ bits) h whole =
    let k' : Kept = record (with_bit k bit) { bits = k.bits + 1 } in
    let more = run_group k' next bits h (omega arith) in
    let all = after_takes k bit (next ∷ bits) _ _ _ (inside_one k bit h (omega arith)) more in
    let same : grouped k' (next ∷ bits) ≡ grouped k (bit ∷ next ∷ bits) =
    ap (λ n. takes_group k.step (record k { recent = n; bits = 0 }) (n % 32)) (recent_more k.recent bit (next ∷ bits)) in
    record {
      kept = all.kept ∙ ap (λ t. t.kept) same;
      events_are = all.events_are ∙ ap (λ t. option_to_list t.event) same;
    }

-- ---- what is taken together

ran_by : (old new : Kept) (event : Option FastEvent) (count part : ℕ)
    → ((bits : List Bool) → length bits ≡ count → number bits ≡ part → RunsTo old bits new (option_to_list event)) → Ran old new event count part
ran_by old new event count part h = record {
  kept = λ bits e e'. sym ((h bits e e').kept);
  events = λ bits e e'. (h bits e e').events_are;
}

runs_as : (k new new' : Kept) (bits : List Bool) (events events' : List FastEvent) → new ≡ new' → events ≡ events' → RunsTo k bits new events → RunsTo k bits new' events'
runs_as k new new' bits events events' e e' h = record { kept = h.kept ∙ e; events_are = h.events_are ∙ e' }

pub ran_few : (k k' new : Kept) (count part : ℕ) → IsInFrame k → k' ≡ with_bits k count part → new ≡ record k' { bits = k'.bits + count } → 1 ≤ count → k'.bits + count < 5
    → Ran k new None count part
unfolding part_of
ran_few k k' new count part h e is some few' = ran_by k new None count part (λ bits. by_list bits)
  where
    few : k.bits + count < 5
    few = omega (arith, few', ap (λ x. x.bits) e)

    by_list : (bits : List Bool) → length bits ≡ count → number bits ≡ part → RunsTo k bits new []
    by_list [] n p = absurd (omega (arith, n))
    by_list (bit ∷ bits) n p =
        let same : part_of k (bit ∷ bits) ≡ new =
        kept_same k _ _ _ _ (ap (λ m. (k.recent * 2 ^ m + number (bit ∷ bits)) % 1024) n ∙ ap (λ q. (k.recent * 2 ^ count + q) % 1024) p) (ap (λ m. k.bits + m) n)
        ∙ sym (ap (λ x. let y : Kept = record x { bits = x.bits + count } in y) e) ∙ sym is in
        runs_as k _ new (bit ∷ bits) [] [] same refl (run_few k bit bits h (omega (arith, n, few)))

pub ran_group : (k k' k'' new : Kept) (event : Option FastEvent) (count part : ℕ) → IsInFrame k → k' ≡ with_bits k count part → k'' ≡ record k' { bits = 0 }
    → (let t = takes_group k''.step k'' (k''.recent % 32) in (event ≡ t.event) × (new ≡ t.kept)) → 1 ≤ count → 5 ≤ k'.bits + count → k.bits + count ≤ 5
    → Ran k new event count part
unfolding grouped
ran_group k k' k'' new event count part h e is took some most few = ran_by k new event count part (λ bits. by_list bits)
  where
    whole : k.bits + count ≡ 5
    whole = omega (arith, most, few, ap (λ x. x.bits) e)

    by_list : (bits : List Bool) → length bits ≡ count → number bits ≡ part → RunsTo k bits new (option_to_list event)
    by_list [] n p = absurd (omega (arith, n))
    by_list (bit ∷ bits) n p =
        let recent : (k.recent * 2 ^ length (bit ∷ bits) + number (bit ∷ bits)) % 1024 ≡ (k.recent * 2 ^ count + part) % 1024 =
        ap (λ m. (k.recent * 2 ^ m + number (bit ∷ bits)) % 1024) n ∙ ap (λ q. (k.recent * 2 ^ count + q) % 1024) p in
        let kept : k'' ≡ record (with_bits k count part) { bits = 0 } = is ∙ ap (λ x. let y : Kept = record x { bits = 0 } in y) e in
        let same : grouped k (bit ∷ bits) ≡ takes_group k''.step k'' (k''.recent % 32) =
        ap (λ r. takes_group k.step (record k { recent = r; bits = 0 }) (r % 32)) recent
        ∙ sym (ap (λ x. takes_group x.step x (x.recent % 32)) kept) in
        runs_as k _ new (bit ∷ bits) _ _ (ap (λ t. t.kept) same ∙ sym took.1) (ap (λ t. option_to_list t.event) same ∙ ap option_to_list (sym took.0))
        (run_group k bit bits h (omega (arith, n, whole)))

-- ---- after a group

record IsAfterGroup (t : Taken) (bits : ℕ) : Type 0 where
  after : IsAfterBits t.event t.kept bits

after_cond : (b : Bool) (t t' : Taken) (bits : ℕ) → IsAfterGroup t bits → IsAfterGroup t' bits → IsAfterGroup (cond b t t') bits
after_cond true t t' bits h h' = h
after_cond false t t' bits h h' = h'

stops_after : (event : FastEvent) (k : Kept) (bits : ℕ) → IsAfterGroup (stops event k) bits
stops_after event k bits = record { after = record { hunts = refl; few = omega arith } }

goes_after : (k : Kept) (bits : ℕ) → IsInFrame k → k.bits ≡ bits → IsAfterGroup (goes_on k) bits
goes_after k bits h e = record { after = (h, e) }

nibble_after : (o : Option ℕ) (k : Kept) (g : ℕ) → IsInFrame k → IsAfterGroup (takes_nibble k g o) k.bits
nibble_after None k g h = after_cond (eqb g terminate) _ _ k.bits (goes_after (record k { step = End }) k.bits (λ e. cc) refl) (stops_after _ k k.bits)
nibble_after (Some n) k g h =
    after_cond (eqb (length k.nibbles) 3044) _ _ k.bits (stops_after _ k k.bits) (goes_after (record k { nibbles = k.nibbles ++ n ∷ [] }) k.bits h refl)

reset_after : (k : Kept) → IsAfterGroup (takes_reset k) k.bits
reset_after k =
    after_cond (eqb (length k.nibbles) 0) _ _ k.bits (stops_after _ k k.bits)
    (after_cond (eqb (length k.nibbles % 2) 1) _ _ k.bits (stops_after _ k k.bits) (stops_after _ (record k { nibbles = k.frame; frame = k.nibbles }) k.bits))

group_by : (s : Step) (k : Kept) (g : ℕ) → IsInFrame k → (s ≡ Hunting → ⊥) → IsAfterGroup (takes_group s k g) k.bits
group_by Hunting k g h h' = absurd (h' refl)
group_by Preamble k g h h' =
    after_cond (eqb g five) _ _ k.bits
    (after_cond (eqb k.fives 13) _ _ k.bits (stops_after _ k k.bits) (goes_after (record k { fives = k.fives + 1 }) k.bits h refl))
    (after_cond (eqb g delimiter) _ _ k.bits (goes_after (record k { step = Data; nibbles = [] }) k.bits (λ e. cc) refl) (stops_after _ k k.bits))
group_by Data k g h h' = nibble_after (nibble_of g) k g h
group_by End k g h h' = after_cond (eqb g reset) _ _ k.bits (reset_after k) (stops_after _ k k.bits)

pub group_after : (k : Kept) (g : ℕ) → IsInFrame k → IsAfterBits (takes_group k.step k g).event (takes_group k.step k g).kept k.bits
group_after k g h = (group_by k.step k g h h).after

pub after_group : (k new : Kept) (event : Option FastEvent) (g bits : ℕ) → IsInFrame k
    → (let t = takes_group k.step k g in (event ≡ t.event) × (new ≡ t.kept)) → k.bits ≡ bits → IsAfterBits event new bits
after_group k new event g bits h took e =
    subst (λ n. IsAfterBits event new n) e
    (subst (λ x. IsAfterBits x new k.bits) (sym took.0)
    (subst (λ x. IsAfterBits (takes_group k.step k g).event x k.bits) (sym took.1) (group_after k g h)))

pub after_some : (event : Option FastEvent) (k : Kept) (bits : ℕ) → is_some event ≡ true → IsAfterBits event k bits → IsPastEvent k 1
after_some None k bits e h = absurd (cc)
after_some (Some event) k bits e h = h

pub after_none : (event : Option FastEvent) (k : Kept) (bits : ℕ) → is_some event ≡ false → IsAfterBits event k bits → (event ≡ None) × IsInFrame k × (k.bits ≡ bits)
after_none None k bits e h = (refl, h.0, h.1)
after_none (Some event) k bits e h = absurd (cc)

-- ---- a few bits after an event

sum_more : (r : ℕ) (bit : Bool) (bits : List Bool)
    → (2 * r + cond bit 1 0) * 2 ^ length bits + number bits ≡ r * 2 ^ length (bit ∷ bits) + number (bit ∷ bits)
sum_more r true bits = twice_and_one r (2 ^ length bits) (2 ^ suc (length bits)) (number bits) (pow-succ' 2 (length bits))
sum_more r false bits = twice_product r (2 ^ length bits) (2 ^ suc (length bits)) (number bits) (pow-succ' 2 (length bits))

hunts_on : (s : Step) (k : Kept) → s ≡ Hunting → k.recent < 512 → takes_in s k ≡ goes_on k
hunts_on Hunting k e few =
    ap goes_on (cond-false (eqb k.recent (number start)) _ k (ne_eqb k.recent (number start) (λ same. omega (arith, same, few, number_start))))
hunts_on Preamble k e few = absurd (cc)
hunts_on Data k e few = absurd (cc)
hunts_on End k e few = absurd (cc)

run_past : (k : Kept) (bits : List Bool) (total : ℕ) → k.step ≡ Hunting → k.recent * 2 ^ length bits + number bits ≡ total → total < 512
    → RunsTo k bits (record k { recent = total }) []
unfolding takes
run_past k [] total h e few =
    let same : k.recent ≡ total = omega (arith, e) in
    record { kept = ap (λ r. let x : Kept = record k { recent = r } in x) same; events_are = refl }
run_past k (bit ∷ bits) total h e few =
    let r = 2 * k.recent + cond bit 1 0 in
    let one : 1 ≤ 2 ^ length bits = pow-le-pow_right (lit< tt) (zero-le {n = length bits}) in
    let whole : r * 2 ^ length bits + number bits ≡ total = sum_more k.recent bit bits ∙ e in
    let low : r ≤ r * 2 ^ length bits = le-mul_of_pos_right r one in
    let small : r < 512 = omega (arith, low, whole, few) in
    let same : (with_bit k bit).recent ≡ r = omega (arith, small) in
    let rest : (with_bit k bit).recent * 2 ^ length bits + number bits ≡ total = ap (λ x. x * 2 ^ length bits + number bits) same ∙ whole in
    after_takes k bit bits (goes_on (with_bit k bit)) (record k { recent = total }) []
    (hunts_on k.step (with_bit k bit) h (omega (arith, same, small)))
    (run_past (with_bit k bit) bits total h rest few)

pub ran_past : (k new : Kept) (count part : ℕ) → IsPastEvent k 1 → part < 128 → new ≡ record k { recent = part } → Ran k new None count part
ran_past k new count part past few is =
    ran_by k new None count part (λ bits n p.
    let none : k.recent ≡ 0 = omega (arith, past.few) in
    let total : k.recent * 2 ^ length bits + number bits ≡ part = ap (λ x. x * 2 ^ length bits + number bits) none ∙ omega (arith, p) in
    runs_as k _ new bits [] [] (sym is) refl (run_past k bits part past.hunts total (omega (arith, few))))

-- ---- one after the other

run-append : (k : Kept) (bits more : List Bool) → run k (bits ++ more) ≡ run (run k bits) more
run-append k [] more = refl
run-append k (bit ∷ bits) more = run-append (takes k bit).kept bits more

run_events-append : (k : Kept) (bits more : List Bool) → run_events k (bits ++ more) ≡ run_events k bits ++ run_events (run k bits) more
run_events-append k [] more = refl
run_events-append k (bit ∷ bits) more =
    ap (λ es. option_to_list (takes k bit).event ++ es) (run_events-append (takes k bit).kept bits more)
    ∙ sym (append_assoc (option_to_list (takes k bit).event) (run_events (takes k bit).kept bits) (run_events (run (takes k bit).kept bits) more))

record Parts (bits : List Bool) (c c' p p' : ℕ) : Type 0 where
  first_length : length (take c bits) ≡ c
  last_length : length (drop c bits) ≡ c'
  first : number (take c bits) ≡ p
  last : number (drop c bits) ≡ p'

same_parts : (a b p p' m : ℕ) → b < m → p' < m → a * m + b ≡ p * m + p' → (a ≡ p) × (b ≡ p')
same_parts a b p p' m h h' e =
    let low : b ≡ p' = sym (mod-mul-add a m b h) ∙ ap (λ x. x % m) e ∙ mod-mul-add p m p' h' in
    let high : a * m ≡ p * m = omega (arith, e, low) in
    let some : 0 < m = omega arith in
    let up : a ≤ p = le_of_mul-le-mul_right (let h' : a * m ≤ p * m = omega (arith, high) in h') some in
    let down : p ≤ a = le_of_mul-le-mul_right (let h' : p * m ≤ a * m = omega (arith, high) in h') some in
    (omega (arith, up, down), low)

parts : (bits : List Bool) (c c' p p' : ℕ) → length bits ≡ c + c' → number bits ≡ p * 2 ^ c' + p' → p' < 2 ^ c' → Parts bits c c' p p'
parts bits c c' p p' n e small =
    let front : length (take c bits) ≡ c = omega (arith, length-take c bits, n) in
    let back : length (drop c bits) ≡ c' = omega (arith, length-drop c bits, n) in
    let whole : number (take c bits) * 2 ^ c' + number (drop c bits) ≡ p * 2 ^ c' + p' =
    ap (λ k. number (take c bits) * 2 ^ k + number (drop c bits)) (sym back) ∙ sym (number-append (take c bits) (drop c bits))
    ∙ ap number (take-append-drop c bits) ∙ e in
    let below : number (drop c bits) < 2 ^ c' = omega (arith, number-below (drop c bits), ap (λ k. 2 ^ k) back) in
    let same = same_parts (number (take c bits)) (number (drop c bits)) p p' (2 ^ c') below small whole in
    record { first_length = front; last_length = back; first = same.0; last = same.1 }

pub ran_both : (old mid new : Kept) (e e' e'' : Option FastEvent) (c c' p p' : ℕ) → Ran old mid e c p → Ran mid new e' c' p' → p' < 2 ^ c'
    → option_to_list e ++ option_to_list e' ≡ option_to_list e'' → Ran old new e'' (c + c') (p * 2 ^ c' + p')
ran_both old mid new e e' e'' c c' p p' h h' small events = record {
  kept = λ bits n q.
      let x = parts bits c c' p p' n q small in
      h'.kept (drop c bits) x.last_length x.last ∙ ap (λ k. run k (drop c bits)) (h.kept (take c bits) x.first_length x.first)
      ∙ sym (run-append old (take c bits) (drop c bits)) ∙ ap (run old) (take-append-drop c bits);
  events = λ bits n q.
      let x = parts bits c c' p p' n q small in
      ap (run_events old) (sym (take-append-drop c bits)) ∙ run_events-append old (take c bits) (drop c bits)
      ∙ ap (λ k. run_events old (take c bits) ++ run_events k (drop c bits)) (sym (h.kept (take c bits) x.first_length x.first))
      ∙ ap (λ es. es ++ run_events mid (drop c bits)) (h.events (take c bits) x.first_length x.first)
      ∙ ap (λ es. option_to_list e ++ es) (h'.events (drop c bits) x.last_length x.last)
      ∙ events;
}

pub ran_as : (old new : Kept) (e : Option FastEvent) (c c' p p' : ℕ) → c ≡ c' → p ≡ p' → Ran old new e c p → Ran old new e c' p'
ran_as old new e c c' p p' n q h = subst (λ k. Ran old new e k p') n (subst (λ k. Ran old new e c k) q h)

-- ---- bounds

pub shift_fits : (recent count part : ℕ) → recent < 1024 → count ≤ 5 → part < 2 ^ count → Fits w16 (recent * 2 ^ count % 65536 + part)
shift_fits recent count part small few below =
    let most : 2 ^ count ≤ 2 ^ 5 = pow-le-pow_right (lit< tt) few in
    let product : recent * 2 ^ count ≤ 1023 * 2 ^ count = mul-le-mul_right (2 ^ count) (let h : recent ≤ 1023 = omega arith in h) in
    omega (arith, most, product, below)

-- the bits of an octet in two parts
pub record Split (bits left : ℕ) : Type 0 where
  pub whole : bits / 2 ^ left * 2 ^ left + bits % 2 ^ left ≡ bits
  pub last : bits % 2 ^ left < 2 ^ left
  pub few : bits % 2 ^ left < 128

pub split : (bits left : ℕ) → left ≤ 7 → Split bits left
split bits left few =
    let some : 1 ≤ 2 ^ left = pow-le-pow_right (lit< tt) (zero-le {n = left}) in
    let most : 2 ^ left ≤ 2 ^ 7 = pow-le-pow_right (lit< tt) few in
    let last : bits % 2 ^ left < 2 ^ left = mod_below bits (2 ^ left) some in
    record { whole = div-add-mod' bits (2 ^ left); last = last; few = omega (arith, last, most) }

pub front_below : (bits left count : ℕ) → bits < 2 ^ (count + left) → bits / 2 ^ left < 2 ^ count
front_below bits left count h =
    let some : 0 < 2 ^ left = pow-le-pow_right (lit< tt) (zero-le {n = left}) in
    (div-lt_iff_lt-mul some).1 (subst (λ n. bits < n) (pow-add 2 count left) h)

pub rest_below : (bits left rest : ℕ) → left ≤ 7 → rest ≡ bits % (1 * 2 ^ left % 256) → rest < 2 ^ left
rest_below bits left rest few e =
    let power : 1 * 2 ^ left % 256 ≡ 2 ^ left = one_shl left 8 (omega arith) in
    subst (λ n. n < 2 ^ left) (sym (e ∙ ap (λ m. bits % m) power)) (split bits left few).last

-- the bits of an octet in two parts, one after the other
pub ran_split : (old mid new : Kept) (e e' e'' : Option FastEvent) (bits count left all part rest : ℕ) → left ≤ 7 → count + left ≡ all
    → part ≡ bits / 2 ^ left → rest ≡ bits % (1 * 2 ^ left % 256) → Ran old mid e count part → Ran mid new e' left rest
    → option_to_list e ++ option_to_list e' ≡ option_to_list e'' → Ran old new e'' all bits
ran_split old mid new e e' e'' bits count left all part rest few sum is is' h h' events =
    let power : 1 * 2 ^ left % 256 ≡ 2 ^ left = one_shl left 8 (omega arith) in
    let last : rest ≡ bits % 2 ^ left = is' ∙ ap (λ m. bits % m) power in
    let whole : part * 2 ^ left + rest ≡ bits =
    ap (λ p. p * 2 ^ left + rest) is ∙ ap (λ r. bits / 2 ^ left * 2 ^ left + r) last ∙ (split bits left few).whole in
    ran_as old new e'' (count + left) all (part * 2 ^ left + rest) bits sum whole
    (ran_both old mid new e e' e'' count left part rest h h' (rest_below bits left rest few is') events)

pub none_from : (event : Option FastEvent) → is_some event ≡ false → event ≡ None
none_from None e = refl
none_from (Some event) e = absurd (cc)

pub event_then : (event : Option FastEvent) → option_to_list event ++ [] ≡ option_to_list event
event_then event = append-nil (option_to_list event)

pub then_event : (first event : Option FastEvent) → first ≡ None → option_to_list first ++ option_to_list event ≡ option_to_list event
then_event first event e = ap (λ x. option_to_list x ++ option_to_list event) e
