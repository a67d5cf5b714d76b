-- The carrier of the sample that comes next, where the samples before it came in their order.
use Rattle.std.proofs.Common.{◌≡◌, ◌≢◌, ℕ, zero, suc, ◌+◌, ◌<◌, ◌≤◌, List, [], ◌∷◌, ◌++◌, length, length-append, replicate, Some, None, refl, sym, ap, ◌∙◌, subst, inl, inr, arith}
use Rattle.std.specs.Prelude.{◌==◌, filter}
use Rattle.std.specs.List.{flat_map, range_with_len}
use Rattle.std.proofs.lemmas.Bool.{cases_eq, cond-false, cond-true, eq-eqb, ne_eqb}
use Rattle.std.proofs.lemmas.List.Elements.{filter-append}
use Rattle.carrier_plan.specs.declared.plan.Plan.{Plan}
use Rattle.link_sender.specs.Stream.{Stream, samples_of}
use Rattle.plan_checker.specs.Run.{samples_before, samples_due}
use Rattle.link_run_send.specs.Lacking.{next_carrier}
use Rattle.link_run_send.specs.SampleFile.{carriers_at, carriers_in_order}
use Rattle.link_run_send.proofs.CompleteTicks.{none_at_first}
use Rattle.link_run_send.proofs.LackingPlaces.{missing_next, none_next, samples_before-grows}

-- ---- how often a carrier stands in a list

abbrev pub count : ℕ → List ℕ → ℕ
count c xs = length (filter (λ d. d == c) xs)

pub count-append : (c : ℕ) (xs ys : List ℕ) → count c (xs ++ ys) ≡ count c xs + count c ys
count-append c xs ys = ap length (filter-append (λ d. d == c) xs ys) ∙ length-append (filter (λ d. d == c) xs) (filter (λ d. d == c) ys)

count-replicate : (c n : ℕ) → count c (replicate n c) ≡ n
count-replicate c zero = refl
count-replicate c (suc n) =
    ap length (cond-true (c == c) (c ∷ filter (λ d. d == c) (replicate n c)) (filter (λ d. d == c) (replicate n c)) (eq-eqb c c refl)) ∙ ap suc (count-replicate c n)

count-others : (c d n : ℕ) → d ≢ c → count c (replicate n d) ≡ 0
count-others c d zero other = refl
count-others c d (suc n) other =
    ap length (cond-false (d == c) (d ∷ filter (λ e. e == c) (replicate n d)) (filter (λ e. e == c) (replicate n d)) (ne_eqb d c other)) ∙ count-others c d n other

-- ---- where an element of two lists in a row stands

data StandsIn (xs ys before : List ℕ) (x : ℕ) (after : List ℕ) : Type 0 where
  in_first : (rest : List ℕ) → xs ≡ before ++ x ∷ rest → StandsIn xs ys before x after
  in_second : (front : List ℕ) → before ≡ xs ++ front → ys ≡ front ++ x ∷ after → StandsIn xs ys before x after

stands : (xs ys before : List ℕ) (x : ℕ) (after : List ℕ) → xs ++ ys ≡ before ++ x ∷ after → StandsIn xs ys before x after
stands [] ys before x after is = in_second before refl is
stands (z ∷ xs) ys [] x after is =
    let head : z ≡ x = cc in
    in_first xs (ap (λ e. e ∷ xs) head)
stands (z ∷ xs) ys (b ∷ before) x after is =
    let head : z ≡ b = cc in
    let tail : xs ++ ys ≡ before ++ x ∷ after = cc in
    by head (stands xs ys before x after tail)
  where
    by : z ≡ b → StandsIn xs ys before x after → StandsIn (z ∷ xs) ys (b ∷ before) x after
    by head (in_first rest is) = in_first rest (ap (λ e. e ∷ xs) head ∙ ap (λ es. b ∷ es) is)
    by head (in_second front first second) = in_second front (ap (λ e. e ∷ before) (sym head) ∙ ap (λ es. z ∷ es) first) second

nowhere : (before : List ℕ) (x : ℕ) (after : List ℕ) → [] ≢ before ++ x ∷ after
nowhere [] x after is = cc
nowhere (b ∷ before) x after is = cc

record InCopies (n d : ℕ) (before : List ℕ) (c : ℕ) : Type 0 where
  pub same : c ≡ d
  pub inside : length before < n
  pub copies : before ≡ replicate (length before) d

in_copies : (n d : ℕ) (before : List ℕ) (c : ℕ) (after : List ℕ) → replicate n d ≡ before ++ c ∷ after → InCopies n d before c
in_copies zero d before c after is = absurd (nowhere before c after is)
in_copies (suc n) d [] c after is = record { same = cc; inside = omega arith; copies = refl }
in_copies (suc n) d (b ∷ before) c after is =
    let head : d ≡ b = cc in
    let tail : replicate n d ≡ before ++ c ∷ after = cc in
    let rest = in_copies n d before c after tail in
    record {
      same = rest.same;
      inside = omega (arith, rest.inside);
      copies = ap (λ e. e ∷ before) (sym head) ∙ ap (λ es. d ∷ es) rest.copies;
    }

-- ---- the carriers of one tick, of each of which so many samples are due

module _ (due : ℕ → ℕ) where
  abbrev carriers_from : ℕ → ℕ → List ℕ
  carriers_from a n = flat_map (λ c. replicate (due c) c) (range_with_len a n)

  count_below : (a n c : ℕ) → c < a → count c (carriers_from a n) ≡ 0
  count_below a zero c below = refl
  count_below a (suc n) c below =
      let other : a ≢ c = omega arith in
      omega (arith, count-append c (replicate (due a) a) (carriers_from (a + 1) n), count-others c a (due a) other, count_below (a + 1) n c (omega arith))

  count_inside : (a n c : ℕ) → a ≤ c → c < a + n → count c (carriers_from a n) ≡ due c
  count_inside a zero c from below = absurd (omega arith)
  count_inside a (suc n) c from below =
      let split = count-append c (replicate (due a) a) (carriers_from (a + 1) n) in
      elim (cases_eq a c) [
        | inl here ↦
            let own : count c (replicate (due a) a) ≡ due c = subst (λ d. count c (replicate (due d) d) ≡ due c) (sym here) (count-replicate c (due c)) in
            let none = count_below (a + 1) n c (omega (arith, here)) in
            omega (arith, split, own, none)
        | inr other ↦
            let none = count-others c a (due a) other in
            let later = count_inside (a + 1) n c (omega (arith, other)) (omega arith) in
            omega (arith, split, none, later)
      ]

  -- all samples of the carriers before have come, and not all of this one
  record InTick (a n c : ℕ) (before : List ℕ) : Type 0 where
    pub from : a ≤ c
    pub below : c < a + n
    pub some_left : count c before < due c
    pub all_before : (b : ℕ) → a ≤ b → b < c → count b before ≡ due b
    pub none_after : (b : ℕ) → c < b → count b before ≡ 0
    pub none_below : (b : ℕ) → b < a → count b before ≡ 0

  in_tick : (a n : ℕ) (before : List ℕ) (c : ℕ) (after : List ℕ) → carriers_from a n ≡ before ++ c ∷ after → InTick a n c before
  in_tick a zero before c after is = absurd (nowhere before c after is)
  in_tick a (suc n) before c after is = by (λ front. in_tick (a + 1) n front c after) (stands (replicate (due a) a) (carriers_from (a + 1) n) before c after is)
    where
      here : InCopies (due a) a before c → InTick a (suc n) c before
      here one =
          let none : (b : ℕ) → a ≢ b → count b before ≡ 0 = λ b other. ap (count b) one.copies ∙ count-others b a (length before) other in
          record {
            from = omega (arith, one.same);
            below = omega (arith, one.same);
            some_left = subst (λ d. count d before < due d) (sym one.same) (omega (arith, ap (count a) one.copies, count-replicate a (length before), one.inside));
            all_before = λ b from below. absurd (omega (arith, one.same));
            none_after = λ b past. none b (λ same. omega (arith, one.same, same, past));
            none_below = λ b below. none b (λ same. omega (arith, same, below));
          }

      later : (front : List ℕ) → before ≡ replicate (due a) a ++ front → InTick (a + 1) n c front → InTick a (suc n) c before
      later front is rest =
          let counts : (b : ℕ) → count b before ≡ count b (replicate (due a) a) + count b front = λ b. ap (count b) is ∙ count-append b (replicate (due a) a) front in
          let others : (b : ℕ) → a ≢ b → count b before ≡ count b front = λ b other. omega (arith, counts b, count-others b a (due a) other) in
          record {
            from = omega (arith, rest.from);
            below = omega (arith, rest.below);
            some_left = omega (arith, others c (λ same. omega (arith, same, rest.from)), rest.some_left);
            all_before = λ b from below. elim (cases_eq a b) [
              | inl first ↦
                  let own : count b (replicate (due a) a) ≡ due b = subst (λ d. count b (replicate (due d) d) ≡ due b) (sym first) (count-replicate b (due b)) in
                  let none = rest.none_below b (omega (arith, first)) in
                  omega (arith, counts b, own, none)
              | inr other ↦ others b other ∙ rest.all_before b (omega (arith, other, from)) below
            ];
            none_after = λ b past. others b (λ same. omega (arith, same, past, rest.from)) ∙ rest.none_after b past;
            none_below = λ b below. others b (λ same. omega (arith, same, below)) ∙ rest.none_below b (omega (arith, below));
          }

      by : ((front : List ℕ) → carriers_from (a + 1) n ≡ front ++ c ∷ after → InTick (a + 1) n c front) → StandsIn (replicate (due a) a) (carriers_from (a + 1) n) before c after → InTick a (suc n) c before
      by rest_of (in_first rest is) = here (in_copies (due a) a before c rest is)
      by rest_of (in_second front first second) = later front first (rest_of front second)

-- ---- the carriers of the ticks of a run

module _ (p : Plan) where
  abbrev carriers_between : ℕ → ℕ → List ℕ
  carriers_between t n = flat_map (carriers_at p) (range_with_len t n)

  grows : (c t : ℕ) → samples_before p c t + samples_due p c t ≡ samples_before p c (t + 1)
  grows c t =
      let more = samples_before-grows p c t (t + 1) (omega arith) in
      omega (arith, more)

  count_between : (t n c : ℕ) → c < length p.carriers → samples_before p c t + count c (carriers_between t n) ≡ samples_before p c (t + n)
  count_between t zero c inside =
      let none : t + 0 ≡ t = omega arith in
      omega (arith, ap (samples_before p c) none)
  count_between t (suc n) c inside =
      let split = count-append c (carriers_at p t) (carriers_between (t + 1) n) in
      let own = count_inside (λ b. samples_due p b t) 0 (length p.carriers) c (omega arith) (omega arith) in
      let later = count_between (t + 1) n c inside in
      let all : t + 1 + n ≡ t + suc n = omega arith in
      omega (arith, split, own, later, grows c t, ap (samples_before p c) all)

  -- where the samples before this one came from tick t on
  record InRun (t n c : ℕ) (before : List ℕ) : Type 0 where
    pub tick : ℕ
    pub from : t ≤ tick
    pub below : tick < t + n
    pub inside : c < length p.carriers
    pub earlier : (b : ℕ) → b < c → samples_before p b t + count b before ≡ samples_before p b (tick + 1)
    pub come : ℕ
    pub here : samples_before p c t + count c before ≡ samples_before p c tick + come
    pub some_left : come < samples_due p c tick
    pub later : (b : ℕ) → c < b → b < length p.carriers → samples_before p b t + count b before ≡ samples_before p b tick

  in_run : (t n : ℕ) (before : List ℕ) (c : ℕ) (after : List ℕ) → carriers_between t n ≡ before ++ c ∷ after → InRun t n c before
  in_run t zero before c after is = absurd (nowhere before c after is)
  in_run t (suc n) before c after is = by (λ front. in_run (t + 1) n front c after) (stands (carriers_at p t) (carriers_between (t + 1) n) before c after is)
    where
      first_tick : InTick (λ b. samples_due p b t) 0 (length p.carriers) c before → InRun t (suc n) c before
      first_tick one = record {
        tick = t;
        from = omega arith;
        below = omega arith;
        inside = omega (arith, one.below);
        earlier = λ b low. omega (arith, one.all_before b (omega arith) low, grows b t);
        come = count c before;
        here = refl;
        some_left = one.some_left;
        later = λ b past inside. omega (arith, one.none_after b past);
      }

      later_tick : (front : List ℕ) → before ≡ carriers_at p t ++ front → InRun (t + 1) n c front → InRun t (suc n) c before
      later_tick front is rest =
          let counts : (b : ℕ) → b < length p.carriers → samples_before p b t + count b before ≡ samples_before p b (t + 1) + count b front =
          λ b inside.
          let split = ap (count b) is ∙ count-append b (carriers_at p t) front in
          let own = count_inside (λ d. samples_due p d t) 0 (length p.carriers) b (omega arith) (omega (arith, inside)) in
          omega (arith, split, own, grows b t) in
          record {
            tick = rest.tick;
            from = omega (arith, rest.from);
            below = omega (arith, rest.below);
            inside = rest.inside;
            earlier = λ b low. counts b (omega (arith, low, rest.inside)) ∙ rest.earlier b low;
            come = rest.come;
            here = counts c rest.inside ∙ rest.here;
            some_left = rest.some_left;
            later = λ b past inside. counts b inside ∙ rest.later b past inside;
          }

      by : ((front : List ℕ) → carriers_between (t + 1) n ≡ front ++ c ∷ after → InRun (t + 1) n c front) → StandsIn (carriers_at p t) (carriers_between (t + 1) n) before c after → InRun t (suc n) c before
      by rest_of (in_first rest is) = first_tick (in_tick (λ b. samples_due p b t) 0 (length p.carriers) before c rest is)
      by rest_of (in_second front first second) = later_tick front first (rest_of front second)

  -- the samples of a whole run
  pub count_all : (h c : ℕ) → c < length p.carriers → count c (carriers_in_order p h) ≡ samples_before p c h
  unfolding carriers_in_order
  count_all h c inside =
      let all = count_between 0 h c inside in
      let end : 0 + h ≡ h = omega arith in
      omega (arith, all, none_at_first p c, ap (samples_before p c) end)

  -- each place is of a carrier of the plan
  pub inside_order : (h c : ℕ) (before after : List ℕ) → carriers_in_order p h ≡ before ++ c ∷ after → c < length p.carriers
  unfolding carriers_in_order
  inside_order h c before after is = let at = in_run 0 h before c after is in at.inside

  module _ (h : ℕ) (σ : Stream) (before : List ℕ) (counted : (c : ℕ) → c < length p.carriers → length (samples_of σ c) ≡ count c before) where
    -- The carrier that comes next in the order is that of which a sample is lacking first.
    pub next_in_order : (c : ℕ) (after : List ℕ) → carriers_in_order p h ≡ before ++ c ∷ after → next_carrier p h σ ≡ Some c
    unfolding carriers_in_order
    next_in_order c after is =
        let at = in_run 0 h before c after is in
        missing_next p h σ at.tick c at.come
        (record {
          before = λ b low inside. counted b inside ∙ (let e = at.earlier b low in omega (arith, e, none_at_first p b));
          here = λ inside. counted c inside ∙ (let e = at.here in omega (arith, e, none_at_first p c));
          after = λ b past inside. counted b inside ∙ (let e = at.later b past inside in omega (arith, e, none_at_first p b));
        })
        (omega (arith, at.below)) at.inside at.some_left

    -- Where all have come, none comes next.
    pub none_in_order : carriers_in_order p h ≡ before → next_carrier p h σ ≡ None
    none_in_order is =
        let whole : (c : ℕ) → c < length p.carriers → length (samples_of σ c) ≡ samples_before p c h = λ c inside. counted c inside ∙ sym (ap (count c) is) ∙ count_all h c inside in
        none_next p h σ h 0 0
        (record {
          before = λ c low inside. absurd (omega arith);
          here = λ inside. whole 0 inside ∙ omega arith;
          after = λ c past inside. whole c inside;
        })
        refl
