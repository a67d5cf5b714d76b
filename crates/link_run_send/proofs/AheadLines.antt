-- Lines of samples, one after another.
use Rattle.std.proofs.Common.{◌≡◌, ℕ, ◌+◌, ◌-◌, ◌<◌, List, [], ◌∷◌, ◌++◌, length, length-append, take, drop, set, Some, refl, sym, ap, ◌∙◌, subst, arith, append_assoc, append-nil}
use Rattle.std.proofs.Math.Seq.{drop-append_seam}
use Rattle.std.proofs.lemmas.List.{drop-take, flat_map_more, length-drop, length-take-le, take_all, take-append-drop, take-take, take_more_set}
use Rattle.std.proofs.lemmas.List.Concat.{flat_map-append}
use Rattle.link_run_feed.specs.Feed.{LineForm}
use Rattle.link_run_feed.specs.FeedCalls.{LeadTo, ReadsAhead}
use Rattle.link_text.specs.Lines.{IsLine, with_feeds}
use Rattle.sample_bits.specs.Samples.{IsWithin}
use Rattle.sample_bits.specs.declared.iq.RawIq.{RawIq}
use Rattle.link_run_send.specs.Ahead.{AreSamples, IsFrontSample, TakesLines}
use Rattle.link_run_send.specs.SampleLine.{sample_of}
use Rattle.link_run_send.specs.declared.due.Due.{Due}

pub as_many_samples : (m : ℕ) (lines : List (List ℕ)) (samples : List RawIq) → AreSamples m lines samples → length lines ≡ length samples
as_many_samples m [] [] are = refl
as_many_samples m (line ∷ lines) (v ∷ samples) are = omega (arith, as_many_samples m lines samples are.3)
as_many_samples m [] (v ∷ samples) are = absurd are
as_many_samples m (line ∷ lines) [] are = absurd are

one_more : (m : ℕ) (lines : List (List ℕ)) (samples : List RawIq) (line : List ℕ) (v : RawIq) → AreSamples m lines samples → IsLine line → sample_of line ≡ Some v → IsWithin m v
    → AreSamples m (lines ++ line ∷ []) (samples ++ v ∷ [])
one_more m [] [] line v are is_line gives within = (is_line, gives, within, tt)
one_more m (first ∷ lines) (w ∷ samples) line v are is_line gives within = (are.0, are.1, are.2, one_more m lines samples line v are.3 is_line gives within)
one_more m [] (w ∷ samples) line v are is_line gives within = absurd are
one_more m (first ∷ lines) [] line v are is_line gives within = absurd are

-- no line was taken
pub takes_none : (m : ℕ) (due : Due) → due.come < due.count → TakesLines m due [] 0 due
takes_none m due missing = record {
  lines = [];
  samples = [];
  octets_are = refl;
  as_many = refl;
  are = tt;
  tick = refl;
  carrier = refl;
  due = refl;
  come = omega arith;
  missing = missing;
  taken = sym (append-nil (take due.come due.samples));
}

pub take_on : (a b : ℕ) (octets : List ℕ) → take (a + b) octets ≡ take a octets ++ take b (drop a octets)
take_on a b octets =
    sym (take-append-drop a (take (a + b) octets))
    ∙ ap (λ front. front ++ drop a (take (a + b) octets)) (take-take a (a + b) octets (omega arith))
    ∙ ap (λ rest. take a octets ++ rest) (drop-take a b octets)

pub take_past : (count : ℕ) (octets after : List ℕ) → octets ≡ take count octets ++ 10 ∷ after → count < length octets → take (count + 1) octets ≡ take count octets ++ 10 ∷ []
take_past count octets after is within =
    let long = length-take-le count octets (omega (arith, within)) in
    let rest : drop count octets ≡ 10 ∷ after =
    ap (drop count) is ∙ subst (λ n. drop n (take count octets ++ 10 ∷ after) ≡ 10 ∷ after) long (drop-append_seam (take count octets) (10 ∷ after)) in
    take_on count 1 octets ∙ ap (λ more. take count octets ++ take 1 more) rest

-- one line more was taken, which stands after the others
pub takes_more : (m : ℕ) (old now : Due) (octets : List ℕ) (at lines size : ℕ) (v : RawIq) → TakesLines m old (take at octets) lines now → IsFrontSample m (drop at octets) v size
    → now.come + 1 < now.count → now.come < length now.samples
    → (new : Due) → new.tick ≡ now.tick → new.carrier ≡ now.carrier → new.count ≡ now.count → new.come ≡ now.come + 1 → new.samples ≡ set now.samples now.come v
    → TakesLines m old (take (at + (size + 1)) octets) (lines + 1) new
takes_more m old now octets at lines size v so_far front missing inside new tick carrier count come samples =
    let line = take size (drop at octets) in record {
      lines = so_far.lines ++ line ∷ [];
      samples = so_far.samples ++ v ∷ [];
      octets_are =
          take_on at (size + 1) octets
          ∙ ap (λ more. take at octets ++ more) (take_past size (drop at octets) (drop (size + 1) (drop at octets)) front.at front.within)
          ∙ ap (λ first. first ++ (line ++ 10 ∷ [])) so_far.octets_are
          ∙ flat_map_more (λ (line : List ℕ). line ++ 10 ∷ []) [] so_far.lines line;
      as_many = omega (arith, so_far.as_many, length-append so_far.lines (line ∷ []));
      are = one_more m so_far.lines so_far.samples line v so_far.are front.line front.gives front.fits;
      tick = tick ∙ so_far.tick;
      carrier = carrier ∙ so_far.carrier;
      due = count ∙ so_far.due;
      come = omega (arith, come, so_far.come);
      missing = omega (arith, come, count, missing);
      taken = ap (λ xs. take new.come xs) samples ∙ ap (λ n. take n (set now.samples now.come v)) come ∙ take_more_set now.samples now.come v inside
          ∙ ap (λ first. first ++ v ∷ []) so_far.taken ∙ append_assoc (take old.come old.samples) so_far.samples (v ∷ []);
    }

-- ---- lines after others

lead_then : {S : Type 0} (form : LineForm S) (s t u : S) (first second : List (List ℕ)) → LeadTo form s first t → LeadTo form t second u → LeadTo form s (first ++ second) u
lead_then form s t u [] second one two = subst (λ x. LeadTo form x second u) (sym one) two
lead_then form s t u (line ∷ lines) second one two = (one.0, one.1, (one.2.0, one.2.1, lead_then form one.2.0 t u lines second one.2.2 two))

reads_then : {S : Type 0} (form : LineForm S) (s : S) (octets : List ℕ) (a n b m : ℕ) (mid last : S → Type 0) → ReadsAhead form s (take a octets) n mid
    → ((t : S) → mid t → ReadsAhead form t (take b (drop a octets)) m last) → ReadsAhead form s (take (a + b) octets) (n + m) last
reads_then form s octets a n b m mid last one more =
    let two = more one.next one.stands_for in record {
      lines = one.lines ++ two.lines;
      octets_are = take_on a b octets ∙ ap (λ front. front ++ take b (drop a octets)) one.octets_are ∙ ap (λ rest. with_feeds one.lines ++ rest) two.octets_are
          ∙ sym (flat_map-append (λ (line : List ℕ). line ++ 10 ∷ []) one.lines two.lines);
      as_many = omega (arith, one.as_many, two.as_many, length-append one.lines two.lines);
      next = two.next;
      lead = lead_then form s one.next two.next one.lines two.lines one.lead two.lead;
      stands_for = two.stands_for;
    }

-- no line was read
pub reads_none : {S : Type 0} (form : LineForm S) (s : S) (stands : S → Type 0) → stands s → ReadsAhead form s [] 0 stands
reads_none form s stands now = record { lines = []; octets_are = refl; as_many = refl; next = s; lead = refl; stands_for = now }

-- two calls, each of which reads on in what is left
pub reads_on : {S : Type 0} (form : LineForm S) (s : S) (octets : List ℕ) (a k b n d m total : ℕ) (now mid new : S → Type 0) → ReadsAhead form s (take a octets) k now
    → ((t : S) → now t → ReadsAhead form t (take b (take (length octets - a) (drop a octets))) n mid)
    → ((t : S) → mid t → ReadsAhead form t (take d (take (length octets - (a + b)) (drop (a + b) octets))) m new)
    → k + n + m ≡ total → ReadsAhead form s (take (a + b + d) octets) total new
reads_on form s octets a k b n d m total now mid new so_far first second all =
    let rest : take (length octets - a) (drop a octets) ≡ drop a octets = take_all _ (drop a octets) (omega (arith, length-drop a octets)) in
    let last : take (length octets - (a + b)) (drop (a + b) octets) ≡ drop (a + b) octets = take_all _ (drop (a + b) octets) (omega (arith, length-drop (a + b) octets)) in
    subst (λ count. ReadsAhead form s (take (a + b + d) octets) count new) all
    (reads_then form s octets (a + b) (k + n) d m mid new
    (reads_then form s octets a k b n now mid so_far (λ t stands. subst (λ (text : List ℕ). ReadsAhead form t (take b text) n mid) rest (first t stands)))
    (λ t stands. subst (λ (text : List ℕ). ReadsAhead form t (take d text) m new) last (second t stands)))
