-- Text that is gathered and written, one piece after another.
use Rattle.std.proofs.Common.{◌≡◌, ◌+◌, ◌++◌, [], ℕ, List, length, take, length-append, arith, sym, refl, ap, subst, ◌∙◌, append_assoc, append-nil, IsTrue}
use Rattle.std.proofs.lemmas.List.{take-append-le}
use Rattle.std.proofs.Math.Seq.{take-append-add, take-length}
use Rattle.link_base.specs.Sink.{Taken, Appends, AppendsFront}
use Rattle.link_text.specs.Gathered.{Gathers}

pub appends_none : (sink : Taken) → Appends [] sink sink
appends_none sink = record { tells = refl; written = λ told. sym (append-nil sink.written) }

pub appends_then : (a b : List ℕ) (old mid new : Taken) → Appends a old mid → Appends b mid new → Appends (a ++ b) old new
appends_then a b old mid new first second = record {
  tells = second.tells ∙ first.tells;
  written = λ told.
      second.written (subst IsTrue (sym first.tells) told) ∙ ap (λ w. w ++ b) (first.written told) ∙ append_assoc old.written a b;
}

-- a front after a whole piece
pub front_then : (a b : List ℕ) (old mid new : Taken) → Appends a old mid → AppendsFront b mid new → AppendsFront (a ++ b) old new
front_then a b old mid new first second = record {
  count = length a + second.count;
  within = omega (arith, length-append a b, second.within);
  front = subst (λ text. Appends text old new) (sym (take-append-add a b second.count)) (appends_then a (take second.count b) old mid new first second.front);
}

-- a front of a text is one of a longer text
pub front_of_more : (a b : List ℕ) (old new : Taken) → AppendsFront a old new → AppendsFront (a ++ b) old new
front_of_more a b old new front = record {
  count = front.count;
  within = omega (arith, length-append a b, front.within);
  front = subst (λ text. Appends text old new) (sym (take-append-le front.count a b front.within)) front.front;
}

pub gathers_none : (hand : List ℕ) (sink : Taken) → Gathers [] hand sink hand sink
gathers_none hand sink = record { moved = []; written = appends_none sink; kept = append-nil hand }

pub gathers_put : (more hand hand' : List ℕ) (sink : Taken) → hand' ≡ hand ++ more → Gathers more hand sink hand' sink
gathers_put more hand hand' sink is = record { moved = []; written = appends_none sink; kept = sym is }

pub gathers_then : (a b hand hand1 hand2 : List ℕ) (old mid new : Taken) → Gathers a hand old hand1 mid → Gathers b hand1 mid hand2 new → Gathers (a ++ b) hand old hand2 new
gathers_then a b hand hand1 hand2 old mid new first second = record {
  moved = first.moved ++ second.moved;
  written = appends_then first.moved second.moved old mid new first.written second.written;
  kept =
      sym (append_assoc hand a b) ∙ ap (λ t. t ++ b) first.kept ∙ append_assoc first.moved hand1 b
      ∙ ap (λ t. first.moved ++ t) second.kept ∙ sym (append_assoc first.moved second.moved hand2);
}

-- what is in hand is written with what follows it
pub behind : (more rest hand hand' : List ℕ) (old mid : Taken) (gathers : Gathers more hand old hand' mid) → gathers.moved ++ (hand' ++ rest) ≡ hand ++ (more ++ rest)
behind more rest hand hand' old mid gathers =
    sym (append_assoc gathers.moved hand' rest) ∙ ap (λ t. t ++ rest) (sym gathers.kept) ∙ append_assoc hand more rest

pub breaks_then : (more rest hand hand' : List ℕ) (old mid new : Taken) → Gathers more hand old hand' mid → AppendsFront (hand' ++ rest) mid new → AppendsFront (hand ++ (more ++ rest)) old new
breaks_then more rest hand hand' old mid new gathers front =
    subst (λ text. AppendsFront text old new) (behind more rest hand hand' old mid gathers) (front_then gathers.moved (hand' ++ rest) old mid new gathers.written front)

-- a whole text is a front of itself
pub all_front : (text : List ℕ) (old new : Taken) → Appends text old new → AppendsFront text old new
all_front text old new written = record {
  count = length text;
  within = omega arith;
  front = subst (λ t. Appends t old new) (sym (take-length text)) written;
}
