-- What the reader of a channel does with the octets of a frame, or with a cut.
use Rattle.std.proofs.Common.{◌≡◌, ℕ, Bool, List, [], ◌++◌, Some, None, subst}
use Rattle.hdlc_channel.specs.Bits.{bits_of}
use Rattle.link_base.specs.Sink.{Taken, AppendsFront}
use Rattle.link_text.specs.Gathered.{Gathers}
use Rattle.link_text.proofs.Gathering.{gathers_put, gathers_then, front_of_more}
use Rattle.link_run_management.specs.Events.{numbered}
use Rattle.link_run_management.specs.Following.{Follows, BreaksInFrame}
use Rattle.link_run_management.specs.HandsIn.{HandsIn, BreaksAmong}
use Rattle.link_run_management.specs.Management.{given_lines}
use Rattle.link_run_management.proofs.Giving.{bits_behind}

pub follows_octets : {C : Type 0} (stands : C → List Bool → Type 0) (line : ℕ → List Bool → List ℕ) (missed : List ℕ) (tick : ℕ) (octets : List ℕ) (c0 c1 : C) (h0 h1 : List ℕ) (s0 s1 : Taken)
    → HandsIn stands line tick (bits_of octets) c0 c1 h0 s0 h1 s1 → Follows stands line missed tick (Some octets) c0 c1 h0 s0 h1 s1
unfolding given_lines
follows_octets stands line missed tick octets c0 c1 h0 h1 s0 s1 hands before s =
    let both = hands (bits_of before) s in (subst (λ bits. stands c1 bits) (bits_behind before octets) both.0, both.1)

pub breaks_in_octets : {C : Type 0} (stands : C → List Bool → Type 0) (line : ℕ → List Bool → List ℕ) (missed : List ℕ) (tick : ℕ) (octets : List ℕ) (c0 : C) (h0 : List ℕ) (s0 s1 : Taken)
    → BreaksAmong stands line tick (bits_of octets) c0 h0 s0 s1 → BreaksInFrame stands line missed tick (Some octets) c0 h0 s0 s1
unfolding given_lines
breaks_in_octets stands line missed tick octets c0 h0 s0 s1 breaks before s = breaks (bits_of before) s

pub follows_missed : {C : Type 0} (stands : C → List Bool → Type 0) (line : ℕ → List Bool → List ℕ) (missed : List ℕ) (tick : ℕ) (c0 c1 : C) (h0 h1 h2 : List ℕ) (s0 s1 : Taken)
    → stands c1 [] → Gathers [] h0 s0 h1 s1 → h2 ≡ h1 ++ numbered tick missed → Follows stands line missed tick None c0 c1 h0 s0 h2 s1
unfolding given_lines
follows_missed stands line missed tick c0 c1 h0 h1 h2 s0 s1 anew room put before s =
    let text = numbered tick missed in (anew, gathers_then [] text h0 h1 h2 s0 s1 s1 room (gathers_put text h1 h2 s1 put))

pub breaks_in_missed : {C : Type 0} (stands : C → List Bool → Type 0) (line : ℕ → List Bool → List ℕ) (missed : List ℕ) (tick : ℕ) (c0 : C) (h0 : List ℕ) (s0 s1 : Taken)
    → AppendsFront h0 s0 s1 → BreaksInFrame stands line missed tick None c0 h0 s0 s1
unfolding given_lines
breaks_in_missed stands line missed tick c0 h0 s0 s1 front before s = front_of_more h0 (numbered tick missed) s0 s1 front
