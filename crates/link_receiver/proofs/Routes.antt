-- The container that a route finds is the one that the definitions say.
use Rattle.std.proofs.Common.{◌≡◌, ℕ, ◌+◌, Bool, true, false, cond, List, map, Option, Some, None, refl, sym, ap, ◌∙◌, arith}
use Rattle.std.specs.List.{range_with_len}
use Rattle.std.specs.Option.{is_some}
use Rattle.carrier_plan.specs.declared.plan.Carrier.{Carrier}
use Rattle.carrier_plan.specs.declared.plan.Flow.{Flow}
use Rattle.carrier_plan.specs.declared.plan.Piece.{Piece}
use Rattle.carrier_plan.specs.declared.plan.Plan.{Plan}
use Rattle.link_base.specs.Bits.{bit_of}
use Rattle.link_receiver_blocks.specs.Containers.{container_in, container_played}
use Rattle.plan_checker.specs.Container.{container_size}
use Rattle.plan_checker.specs.Place.{iq_bit}
use Rattle.roe_mappers.specs.Parts.{part_bit, place_in_part, spelled}
use Rattle.roe_mappers.specs.Routes.{IsRoute}
use Rattle.roe_mappers.specs.Symbols.{bad_symbol}
use Rattle.link_receiver.specs.Containers.{bits_of_container, container_by, octets_if_good}
use Rattle.link_receiver.proofs.Ranges.{map-ranges}

part_bit-octets : (p : Plan) (f : Flow) (part : List ℕ) (x : ℕ) → bit_of (spelled p.mode part) (place_in_part p f x) ≡ part_bit p f part x
unfolding part_bit
part_bit-octets p f part x = refl

pub container_in-route : (p : Plan) (f : Flow) (carrier : Carrier) (route : List Piece) (part : List ℕ) → IsRoute p f carrier route
    → container_in (spelled p.mode part) route ≡ bits_of_container p f carrier part
container_in-route p f carrier route part is =
    let octets = spelled p.mode part in
    let found : ℕ → ℕ = (λ b. bit_of octets (iq_bit route b)) in
    let meant : ℕ → ℕ = (λ b. part_bit p f part (iq_bit carrier.pieces b)) in
    ap (λ size. map found (range_with_len 0 size)) is.size
    ∙ map-ranges found meant 0 0 (container_size carrier) (λ b low.
    let here : 0 + b ≡ b = omega arith in
    ap found here ∙ ap (bit_of octets) (is.places b low) ∙ part_bit-octets p f part (iq_bit carrier.pieces b) ∙ ap meant (sym here))

played_if : (missed : Bool) (octets bits : List ℕ) (route : List Piece) → container_in octets route ≡ bits
    → container_played (cond missed None (Some octets)) route ≡ cond missed None (Some bits)
played_if true octets bits route same = refl
played_if false octets bits route same = ap Some same

pub container_played-route : (p : Plan) (f : Flow) (carrier : Carrier) (route : List Piece) (n : ℕ) (part : Option (List ℕ)) → IsRoute p f carrier route
    → container_played (octets_if_good p n part) route ≡ container_by p f carrier n part
container_played-route p f carrier route n None is = refl
container_played-route p f carrier route n (Some part) is =
    played_if (is_some (bad_symbol p.mode n part)) (spelled p.mode part) (bits_of_container p f carrier part) route (container_in-route p f carrier route part is)
