-- A test of the numbers of a window.
use Rattle.std.proofs.Common.{◌&&◌, nat_le, nat_lt, ◌+◌, ◌-◌, ◌*◌, ◌/◌, ◌^◌, Bool, IsTrue, arith}
use Rattle.std.proofs.lemmas.Bool.{and_parts, leb-true, ltb-true}
use Rattle.link_base.specs.Window.{most_held}
use Rattle.playout_buffer.specs.Conditions.{IsWindow, payload_octets}
use Rattle.playout_buffer.specs.declared.window.Window.{Window}
use Rattle.playout_buffer.proofs.Room.{room_from_quotient}

abbrev pub is_payload : Window → Bool
is_payload w = nat_le 1 w.frames && (nat_le w.frames 64 && (nat_le 1 (payload_octets w) && nat_le (payload_octets w) 1492))

abbrev pub is_timing : Window → Bool
is_timing w = nat_le w.lmin w.lmax && (nat_le w.lmax 100000 && (nat_le (w.frames - 1 + w.lmax) w.playout && nat_le w.playout 200000))

abbrev pub is_numbering : Window → Bool
is_numbering w = nat_le 1 w.p && (nat_le w.p 65536 && (nat_le 1 w.q && (nat_le w.q 65536 && nat_lt ((w.lmax - w.lmin) / w.frames) (w.p * w.q))))

abbrev pub is_room : Window → Bool
is_room w = nat_le 1 w.cap && (nat_le w.cap 4096 && (nat_le (most_held w.frames w.lmin w.playout) w.cap && nat_le w.packets (2 ^ 41)))

abbrev pub is_window : Window → Bool
is_window w = is_payload w && (is_timing w && (is_numbering w && is_room w))

pub meets : (w : Window) → IsTrue (is_window w) → IsWindow w
meets w passes =
    let whole = and_parts (is_payload w) _ passes in
    let later = and_parts (is_timing w) _ whole.1 in
    let last = and_parts (is_numbering w) (is_room w) later.1 in
    let a = and_parts (nat_le 1 w.frames) _ whole.0 in
    let b = and_parts (nat_le w.frames 64) _ a.1 in
    let c = and_parts (nat_le 1 (payload_octets w)) _ b.1 in
    let d = and_parts (nat_le w.lmin w.lmax) _ later.0 in
    let e = and_parts (nat_le w.lmax 100000) _ d.1 in
    let f = and_parts (nat_le (w.frames - 1 + w.lmax) w.playout) _ e.1 in
    let g = and_parts (nat_le 1 w.p) _ last.0 in
    let h = and_parts (nat_le w.p 65536) _ g.1 in
    let k = and_parts (nat_le 1 w.q) _ h.1 in
    let l = and_parts (nat_le w.q 65536) _ k.1 in
    let m = and_parts (nat_le 1 w.cap) _ last.1 in
    let n = and_parts (nat_le w.cap 4096) _ m.1 in
    let o = and_parts (nat_le (most_held w.frames w.lmin w.playout) w.cap) _ n.1 in
    let some_frames = leb-true 1 w.frames a.0 in
    let order = leb-true w.lmin w.lmax d.0 in
    let in_time = leb-true (w.frames - 1 + w.lmax) w.playout f.0 in
    record {
      some_frames = some_frames;
      few_frames = leb-true w.frames 64 b.0;
      some_octets = leb-true 1 (payload_octets w) c.0;
      few_octets = leb-true (payload_octets w) 1492 c.1;
      order = order;
      soon = leb-true w.lmax 100000 e.0;
      in_time = in_time;
      short_playout = leb-true w.playout 200000 f.1;
      some_p = leb-true 1 w.p g.0;
      small_p = leb-true w.p 65536 h.0;
      some_q = leb-true 1 w.q k.0;
      small_q = leb-true w.q 65536 l.0;
      enough_numbers = ltb-true ((w.lmax - w.lmin) / w.frames) (w.p * w.q) l.1;
      some_room = leb-true 1 w.cap m.0;
      small_room = leb-true w.cap 4096 n.0;
      enough_room = room_from_quotient w.frames w.lmin w.playout w.cap some_frames (omega (arith, order, in_time)) (leb-true (most_held w.frames w.lmin w.playout) w.cap o.0);
      few_packets = leb-true w.packets (2 ^ 41) o.1;
    }
