-- What a writer gives, whenever frames are queued.
use Rattle.std.proofs.Common.{◌≡◌, ℕ, ◌≤◌, nat_lt, Bool, List, [], ◌∷◌, ◌++◌, length, drop, flat_map, All, Option, Some, None, refl, sym, ap, ◌∙◌, subst, arith, inl, inr, append_assoc}
use Rattle.std.specs.Prelude.{option_to_list}
use Rattle.std.proofs.lemmas.Bool.{cases_Bool}
use Rattle.std.proofs.lemmas.List.{length-append, append-nil, take-append-drop}
use Rattle.std.proofs.lemmas.List.Elements.{All-nil, All-push, All-head, All-tail}
use Rattle.std.proofs.lemmas.List.Concat.{flat_map-append}
use Rattle.hdlc_channel.specs.SlowText.{flag}
use Rattle.hdlc_channel.specs.SlowStream.{Channel, frame_bits, slow_stream, after_eight, IsFrame}
use Rattle.hdlc_channel.specs.Outgoing.{filled}
use Rattle.hdlc_channel.specs.SlowLaw.{IsItem, item_bits, written_bits, slow_answers, Wrote, begins, queues, gives, IsOfItems, AreRead}
use Rattle.hdlc_channel.proofs.Streams.{begun_item, filled-short, filled-long, after_eight-is, stream_eight}
use Rattle.hdlc_channel.proofs.Runs.{slow_answers-append}
use Rattle.hdlc_channel.proofs.WrittenRead.{written_read}

-- the same, and the frames that are not yet begun may be queued
record Holds (queued : List (List ℕ)) (bits : List Bool) (c : Channel) : Type 0 where
  pub of_items : IsOfItems queued bits c
  pub waiting : All IsFrame c.queue

-- the next item is one more item
with_item : (queued : List (List ℕ)) (bits rest : List Bool) (queue : List (List ℕ)) → Holds queued bits (record { rest = rest; queue = queue }) → Holds queued bits (begun_item (record { rest = rest; queue = queue }))
with_item queued bits rest [] h =
    let o = h.of_items in
    let items : List (Option (List ℕ)) = o.items ++ None ∷ [] in
    record {
      of_items = record {
        items = items;
        each = All-push IsItem o.items None o.each tt;
        begun = ap (λ xs. xs ++ []) (flat_map-append option_to_list o.items (None ∷ []) ∙ append-nil (flat_map option_to_list o.items)) ∙ o.begun;
        whole = sym (append_assoc bits rest flag) ∙ ap (λ xs. xs ++ flag) o.whole ∙ append_assoc flag (flat_map item_bits o.items) flag
            ∙ ap (λ xs. flag ++ xs) (sym (flat_map-append item_bits o.items (None ∷ [])));
      };
      waiting = h.waiting;
    }
with_item queued bits rest (frame ∷ queue) h =
    let o = h.of_items in
    let items : List (Option (List ℕ)) = o.items ++ Some frame ∷ [] in
    record {
      of_items = record {
        items = items;
        each = All-push IsItem o.items (Some frame) o.each (All-head IsFrame frame queue h.waiting);
        begun = ap (λ xs. xs ++ queue) (flat_map-append option_to_list o.items (Some frame ∷ [])) ∙ append_assoc (flat_map option_to_list o.items) (frame ∷ []) queue ∙ o.begun;
        whole = sym (append_assoc bits rest (frame_bits frame)) ∙ ap (λ xs. xs ++ frame_bits frame) o.whole ∙ append_assoc flag (flat_map item_bits o.items) (frame_bits frame)
            ∙ ap (λ xs. flag ++ xs) (sym (flat_map-append item_bits o.items (Some frame ∷ []) ∙ ap (λ xs. flat_map item_bits o.items ++ xs) (append-nil (frame_bits frame))));
      };
      waiting = All-tail IsFrame frame queue h.waiting;
    }

holds_filled : (queued : List (List ℕ)) (bits : List Bool) (c : Channel) → Holds queued bits c → Holds queued bits (filled c)
holds_filled queued bits c h =
    elim (cases_Bool (nat_lt (length c.rest) 8)) [
      | inl on ↦ subst (λ (x : Channel). Holds queued bits x) (sym (filled-short c on)) (with_item queued bits c.rest c.queue h)
      | inr off ↦ subst (λ (x : Channel). Holds queued bits x) (sym (filled-long c off)) h
    ]

-- eight bits are given
holds_given : (queued : List (List ℕ)) (bits : List Bool) (c : Channel) → Holds queued bits c → Holds queued (bits ++ slow_stream c 8) (after_eight c)
holds_given queued bits c h =
    let f = holds_filled queued bits c h in
    let o = f.of_items in
    let split : (bits ++ slow_stream c 8) ++ drop 8 (filled c).rest ≡ bits ++ (filled c).rest =
    append_assoc bits (slow_stream c 8) (drop 8 (filled c).rest)
    ∙ ap (λ xs. bits ++ (xs ++ drop 8 (filled c).rest)) (stream_eight c)
    ∙ ap (λ xs. bits ++ xs) (take-append-drop 8 (filled c).rest) in
    subst (λ (x : Channel). Holds queued (bits ++ slow_stream c 8) x) (sym (after_eight-is c))
    (record { of_items = record { items = o.items; each = o.each; begun = o.begun; whole = split ∙ o.whole }; waiting = f.waiting })

holds : (queued : List (List ℕ)) (bits : List Bool) (c : Channel) → Wrote queued bits c → Holds queued bits c
holds _ _ _ begins = record { of_items = record { items = []; each = All-nil IsItem; begun = refl; whole = refl }; waiting = All-nil IsFrame }
holds _ _ _ (queues queued bits c frame is before) =
    let h = holds queued bits c before in
    let o = h.of_items in
    record {
      of_items = record {
        items = o.items;
        each = o.each;
        begun = sym (append_assoc (flat_map option_to_list o.items) c.queue (frame ∷ [])) ∙ ap (λ xs. xs ++ frame ∷ []) o.begun;
        whole = o.whole;
      };
      waiting = All-push IsFrame c.queue frame h.waiting is;
    }
holds _ _ _ (gives queued bits c before) = holds_given queued bits c (holds queued bits c before)

pub wrote_read : (queued : List (List ℕ)) (bits : List Bool) (c : Channel) → Wrote queued bits c → AreRead queued bits c
wrote_read queued bits c wrote =
    let o = (holds queued bits c wrote).of_items in
    let long : length bits ≤ length (written_bits o.items) = subst (λ (xs : List Bool). length bits ≤ length xs) o.whole (omega (arith, length-append bits c.rest)) in
    record {
      of_items = o;
      answers = sym (slow_answers-append bits c.rest (length bits) (omega arith)) ∙ ap (λ xs. slow_answers xs (length bits)) o.whole
          ∙ written_read o.items (length bits) o.each long;
    }
