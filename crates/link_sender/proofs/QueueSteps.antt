-- A frame queued before the first tick.
use Rattle.std.proofs.Common.{◌≡◌, ℕ, List, [], ◌∷◌, ◌++◌, Result, Ok, Err, refl, sym, ap, ◌∙◌, arith}
use Rattle.std.specs.Result.{OnOk}
use Rattle.ethernet_channel.specs.Codes.{idle}
use Rattle.ethernet_channel.specs.FastStream as fast
use Rattle.hdlc_channel.specs.SlowStream as slow
use Rattle.hdlc_channel.specs.SlowText.{flag}
use Rattle.link_sender.specs.Channels.{fast_left, slow_left}
use Rattle.link_sender.specs.HandedIn.{with_fast, with_slow}
use Rattle.link_sender.specs.Managed.{fast_in_word, octets_below, slow_in_word}
use Rattle.link_sender.specs.Senders.{SenderView, StandsFor}
use Rattle.link_sender.specs.Stream.{Stream}
use Rattle.link_sender.proofs.ChannelSteps.{fast_left-none, slow_left-none}
use Rattle.plan_checker.specs.WordSize.{word_size}

-- the same sender with another channel
abbrev pub with_slow_channel : SenderView → slow.Channel → SenderView
with_slow_channel s c = record {
  plan = s.plan;
  frames = s.frames;
  announcement = s.announcement;
  tick = s.tick;
  handed = s.handed;
  carriers = s.carriers;
  slow = c;
  fast = s.fast;
  frame = s.frame;
  octets = s.octets;
  rd = s.rd;
  rings = s.rings;
}

abbrev pub with_fast_channel : SenderView → fast.Channel → SenderView
with_fast_channel s c = record {
  plan = s.plan;
  frames = s.frames;
  announcement = s.announcement;
  tick = s.tick;
  handed = s.handed;
  carriers = s.carriers;
  slow = s.slow;
  fast = c;
  frame = s.frame;
  octets = s.octets;
  rd = s.rd;
  rings = s.rings;
}

abbrev pub whole_slow : Stream → slow.Channel
whole_slow σ = record { rest = flag; queue = σ.slow }

abbrev pub grown_slow : slow.Channel → List ℕ → slow.Channel
grown_slow c frame = record { rest = c.rest; queue = c.queue ++ frame ∷ [] }

abbrev pub whole_fast : Stream → fast.Channel
whole_fast σ = record { rest = idle; queue = σ.fast }

abbrev pub grown_fast : fast.Channel → List ℕ → fast.Channel
grown_fast c frame = record { rest = c.rest; queue = c.queue ++ frame ∷ [] }

pub on_ok : {A B : Type 0} (r : Result A B) (P Q : Type 0) → OnOk r P → (P → Q) → OnOk r Q
on_ok (Ok x) P Q holds then = then holds
on_ok (Err x) P Q holds then = holds

none_below : (in_word : ℕ → ℕ) → octets_below in_word 0 ≡ 0
none_below in_word = refl

-- Before the first tick the whole queue is left.
pub slow_at_first : (s : SenderView) (σ : Stream) → s.tick ≡ 0 → StandsFor s σ → s.slow ≡ whole_slow σ
slow_at_first s σ first stands =
    let in_word = slow_in_word (word_size s.plan.option) s.announcement in
    let whole : slow.Channel = record { rest = flag; queue = σ.slow } in
    stands.slow ∙ ap (λ t. slow_left (octets_below in_word t) whole) first ∙ ap (λ n. slow_left n whole) (none_below in_word) ∙ sym (slow_left-none whole)

pub fast_at_first : (s : SenderView) (σ : Stream) → s.tick ≡ 0 → StandsFor s σ → s.fast ≡ whole_fast σ
fast_at_first s σ first stands =
    let in_word = fast_in_word (word_size s.plan.option) s.announcement in
    let whole : fast.Channel = record { rest = idle; queue = σ.fast } in
    stands.fast ∙ ap (λ t. fast_left (octets_below in_word t) whole) first ∙ ap (λ n. fast_left n whole) (none_below in_word) ∙ sym (fast_left-none whole)

pub stands_with_slow : (s : SenderView) (σ : Stream) (frame : List ℕ) (c : slow.Channel) → s.tick ≡ 0 → StandsFor s σ
    → c ≡ grown_slow s.slow frame → StandsFor (with_slow_channel s c) (with_slow σ frame)
stands_with_slow s σ frame c first stands is =
    let in_word = slow_in_word (word_size s.plan.option) s.announcement in
    let old = slow_at_first s σ first stands in
    let whole : slow.Channel = record { rest = flag; queue = σ.slow ++ frame ∷ [] } in
    let new : c ≡ whole = is ∙ ap (λ (x : slow.Channel). grown_slow x frame) old in
    record {
      announcement = stands.announcement;
      as_many = stands.as_many;
      handed = stands.handed;
      samples = λ i carrier read d.
          let before = stands.samples i carrier read d in
          record { taken = before.taken; sent = before.sent };
      slow = new ∙ slow_left-none whole ∙ ap (λ n. slow_left n whole) (sym (none_below in_word)) ∙ ap (λ t. slow_left (octets_below in_word t) whole) (sym first);
      fast = stands.fast;
      frames = record {
        made = stands.frames.made;
        count = stands.frames.count;
        are_frames = λ n less. absurd (omega (arith, first, less));
        disparity = stands.frames.disparity;
        none = stands.frames.none;
        last = λ n next. absurd (omega (arith, first, next));
      };
      packets = λ i f read d.
          let before = stands.packets i f read d in
          record { order = before.order; parts = λ j k low less fresh. absurd (omega (arith, first, less)) };
    }

pub stands_with_fast : (s : SenderView) (σ : Stream) (frame : List ℕ) (c : fast.Channel) → s.tick ≡ 0 → StandsFor s σ
    → c ≡ grown_fast s.fast frame → StandsFor (with_fast_channel s c) (with_fast σ frame)
stands_with_fast s σ frame c first stands is =
    let in_word = fast_in_word (word_size s.plan.option) s.announcement in
    let old = fast_at_first s σ first stands in
    let whole : fast.Channel = record { rest = idle; queue = σ.fast ++ frame ∷ [] } in
    let new : c ≡ whole = is ∙ ap (λ (x : fast.Channel). grown_fast x frame) old in
    record {
      announcement = stands.announcement;
      as_many = stands.as_many;
      handed = stands.handed;
      samples = λ i carrier read d.
          let before = stands.samples i carrier read d in
          record { taken = before.taken; sent = before.sent };
      slow = stands.slow;
      fast = new ∙ fast_left-none whole ∙ ap (λ n. fast_left n whole) (sym (none_below in_word)) ∙ ap (λ t. fast_left (octets_below in_word t) whole) (sym first);
      frames = record {
        made = stands.frames.made;
        count = stands.frames.count;
        are_frames = λ n less. absurd (omega (arith, first, less));
        disparity = stands.frames.disparity;
        none = stands.frames.none;
        last = λ n next. absurd (omega (arith, first, next));
      };
      packets = λ i f read d.
          let before = stands.packets i f read d in
          record { order = before.order; parts = λ j k low less fresh. absurd (omega (arith, first, less)) };
    }
