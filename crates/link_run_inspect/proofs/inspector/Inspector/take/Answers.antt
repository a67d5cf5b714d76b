use Rattle.std.proofs.Common.{◌≡◌, ℕ, List, ◌∷◌, [], ◌++◌, subst, refl, sym, ap, ◌∙◌, append_assoc}
use Rattle.link_base.specs.Sink.{AppendsFront}
use Rattle.link_text.specs.Gathered.{Gathers}
use Rattle.link_text.proofs.Gathering.{gathers_then, breaks_then, front_of_more}
use Rattle.line_code.specs.Packed.{symbols_in}
use Rattle.link_run_inspect.specs.Changes.{changes_of, changes_text}
use Rattle.link_run_inspect.specs.Managed.{Managed, managed, after_hyperframe}
use Rattle.link_run_inspect.specs.Events.{followed_text}
use Rattle.link_run_inspect.specs.Receives.{Receives}
use Rattle.link_run_inspect.specs.Handed.{Manages}
use Rattle.link_run_inspect.specs.Inspect.{frame_text}
use Rattle.link_run_inspect.proofs.Inspecting.{managed-push, after_is, frame_text_is, hyperframe_is}
use Rattle.link_run_inspect.proofs.inspector.Inspector.take.Goals as goal

pub returns-in-Ok-follow-clause-inspects : goal.returns-in-Ok-follow-clause-inspects
returns-in-Ok-follow-clause-inspects g c s h =
    let r = c.take-changes.new.self in
    let frame = symbols_in c.args.octets.now in
    let width : r.width ≡ s.width = c.take-changes.ensures.width ∙ h.width in
    let changes : c.take-changes.result ≡ changes_of r.width s.frames frame =
    c.take-changes.ensures.changes s.frames h.receives ∙ ap (λ w. changes_of w s.frames frame) (sym c.take-changes.ensures.width) in
    let receives : Receives r (s.frames ++ frame ∷ []) = c.take-changes.ensures.stands s.frames h.receives in
    let manages : Manages c.args.self.now.channels (managed r.width s.frames) = subst (λ w. Manages c.args.self.now.channels (managed w s.frames)) (sym width) h.manages in
    let all = s.frames ++ frame ∷ [] in
    let m = managed r.width s.frames in
    let followed = c.in-Ok-follow.ensures.stands m manages in
    let is : after_hyperframe r.width c.deref.result.now r.state c.take-changes.result.hyperframe m ≡ managed s.width all =
    after_is r all c.deref.result.now c.take-changes.result.hyperframe m receives r.whole c.deref.ensures.value (hyperframe_is r.width s.frames frame c.take-changes.result changes)
    ∙ sym (managed-push r.width s.frames frame) ∙ ap (λ w. managed w all) width in
    record {
      width = width;
      due = h.due;
      receives = record {
        number = receives.number;
        disparity = receives.disparity;
        violations = receives.violations;
        acquire = receives.acquire;
        state = receives.state;
        los = receives.los;
        lost = receives.lost;
        control = receives.control;
        in_hand = receives.in_hand;
      };
      manages = subst (λ (k : Managed). Manages c.follow.new.self k) is followed;
    }

pub returns-in-Ok-follow-clause-gathers : goal.returns-in-Ok-follow-clause-gathers
returns-in-Ok-follow-clause-gathers g c s h =
    let taken = g.K.Sink.taken in
    let r = c.take-changes.new.self in
    let frame = symbols_in c.args.octets.now in
    let width : r.width ≡ s.width = c.take-changes.ensures.width ∙ h.width in
    let changes : c.take-changes.result ≡ changes_of r.width s.frames frame =
    c.take-changes.ensures.changes s.frames h.receives ∙ ap (λ w. changes_of w s.frames frame) (sym c.take-changes.ensures.width) in
    let receives : Receives r (s.frames ++ frame ∷ []) = c.take-changes.ensures.stands s.frames h.receives in
    let manages : Manages c.args.self.now.channels (managed r.width s.frames) = subst (λ w. Manages c.args.self.now.channels (managed w s.frames)) (sym width) h.manages in
    let text = changes_text c.take-changes.result in
    let control = c.deref.result.now in
    let more = followed_text c.take-changes.result.number r.width control c.take-changes.result.hyperframe (managed r.width s.frames) in
    let whole : text ++ more ≡ frame_text s.width s.frames frame =
    frame_text_is r s.frames frame c.take-changes.result control changes receives r.whole c.deref.ensures.value ∙ ap (λ w. frame_text w s.frames frame) width in
    subst (λ (t : List ℕ). Gathers t c.args.text.now (taken c.args.out.now) c.follow.new.text (taken c.follow.new.out)) whole
    (gathers_then text more c.args.text.now c.put_changes.new.text c.follow.new.text (taken c.args.out.now) (taken c.put_changes.new.out) (taken c.follow.new.out)
    c.in-Ok.ensures.gathers (c.in-Ok-follow.ensures.gathers (managed r.width s.frames) manages))

pub returns-in-Err-follow-clause-fails : goal.returns-in-Err-follow-clause-fails
returns-in-Err-follow-clause-fails g c s h =
    let taken = g.K.Sink.taken in
    let r = c.take-changes.new.self in
    let frame = symbols_in c.args.octets.now in
    let width : r.width ≡ s.width = c.take-changes.ensures.width ∙ h.width in
    let changes : c.take-changes.result ≡ changes_of r.width s.frames frame =
    c.take-changes.ensures.changes s.frames h.receives ∙ ap (λ w. changes_of w s.frames frame) (sym c.take-changes.ensures.width) in
    let receives : Receives r (s.frames ++ frame ∷ []) = c.take-changes.ensures.stands s.frames h.receives in
    let manages : Manages c.args.self.now.channels (managed r.width s.frames) = subst (λ w. Manages c.args.self.now.channels (managed w s.frames)) (sym width) h.manages in
    let text = changes_text c.take-changes.result in
    let control = c.deref.result.now in
    let more = followed_text c.take-changes.result.number r.width control c.take-changes.result.hyperframe (managed r.width s.frames) in
    let whole : text ++ more ≡ frame_text s.width s.frames frame =
    frame_text_is r s.frames frame c.take-changes.result control changes receives r.whole c.deref.ensures.value ∙ ap (λ w. frame_text w s.frames frame) width in
    subst (λ (t : List ℕ). AppendsFront (c.args.text.now ++ t) (taken c.args.out.now) (taken c.follow.new.out)) whole
    (breaks_then text more c.args.text.now c.put_changes.new.text (taken c.args.out.now) (taken c.put_changes.new.out) (taken c.follow.new.out)
    c.in-Ok.ensures.gathers (c.in-Err-follow.ensures.fails (managed r.width s.frames) manages))

pub returns-in-Err-clause-fails : goal.returns-in-Err-clause-fails
returns-in-Err-clause-fails g c s h =
    let taken = g.K.Sink.taken in
    let r = c.take-changes.new.self in
    let frame = symbols_in c.args.octets.now in
    let width : r.width ≡ s.width = c.take-changes.ensures.width ∙ h.width in
    let changes : c.take-changes.result ≡ changes_of r.width s.frames frame =
    c.take-changes.ensures.changes s.frames h.receives ∙ ap (λ w. changes_of w s.frames frame) (sym c.take-changes.ensures.width) in
    let receives : Receives r (s.frames ++ frame ∷ []) = c.take-changes.ensures.stands s.frames h.receives in
    let text = changes_text c.take-changes.result in
    let control = r.in_hand.control.items in
    let more = followed_text c.take-changes.result.number r.width control c.take-changes.result.hyperframe (managed r.width s.frames) in
    let whole : text ++ more ≡ frame_text s.width s.frames frame =
    frame_text_is r s.frames frame c.take-changes.result control changes receives r.whole refl ∙ ap (λ w. frame_text w s.frames frame) width in
    subst (λ (t : List ℕ). AppendsFront t (taken c.args.out.now) (taken c.put_changes.new.out)) (append_assoc c.args.text.now text more ∙ ap (λ t. c.args.text.now ++ t) whole)
    (front_of_more (c.args.text.now ++ text) more (taken c.args.out.now) (taken c.put_changes.new.out) c.in-Err.ensures.fails)
