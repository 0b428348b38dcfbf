-- How the first event that breaks a premise is found, event by event.
use Rattle.std.specs.Prelude.{if◌then◌else◌}
use Rattle.std.proofs.Common.{◌≡◌, ℕ, Bool, true, false, List, [], ◌∷◌, ◌++◌, Option, Some, refl, sym, ap, ◌∙◌}
use Rattle.machine_model.specs.declared.events.Event.{Event}
use Rattle.machine_model.specs.Premises.{Premises, premises, broken_at, enters_by_step, enters_locked, loses_post, readies_interrupted}
use Rattle.method_premises.specs.PremisesView.{first_broken}

behind : (b : Bool) (s s2 : ℕ) (found rest : Option ℕ) (breaks : Bool) → rest ≡ first_broken found breaks s2
    → (if b then Some s else rest) ≡ first_broken (if b then Some s else found) breaks s2
behind true s s2 found rest breaks same = refl
behind false s s2 found rest breaks same = same

-- one more event, at the end
pub broken_more : (breaks : Event → Bool) (es : List Event) (e : Event) → broken_at breaks (es ++ e ∷ []) ≡ first_broken (broken_at breaks es) (breaks e) e.s
broken_more breaks [] e = refl
broken_more breaks (first ∷ es) e = behind (breaks first) first.s e.s (broken_at breaks es) (broken_at breaks (es ++ e ∷ [])) (breaks e) (broken_more breaks es e)

-- what is kept of each premise after one more event is what holds of the events with it
pub watched : (es : List Event) (e : Event) (old : Premises) (p1 p2 p3 p4 p5 : Option ℕ) → old ≡ premises es
    → p1 ≡ first_broken old.p1 (enters_by_step e.what) e.s → p2 ≡ first_broken old.p2 (enters_locked e.what) e.s
    → p3 ≡ first_broken old.p3 e.marked e.s → p4 ≡ first_broken old.p4 (loses_post e.what) e.s
    → p5 ≡ first_broken old.p5 (readies_interrupted e.what) e.s
    → record { p1 = p1; p2 = p2; p3 = p3; p4 = p4; p5 = p5 } ≡ premises (es ++ e ∷ [])
watched es e old p1 p2 p3 p4 p5 h q1 q2 q3 q4 q5 =
    let r1 : p1 ≡ broken_at (λ e. enters_by_step e.what) (es ++ e ∷ []) =
    q1 ∙ ap (λ (p : Premises). first_broken p.p1 (enters_by_step e.what) e.s) h ∙ sym (broken_more (λ e. enters_by_step e.what) es e) in
    let r2 : p2 ≡ broken_at (λ e. enters_locked e.what) (es ++ e ∷ []) =
    q2 ∙ ap (λ (p : Premises). first_broken p.p2 (enters_locked e.what) e.s) h ∙ sym (broken_more (λ e. enters_locked e.what) es e) in
    let r3 : p3 ≡ broken_at (λ e. e.marked) (es ++ e ∷ []) =
    q3 ∙ ap (λ (p : Premises). first_broken p.p3 e.marked e.s) h ∙ sym (broken_more (λ e. e.marked) es e) in
    let r4 : p4 ≡ broken_at (λ e. loses_post e.what) (es ++ e ∷ []) =
    q4 ∙ ap (λ (p : Premises). first_broken p.p4 (loses_post e.what) e.s) h ∙ sym (broken_more (λ e. loses_post e.what) es e) in
    let r5 : p5 ≡ broken_at (λ e. readies_interrupted e.what) (es ++ e ∷ []) =
    q5 ∙ ap (λ (p : Premises). first_broken p.p5 (readies_interrupted e.what) e.s) h ∙ sym (broken_more (λ e. readies_interrupted e.what) es e) in
    rw (r1, r2, r3, r4, r5) refl
