-- Where no premise is broken, the lines of premises say so.
use Rattle.std.specs.Prelude.{◌||◌, ◌==◌, if◌then◌else◌, is_some, codes}
use Rattle.std.proofs.Common.{◌≡◌, ℕ, Bool, false, List, [], ◌++◌, Option, Some, None, refl, sym, ap, ◌∙◌, subst, append_assoc}
use Rattle.std.specs.Io.KnownBytes.{Appends}
use Rattle.app_image.specs.Image.{ImageRecord}
use Rattle.machine_model.specs.Premises.{Premises, premises, premise_line, premise_lines, is_broken}
use Rattle.machine_model.specs.Run.{Run, history}
use Rattle.program_model.specs.Both.{both_text, raw_line}
use Rattle.ucos_top.specs.Told.{WritesOneHistory}

-- the lines of these premises
abbrev pub lines_of : ImageRecord → Premises → List ℕ
lines_of image p =
    premise_line (codes "P1") p.p1 ++ (premise_line (codes "P2") p.p2 ++ (premise_line (codes "P3") p.p3 ++ (premise_line (codes "P4") p.p4
    ++ (if image.config.insert == 1 then premise_line (codes "P5") p.p5 else []))))

-- the lines of a run are those of its premises
pub lines_are : (image : ImageRecord) (p : Premises) (r : Run) → p ≡ premises r.events → premise_lines image r ≡ lines_of image p
lines_are image p r e = ap (lines_of image) (sym e)

abbrev held_fifth : Bool → List ℕ
held_fifth literal = if literal then codes "P5 held\n" else []

all_held : (literal : Bool) (a b c d e : Option ℕ) → (is_some a || (is_some b || (is_some c || (is_some d || is_some e)))) ≡ false
    → premise_line (codes "P1") a ++ (premise_line (codes "P2") b ++ (premise_line (codes "P3") c ++ (premise_line (codes "P4") d ++ (if literal then premise_line (codes "P5") e else []))))
    ≡ codes "P1 held\nP2 held\nP3 held\nP4 held\n" ++ held_fifth literal
all_held literal None None None None None h = refl
all_held literal None None None None (Some s) h = cc
all_held literal None None None (Some s) e h = cc
all_held literal None None (Some s) d e h = cc
all_held literal None (Some s) c d e h = cc
all_held literal (Some s) b c d e h = cc

-- the lines of a run that breaks no premise
pub held_lines : (image : ImageRecord) (r : Run) → is_broken r ≡ false → premise_lines image r ≡ codes "P1 held\nP2 held\nP3 held\nP4 held\n" ++ held_fifth (image.config.insert == 1)
held_lines image r h =
    let p = premises r.events in
    all_held (image.config.insert == 1) p.p1 p.p2 p.p3 p.p4 p.p5 h

-- the text of two runs with one history, the second of which breaks no premise
pub one_history : (image : ImageRecord) (direct deferred : Run) (old new : Option (List ℕ)) → is_broken deferred ≡ false → history image deferred ≡ history image direct
    → Appends old new (both_text image (record { direct = direct; deferred = deferred })) → WritesOneHistory old new
one_history image direct deferred old new h same written =
    let told : List ℕ = history image direct in
    let raw : List ℕ = raw_line direct.last.s deferred.last.s in
    let fifth : List ℕ = held_fifth (image.config.insert == 1) in
    let held : List ℕ = codes "P1 held\nP2 held\nP3 held\nP4 held\n" in
    let rest : history image deferred ++ (premise_lines image deferred ++ raw) ≡ told ++ (held ++ (fifth ++ raw)) =
    ap (λ x. x ++ (premise_lines image deferred ++ raw)) same ∙ ap (λ x. told ++ (x ++ raw)) (held_lines image deferred h)
    ∙ ap (λ x. told ++ x) (append_assoc held fifth raw) in
    let text : both_text image (record { direct = direct; deferred = deferred }) ≡ codes "method direct\n" ++ (told ++ (codes "method deferred\n" ++ (told ++ (held ++ (fifth ++ raw))))) =
    ap (λ x. codes "method direct\n" ++ (told ++ (codes "method deferred\n" ++ x))) rest in
    record {
      history = told;
      rest = fifth ++ raw;
      written = subst (Appends old new) text written;
    }
