-- How a run goes on, event by event.
use Rattle.std.specs.Prelude.{flat_map, ◌==◌}
use Rattle.std.proofs.Common.{◌≡◌, ◌<◌, ◌≤◌, ℕ, zero, suc, Bool, true, false, List, [], ◌∷◌, ◌++◌, refl, sym, ap, ◌∙◌, arith, append_assoc, ne_eqb, eq-eqb}
use Rattle.kern_base.specs.declared.kinds.Method.{Method}
use Rattle.kern_base.specs.declared.services.Service.{Service}
use Rattle.app_image.specs.Image.{ImageRecord}
use Rattle.inject_list.specs.Lists.{ListRecord}
use Rattle.machine_model.specs.Machine.{Machine, start}
use Rattle.machine_model.specs.Rules.{next}
use Rattle.machine_model.specs.Text.{event_text, end_line}
use Rattle.machine_model.specs.Bound.{events_left}
use Rattle.machine_model.specs.Run.{run_on, run_text, text}

-- A run has printed this so far, and stands at this machine.
pub record HasPrinted (served : Service → Bool) (method : Method) (image : ImageRecord) (list : ListRecord) (n : ℕ) (front : List ℕ) (m : Machine) : Type 0 where
  pub more : ℕ
  pub enough : events_left n m ≤ more
  pub rest : run_text served method image list n ≡ front ++ text image (run_on served method n more m)

-- What follows behind what is printed: the next event, and the rest.
pub record HasNext (served : Service → Bool) (method : Method) (image : ImageRecord) (list : ListRecord) (n : ℕ) (front : List ℕ) (m : Machine) : Type 0 where
  pub rest : List ℕ
  pub follows : run_text served method image list n ≡ front ++ (event_text image (next served method m).0 ++ rest)
  pub printed : events_left n (next served method m).1 < events_left n m → HasPrinted served method image list n (front ++ event_text image (next served method m).0) (next served method m).1

pub chosen_false : {A : Type 0} (b : Bool) (x y : A) → b ≡ false → (elim b [ true ↦ x | false ↦ y ]) ≡ y
chosen_false true x y e = cc
chosen_false false x y e = refl

pub chosen_true : {A : Type 0} (b : Bool) (x y : A) → b ≡ true → (elim b [ true ↦ x | false ↦ y ]) ≡ x
chosen_true true x y e = refl
chosen_true false x y e = cc

not_yet : (t n : ℕ) → t < n → (t == n) ≡ false
not_yet t n p = ne_eqb t n (λ (e : t ≡ n). omega (arith, e, p))

module _ (served : Service → Bool) (method : Method) where
  -- a run that is not at its end goes on with the next event
  pub run_on-more : (n more : ℕ) (m : Machine) → (m.t == n) ≡ false
      → run_on served method n (suc more) m ≡ record { events = (next served method m).0 ∷ (run_on served method n more (next served method m).1).events; last = (run_on served method n more (next served method m).1).last }
  run_on-more n more m e =
      let f = next served method m in
      let rest = run_on served method n more f.1 in
      chosen_false (m.t == n) (record { events = []; last = m }) (record { events = f.0 ∷ rest.events; last = rest.last }) e

  -- a run that is at its end has no further event
  pub run_on-end : (n more : ℕ) (m : Machine) → (m.t == n) ≡ true → run_on served method n more m ≡ record { events = []; last = m }
  run_on-end n zero m e = refl
  run_on-end n (suc more) m e =
      let f = next served method m in
      let rest = run_on served method n more f.1 in
      chosen_true (m.t == n) (record { events = []; last = m }) (record { events = f.0 ∷ rest.events; last = rest.last }) e

  -- what is printed from here on begins with the next event
  text-more : (image : ImageRecord) (n more : ℕ) (m : Machine) → (m.t == n) ≡ false
      → text image (run_on served method n (suc more) m) ≡ event_text image (next served method m).0 ++ text image (run_on served method n more (next served method m).1)
  text-more image n more m e =
      let f = next served method m in
      let r = run_on served method n more f.1 in
      ap (text image) (run_on-more n more m e) ∙ append_assoc (event_text image f.0) (flat_map (event_text image) r.events) (end_line r.last.s r.last.t)

  module _ (image : ImageRecord) (list : ListRecord) (n : ℕ) where
    -- at the start it has printed nothing
    pub printed_nothing : HasPrinted served method image list n [] (start image list)
    printed_nothing = record { more = events_left n (start image list); enough = omega arith; rest = refl }

    -- The next event of a run that is not at its end, where events are left.
    pub printed_more : (front : List ℕ) (m : Machine) → HasPrinted served method image list n front m → m.t < n → 0 < events_left n m → HasNext served method image list n front m
    printed_more front m h open_yet some = from h.more h.enough h.rest
      where
        from : (more : ℕ) → events_left n m ≤ more → run_text served method image list n ≡ front ++ text image (run_on served method n more m) → HasNext served method image list n front m
        from zero enough rest = absurd (omega (arith, enough, some))
        from (suc more) enough rest =
            let f = next served method m in
            let after : List ℕ = text image (run_on served method n more f.1) in
            let follows : run_text served method image list n ≡ front ++ (event_text image f.0 ++ after) = rest ∙ ap (λ l. front ++ l) (text-more image n more m (not_yet m.t n open_yet)) in
            record {
              rest = after;
              follows = follows;
              printed = λ falls. record {
                more = more;
                enough = omega (arith, enough, falls);
                rest = follows ∙ sym (append_assoc front (event_text image f.0) after);
              };
            }

    -- At the end the last line is left to print.
    pub printed_all : (front : List ℕ) (m : Machine) → HasPrinted served method image list n front m → m.t ≡ n → run_text served method image list n ≡ front ++ end_line m.s m.t
    printed_all front m h at_end = h.rest ∙ ap (λ r. front ++ text image r) (run_on-end n h.more m (eq-eqb m.t n at_end))
