-- How the history of a run goes on, event by event.
use Rattle.std.specs.Prelude.{flat_map, ◌==◌}
use Rattle.std.proofs.Common.{◌≡◌, ◌<◌, ◌≤◌, ℕ, zero, suc, Bool, false, List, [], ◌∷◌, ◌++◌, refl, sym, ap, ◌∙◌, arith, append_assoc, append-nil, ne_eqb, eq-eqb}
use Rattle.kern_base.specs.declared.kinds.Method.{Method}
use Rattle.kern_base.specs.declared.services.Service.{Service}
use Rattle.app_image.specs.Image.{ImageRecord}
use Rattle.inject_list.specs.Lists.{ListRecord}
use Rattle.machine_model.specs.declared.events.Event.{Event}
use Rattle.machine_model.specs.Machine.{Machine, start}
use Rattle.machine_model.specs.Rules.{next}
use Rattle.machine_model.specs.Text.{event_history, end_history}
use Rattle.machine_model.specs.Bound.{events_left}
use Rattle.machine_model.specs.Run.{Run, run, run_on, history}
use Rattle.machine_model.proofs.RunLaws.{run_on-more, run_on-end}

-- A run has told this history so far, with these events, and stands at this machine.
pub record HasTold (served : Service → Bool) (method : Method) (image : ImageRecord) (list : ListRecord) (n : ℕ) (front : List ℕ) (events : List Event) (m : Machine) : Type 0 where
  pub more : ℕ
  pub enough : events_left n m ≤ more
  pub text : history image (run served method image list n) ≡ front ++ history image (run_on served method n more m)
  pub events_are : (run served method image list n).events ≡ events ++ (run_on served method n more m).events
  pub last : (run served method image list n).last ≡ (run_on served method n more m).last

-- What follows behind what is told: the next event, and the rest.
pub record HasNext (served : Service → Bool) (method : Method) (image : ImageRecord) (list : ListRecord) (n : ℕ) (front : List ℕ) (events : List Event) (m : Machine) : Type 0 where
  pub rest : List ℕ
  pub follows : history image (run served method image list n) ≡ front ++ (event_history image (next served method m).0 ++ rest)
  pub told : events_left n (next served method m).1 < events_left n m
      → HasTold served method image list n (front ++ event_history image (next served method m).0) (events ++ (next served method m).0 ∷ []) (next served method m).1

-- The whole history is told but for its last line.
pub record HasEnded (served : Service → Bool) (method : Method) (image : ImageRecord) (list : ListRecord) (n : ℕ) (front : List ℕ) (events : List Event) (m : Machine) : Type 0 where
  pub text : history image (run served method image list n) ≡ front ++ end_history m.t
  pub events_are : (run served method image list n).events ≡ events
  pub last : (run served method image list n).last ≡ m

not_yet : (t n : ℕ) → t < n → (t == n) ≡ false
not_yet t n p = ne_eqb t n (λ (e : t ≡ n). omega (arith, e, p))

module _ (served : Service → Bool) (method : Method) (image : ImageRecord) (list : ListRecord) (n : ℕ) where
  -- at the start it has told nothing
  pub told_nothing : HasTold served method image list n [] [] (start image list)
  told_nothing = record { more = events_left n (start image list); enough = omega arith; text = refl; events_are = refl; last = refl }

  -- what a run tells whose first event is known
  history-more : (r : Run) (e : Event) (rest : Run) → r ≡ record { events = e ∷ rest.events; last = rest.last }
      → history image r ≡ event_history image e ++ history image rest
  history-more r e rest same = ap (history image) same ∙ append_assoc (event_history image e) (flat_map (event_history image) rest.events) (end_history rest.last.t)

  -- The next event of a run that is not at its end, where events are left.
  pub told_more : (front : List ℕ) (events : List Event) (m : Machine) → HasTold served method image list n front events m → m.t < n → 0 < events_left n m
      → HasNext served method image list n front events m
  told_more front events m h open_yet some = from h.more h.enough h.text h.events_are h.last
    where
      from : (more : ℕ) → events_left n m ≤ more → history image (run served method image list n) ≡ front ++ history image (run_on served method n more m)
          → (run served method image list n).events ≡ events ++ (run_on served method n more m).events
          → (run served method image list n).last ≡ (run_on served method n more m).last → HasNext served method image list n front events m
      from zero enough text events_are last = absurd (omega (arith, enough, some))
      from (suc more) enough text events_are last =
          let e = (next served method m).0 in
          let rest = run_on served method n more (next served method m).1 in
          let step = run_on-more served method n more m (not_yet m.t n open_yet) in
          let after : List ℕ = history image rest in
          let follows : history image (run served method image list n) ≡ front ++ (event_history image e ++ after) =
          text ∙ ap (λ l. front ++ l) (history-more (run_on served method n (suc more) m) e rest step) in
          record {
            rest = after;
            follows = follows;
            told = λ falls. record {
              more = more;
              enough = omega (arith, enough, falls);
              text = follows ∙ sym (append_assoc front (event_history image e) after);
              events_are = events_are ∙ ap (λ (r : Run). events ++ r.events) step ∙ sym (append_assoc events (e ∷ []) rest.events);
              last = last ∙ ap (λ (r : Run). r.last) step;
            };
          }

  -- At the end the last line is left to tell.
  pub told_all : (front : List ℕ) (events : List Event) (m : Machine) → HasTold served method image list n front events m → m.t ≡ n
      → HasEnded served method image list n front events m
  told_all front events m h at_end =
      let end = run_on-end served method n h.more m (eq-eqb m.t n at_end) in
      record {
        text = h.text ∙ ap (λ r. front ++ history image r) end;
        events_are = h.events_are ∙ ap (λ (r : Run). events ++ r.events) end ∙ append-nil events;
        last = h.last ∙ ap (λ (r : Run). r.last) end;
      }
