-- The machines of a run: how they go on, and that its events are theirs.
use Rattle.machine_laws.proofs.Common.{◌≡◌, Bool, ℕ, refl, true, [], false, ◌∷◌, ap, suc, zero, ◌==◌, ImageRecord, ListRecord, Method, Service, events_left, Machine, start, next, run, run_on, Event}
use Rattle.std.specs.Prelude.{map}
use Rattle.machine_model.specs.Run.{machines, machines_on}
use Rattle.machine_model.proofs.RunLaws.{chosen_false, chosen_true, run_on-end, run_on-more}
use Rattle.machine_laws.specs.Machines.{Follow}

module _ (served : Service → Bool) (method : Method) (n : ℕ) where
  pub machines_on-end : (more : ℕ) (m : Machine) → (m.t == n) ≡ true → machines_on served method n more m ≡ []
  machines_on-end zero m e = refl
  machines_on-end (suc more) m e = chosen_true (m.t == n) [] (m ∷ machines_on served method n more (next served method m).1) e

  pub machines_on-more : (more : ℕ) (m : Machine) → (m.t == n) ≡ false → machines_on served method n (suc more) m ≡ m ∷ machines_on served method n more (next served method m).1
  machines_on-more more m e = chosen_false (m.t == n) [] (m ∷ machines_on served method n more (next served method m).1) e

  abbrev event_of : Machine → Event
  event_of m = (next served method m).0

  events-one_more : (more : ℕ) (m : Machine) (b : Bool) → (m.t == n) ≡ b → (run_on served method n more (next served method m).1).events ≡ map event_of (machines_on served method n more (next served method m).1) → (run_on served method n (suc more) m).events ≡ map event_of (machines_on served method n (suc more) m)
  events-one_more more m true e rest = rw (machines_on-end (suc more) m e, run_on-end served method n (suc more) m e) refl
  events-one_more more m false e rest = rw (machines_on-more more m e, run_on-more served method n more m e) (ap (λ es. event_of m ∷ es) rest)

  pub events-on : (more : ℕ) (m : Machine) → (run_on served method n more m).events ≡ map event_of (machines_on served method n more m)
  events-on zero m = refl
  events-on (suc more) m = events-one_more more m (m.t == n) refl (events-on more (next served method m).1)

  abbrev FollowOn : ℕ → Machine → Type 0
  FollowOn more m = Follow served method m (machines_on served method n more m) (run_on served method n more m).last

  follow-one_more : (more : ℕ) (m : Machine) (b : Bool) → (m.t == n) ≡ b → FollowOn more (next served method m).1 → FollowOn (suc more) m
  follow-one_more more m true e rest = rw (machines_on-end (suc more) m e, run_on-end served method n (suc more) m e) refl
  follow-one_more more m false e rest = rw (machines_on-more more m e, run_on-more served method n more m e) (refl, rest)

  pub follow-on : (more : ℕ) (m : Machine) → FollowOn more m
  follow-on zero m = refl
  follow-on (suc more) m = follow-one_more more m (m.t == n) refl (follow-on more (next served method m).1)

pub events-run : (served : Service → Bool) (method : Method) (image : ImageRecord) (list : ListRecord) (n : ℕ) → (run served method image list n).events ≡ map (λ m. (next served method m).0) (machines served method image list n)
events-run served method image list n = let m = start image list in events-on served method n (events_left n m) m

pub follow-run : (served : Service → Bool) (method : Method) (image : ImageRecord) (list : ListRecord) (n : ℕ) → Follow served method (start image list) (machines served method image list n) (run served method image list n).last
follow-run served method image list n = let m = start image list in follow-on served method n (events_left n m) m
