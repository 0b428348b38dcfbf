-- The premises under which changing the posting method changes no task history, as they stand in a run by the deferred
-- method: each is held, or broken with the raw steps before the first event that breaks it.
use Rattle.std.specs.Prelude.{ℕ, Bool, true, false, ◌||◌, List, [], ◌∷◌, ◌++◌, Option, Some, None, if◌then◌else◌, ◌==◌, codes, decimal, is_some}
use Rattle.kern_base.specs.declared.errors.OsErr.{OsErr}
use Rattle.kern_base.specs.declared.errors.OsErr.TheVariants.{InterruptQueueFull}
use Rattle.app_image.specs.Image.{ImageRecord}
use Rattle.machine_model.specs.declared.events.Event.{Event}
use Rattle.machine_model.specs.declared.events.What.{What}
use Rattle.machine_model.specs.declared.events.What.TheVariants.{Irq, Post, Take}
use Rattle.machine_model.specs.Run.{Run}

-- an interrupt enters whose moment is in raw steps
abbrev pub enters_by_step : What → Bool
enters_by_step (Irq vector level by_step locked) = by_step
enters_by_step what = false

-- an interrupt enters while the scheduler is locked
abbrev pub enters_locked : What → Bool
enters_locked (Irq vector level by_step locked) = locked
enters_locked what = false

-- the error says that the queue of posts is full
abbrev pub is_queue_full : OsErr → Bool
is_queue_full InterruptQueueFull = true
is_queue_full err = false

-- a post is lost since the queue is full
abbrev pub loses_post : What → Bool
loses_post (Post vector service args n_args err value) = is_queue_full err
loses_post what = false

-- with the literal insertion rule, a take readies a task of the interrupted priority
abbrev pub readies_interrupted : What → Bool
readies_interrupted (Take service args n_args err value same) = same
readies_interrupted what = false

-- the raw steps before the first event that breaks a premise
abbrev pub broken_at : (Event → Bool) → List Event → Option ℕ
broken_at breaks [] = None
broken_at breaks (e ∷ es) = if breaks e then Some e.s else broken_at breaks es

-- the five premises of a run, each with where it is broken, if it is
pub record Premises : Type 0 where
  -- no interrupt enters at a moment in raw steps
  pub p1 : Option ℕ
  -- no interrupt enters while the scheduler is locked
  pub p2 : Option ℕ
  -- no instruction of interrupt code reads the answer of a post
  pub p3 : Option ℕ
  -- no post is lost
  pub p4 : Option ℕ
  -- with the literal insertion rule, no take readies a task of the interrupted priority
  pub p5 : Option ℕ

abbrev pub premises : List Event → Premises
premises events =
    record {
      p1 = broken_at (λ e. enters_by_step e.what) events;
      p2 = broken_at (λ e. enters_locked e.what) events;
      p3 = broken_at (λ e. e.marked) events;
      p4 = broken_at (λ e. loses_post e.what) events;
      p5 = broken_at (λ e. readies_interrupted e.what) events;
    }

-- whether some premise of a run is broken
abbrev pub is_broken : Run → Bool
is_broken r =
    let p = premises r.events in
    is_some p.p1 || (is_some p.p2 || (is_some p.p3 || (is_some p.p4 || is_some p.p5)))

-- the line of a premise
abbrev pub premise_line : List ℕ → Option ℕ → List ℕ
premise_line name None = name ++ codes " held\n"
premise_line name (Some s) = name ++ (codes " broken " ++ (decimal s ++ codes "\n"))

-- the lines of the premises of a run; the last one only with the literal insertion rule
abbrev pub premise_lines : ImageRecord → Run → List ℕ
premise_lines image r =
    let p = premises r.events in
    premise_line (codes "P1") p.p1 ++ (premise_line (codes "P2") p.p2 ++ (premise_line (codes "P3") p.p3 ++ (premise_line (codes "P4") p.p4
    ++ (if image.config.insert == 1 then premise_line (codes "P5") p.p5 else []))))
