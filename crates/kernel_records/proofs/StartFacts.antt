-- The records at the start: the kinds of the objects are the declared ones, and there are 64 tasks.
use Rattle.std.proofs.Common.{◌≡◌, ◌≤◌, ◌+◌, ◌-◌, List, [], ◌∷◌, ◌++◌, length, map, refl, ap, ◌∙◌, ℕ, arith}
use Rattle.std.specs.Prelude.{replicate}
use Rattle.std.proofs.lemmas.List.{length-append, length-map, length-replicate}
use Rattle.kern_base.specs.declared.kinds.Kind.{Kind}
use Rattle.kern_base.specs.declared.kinds.Kind.TheVariants.{Sem, Queue, Flags, Mutex, OneShot, Periodic}
use Rattle.app_image.specs.Image.{ImageRecord}
use Rattle.app_image.specs.declared.records.ObjDef.{ObjDef}
use Rattle.kern_model.specs.State.{Object, kind_of, no_task}
use Rattle.kern_model.specs.Start.{application_task, content_of, internal_tasks, object_of, start_tasks}

kind-content : (kind : Kind) (f : List ℕ) → kind_of (content_of kind f) ≡ kind
kind-content Sem f = refl
kind-content Queue f = refl
kind-content Flags f = refl
kind-content Mutex f = refl
kind-content OneShot f = refl
kind-content Periodic f = refl

pub kinds-start : (ds : List ObjDef) → map (λ (b : Object). kind_of b.content) (map object_of ds) ≡ map (λ (d : ObjDef). d.kind) ds
kinds-start [] = refl
kinds-start (d ∷ ds) =
    ap (λ k. k ∷ map (λ (b : Object). kind_of b.content) (map object_of ds)) (kind-content d.kind d.f) ∙ ap (λ ks. d.kind ∷ ks) (kinds-start ds)

pub count-start : (i : ImageRecord) → length i.tasks ≤ 60 → length (start_tasks i) ≡ 64
count-start i h =
    let front = map (application_task i.config.quanta) i.tasks in
    let blanks = replicate (60 - length i.tasks) no_task in
    let all : length (start_tasks i) ≡ length front + length blanks + 4 = length-append (front ++ blanks) (internal_tasks i.config) ∙ ap (λ n. n + 4) (length-append front blanks) in
    let first : length front ≡ length i.tasks = length-map i.tasks (application_task i.config.quanta) in
    let second : length blanks ≡ 60 - length i.tasks = length-replicate (60 - length i.tasks) no_task in
    omega (arith, all, first, second, h)
