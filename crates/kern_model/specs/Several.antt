-- OSPendMulti: the wait for the first of several semaphores and queues.
use Rattle.std.specs.Prelude.{ℕ, zero, suc, ◌+◌, ◌*◌, Bool, false, not, ◌||◌, List, [], ◌∷◌, ◌++◌, map, take, replicate, if◌then◌else◌, nat_lt, Option, Some, None, slice_get}
use Rattle.kern_base.specs.Tables.{KindTable}
use Rattle.kern_base.specs.Checks.{object_error}
use Rattle.kern_base.specs.declared.kinds.Kind.TheVariants.{Sem, Queue}
use Rattle.kern_base.specs.declared.services.Service.TheVariants.{PendMulti}
use Rattle.kern_base.specs.declared.outcomes.Waiting.TheVariants.{Multi}
use Rattle.kern_base.specs.declared.outcomes.Finished.{Finished}
use Rattle.kern_base.specs.declared.outcomes.Outcome.TheVariants.{Answered}
use Rattle.kern_base.specs.declared.requests.Request.{Request}
use Rattle.kern_base.specs.declared.errors.OsErr.{OsErr}
use Rattle.kern_base.specs.declared.errors.OsErr.TheVariants.{Table, ObjectType}
use Rattle.kern_model.specs.State.{Kernel, Content, Count, Messages, object_at, with_content, count_of, is_zero, kinds_of}
use Rattle.kern_model.specs.Micro.{plain}
use Rattle.kern_model.specs.Effect.{Effect, Wait, refused, fine, waits_unless, blocks_on}
use Rattle.kern_model.specs.Options.{does_not_wait}
use Rattle.kern_model.specs.Checks.{argument, first_error}

-- the objects of the table
abbrev pub table_objects : Request → List ℕ
table_objects r = take r.n_ids r.ids

-- whether a number stands twice
abbrev pub repeats : List ℕ → Bool
repeats [] = false
repeats (x ∷ xs) = not (is_zero (count_of x xs)) || repeats xs

-- the first object of another kind than a semaphore or a queue, or without an object
abbrev pub kinds_error : List ℕ → KindTable → Option OsErr
kinds_error [] table = None
kinds_error (o ∷ os) table = first_error (object_error (Sem ∷ Queue ∷ []) (slice_get table.objects o)) (kinds_error os table)

-- the first object that is deleted
abbrev pub deleted_error : List ℕ → Kernel → Option OsErr
deleted_error [] k = None
deleted_error (o ∷ os) k = if (object_at k o).deleted then Some ObjectType else deleted_error os k

-- whether the table is at fault, has more than 8 entries, or names an object twice
abbrev pub is_table_fault : Request → Bool
is_table_fault r = not r.table || (nat_lt 8 r.n_ids || repeats (table_objects r))

-- a table at fault, then a wrong kind, then a deleted object
abbrev pub multi_error : Request → Kernel → Option OsErr
multi_error r k =
    let os = table_objects r in
    if is_table_fault r then Some Table else first_error (kinds_error os (kinds_of k)) (deleted_error os k)

-- what a poll of an object gives: a message and its size, of a semaphore 0 and 0; none where the object is not ready
abbrev pub polled : Content → Option (ℕ × ℕ)
polled (Count (suc n)) = Some (0, 0)
polled (Messages limit (m ∷ ms)) = Some m
polled content = None

-- what polls of these objects give
abbrev pub polls : List ℕ → Kernel → List (Option (ℕ × ℕ))
polls os k = map (λ o. polled (object_at k o).content) os

-- the kernel after one is taken from an object that is ready
abbrev pub taken_from : ℕ → Content → Kernel → Kernel
taken_from o (Count (suc n)) k = with_content k o (Count n)
taken_from o (Messages limit (m ∷ ms)) k = record (with_content k o (Messages limit ms)) { free = k.free + 1 }
taken_from o content k = k

-- the kernel after one is taken from each of these that is ready
abbrev pub taken_all : List ℕ → Kernel → Kernel
taken_all [] k = k
taken_all (o ∷ os) k = taken_all os (taken_from o (object_at k o).content k)

-- how many were taken, a bit for each, and the messages, with 0 and 0 for the others
abbrev pub taken_count : List (Option (ℕ × ℕ)) → ℕ
taken_count [] = 0
taken_count (None ∷ ps) = taken_count ps
taken_count (Some m ∷ ps) = taken_count ps + 1

-- a bit for each object from which one was taken
abbrev pub taken_bits : List (Option (ℕ × ℕ)) → ℕ
taken_bits [] = 0
taken_bits (None ∷ ps) = 2 * taken_bits ps
taken_bits (Some m ∷ ps) = 2 * taken_bits ps + 1

-- the messages, with 0 and 0 where nothing was taken
abbrev pub taken_messages : List (Option (ℕ × ℕ)) → List (ℕ × ℕ)
taken_messages [] = []
taken_messages (None ∷ ps) = (0, 0) ∷ taken_messages ps
taken_messages (Some m ∷ ps) = m ∷ taken_messages ps

-- the result where some were ready
abbrev pub taken_result : Request → List (Option (ℕ × ℕ)) → Finished
taken_result r ps =
    record {
      service = PendMulti;
      answer = fine (taken_count ps);
      ready = taken_bits ps;
      msgs = take 8 (taken_messages ps ++ replicate 8 (0, 0));
      table = argument r 0;
      n_ids = r.n_ids;
    }

-- one micro-step for each object that is polled, before these blocks
abbrev pub after_polls : List ℕ → Effect → Effect
after_polls os e = record { kernel = e.kernel; outcome = e.outcome; blocks = map (λ o. plain) os ++ e.blocks }

-- where some are ready they are taken from, and else the caller waits for all
abbrev pub multi_takes : ℕ → List (Option (ℕ × ℕ)) → Request → ℕ → Kernel → Effect
multi_takes zero ps r x k =
    let address = argument r 0 in
    let timeout = argument r 2 in
    let option = argument r 3 in
    let w : Wait = record { waiting = Multi; objects = table_objects r; mask = 0; opt = 0; table = address; timeout = timeout } in
    waits_unless k (does_not_wait option) (blocks_on k x w)
multi_takes (suc n) ps r x k =
    record { kernel = taken_all (table_objects r) k; outcome = Answered (fine (suc n)) (Some (taken_result r ps)); blocks = [] }

-- each object is polled, and then taken from or waited for
abbrev pub multi_polls : Request → ℕ → Kernel → Effect
multi_polls r x k =
    let ps = polls (table_objects r) k in
    after_polls (table_objects r) (multi_takes (taken_count ps) ps r x k)

-- OSPendMulti: takes one from each object that is ready; where none is, the caller waits for all.
abbrev pub multi_checked : Option OsErr → Request → ℕ → Kernel → Effect
multi_checked (Some err) r x k = refused k err
multi_checked None r x k = multi_polls r x k

-- OSPendMulti after the checks that every call has
abbrev pub pend_multi : Request → ℕ → Kernel → Effect
pend_multi r x k = multi_checked (multi_error r k) r x k
