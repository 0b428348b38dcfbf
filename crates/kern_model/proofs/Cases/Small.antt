-- Small cases of the services, computed.
use Rattle.kern_model.proofs.Common.{call_of, ℕ, ◌≡◌, refl, [], ◌∷◌, ◌++◌, None, Some, true, false, replicate, List, Service, SemPost, SemPend, QPost, Request, CallUnknown, ObjectType, SemOverflow, WouldBlock, SchedLocked, OptionInvalid, Answered, No, Obj, Signal, Kernel, Task, Count, no_task, pick, task_at, object_at, answer, fine, plain_result, effect, posted, post_request, cost, serves_all}
use Rattle.kern_model.specs.Finish.{finished}
use Rattle.kern_model.specs.Stop.{stopped}

abbrev pub a_task : ℕ → Task
a_task p = record no_task { base = p; prio = p; alive = true; quantum = 10; full = 10 }

-- two tasks of priority 10 and one of priority 20 that waits for a semaphore
abbrev pub three : Kernel
three =
    record {
      tasks = a_task 10 ∷ a_task 10 ∷ (record (a_task 20) { waiting = Obj SemPend; objects = 0 ∷ [] }) ∷ replicate 57 no_task
          ++ ((record (a_task 1) { waiting = Signal }) ∷ (record (a_task 62) { waiting = Signal }) ∷ a_task 63 ∷ no_task ∷ []);
      objects = (record { content = Count 0; deleted = false }) ∷ (record { content = Count 4294967295; deleted = false }) ∷ [];
      ready = replicate 10 [] ++ (0 ∷ 1 ∷ []) ∷ replicate 52 [] ++ (62 ∷ []) ∷ [];
      pend = (2 ∷ []) ∷ [] ∷ [];
      matches = (2, 7) ∷ [];
      timer_matches = [];
      ticks = 4294967290;
      timer_count = 0;
      tick_signals = 0;
      timer_signals = 0;
      tick_calls = 0;
      processing = false;
      in_callback = false;
      lock = 0;
      free = 32;
      settings = record { tasks = 3; round_robin = false; tmr_div = 10; pool = 32 };
    }

abbrev request : Service → List ℕ → Request
request s args = post_request s args

-- a post wakes the first waiter: its timeout is gone, and it joins at the head, since its priority is not the compared one
post_wakes : let k = (effect serves_all (call_of (request SemPost (0 ∷ 0 ∷ 0 ∷ 0 ∷ [])) 0 10 10) three).kernel in (k.ready ≡ replicate 10 [] ++ (0 ∷ 1 ∷ []) ∷ replicate 9 [] ++ (2 ∷ []) ∷ replicate 42 [] ++ (62 ∷ []) ∷ []) × (k.pend ≡ [] ∷ [] ∷ []) × (k.matches ≡ []) × ((task_at k 2).answered ≡ Some (plain_result SemPend (fine 0))) × ((task_at k 2).waiting ≡ No)
post_wakes = (refl, refl, refl, refl, refl)

post_wakes-cost : cost (effect serves_all (call_of (request SemPost (0 ∷ 0 ∷ 0 ∷ 0 ∷ [])) 0 10 10) three) three ≡ 7
unfolding cost
post_wakes-cost = refl

post_full : (effect serves_all (call_of (request SemPost (1 ∷ 0 ∷ 0 ∷ 0 ∷ [])) 0 10 10) three).outcome ≡ Answered (answer SemOverflow 0) None
post_full = refl

bad_option : (effect serves_all (call_of (request SemPost (0 ∷ 1 ∷ 0 ∷ 0 ∷ [])) 0 10 10) three).outcome ≡ Answered (answer OptionInvalid 0) None
bad_option = refl

no_such_object : (posted serves_all SemPost (2 ∷ 0 ∷ 0 ∷ 0 ∷ []) 10 10 three).outcome ≡ Answered (answer ObjectType 0) None
no_such_object = refl

not_served : (posted (λ s. false) QPost (0 ∷ 1 ∷ 1 ∷ 0 ∷ []) 10 10 three).outcome ≡ Answered (answer CallUnknown 0) None
not_served = refl

-- the caller waits behind a waiter of lower priority only where it has a lower one itself; its match wraps at 2^32
pend_waits : let k = (effect serves_all (call_of (request SemPend (0 ∷ 10 ∷ 0 ∷ 0 ∷ [])) 0 10 10) three).kernel in (k.pend ≡ (0 ∷ 2 ∷ []) ∷ [] ∷ []) × (k.matches ≡ (2, 7) ∷ (0, 4) ∷ []) × (pick k ≡ 1) × ((task_at k 0).waiting ≡ Obj SemPend)
pend_waits = (refl, refl, refl, refl)

pend_waits-cost : cost (effect serves_all (call_of (request SemPend (0 ∷ 10 ∷ 0 ∷ 0 ∷ [])) 0 10 10) three) three ≡ 6
unfolding cost
pend_waits-cost = refl

pend_takes : let e = effect serves_all (call_of (request SemPend (1 ∷ 0 ∷ 0 ∷ 0 ∷ [])) 0 10 10) three in (e.outcome ≡ Answered (fine 4294967294) None) × ((object_at e.kernel 1).content ≡ Count 4294967294)
pend_takes = (refl, refl)

would_block : (effect serves_all (call_of (request SemPend (0 ∷ 0 ∷ 1 ∷ 0 ∷ [])) 0 10 10) three).outcome ≡ Answered (answer WouldBlock 0) None
would_block = refl

locked : (effect serves_all (call_of (request SemPend (0 ∷ 0 ∷ 0 ∷ 0 ∷ [])) 0 10 10) (record three { lock = 1 })).outcome ≡ Answered (answer SchedLocked 0) None
locked = refl

-- a task that reads its result, and one that traps
reads : (task_at (finished 2 (effect serves_all (call_of (request SemPost (0 ∷ 0 ∷ 0 ∷ 0 ∷ [])) 0 10 10) three).kernel) 2).answered ≡ None
reads = refl

traps : let k = stopped 0 (record three { lock = 1 }) in (pick k ≡ 1) × (k.lock ≡ 0) × ((task_at k 0).alive ≡ false)
traps = (refl, refl, refl)
