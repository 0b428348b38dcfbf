-- Runs of small cases, and what they print: computed from the definitions of the machine.
use Rattle.std.specs.Prelude.{ℕ, ◌++◌, Bool, true, false, codes, decimal}
use Rattle.std.specs.Fmt.{digits}
use Rattle.std.proofs.Common.{◌≡◌, refl, List, [], ◌∷◌}
use Rattle.kern_base.specs.declared.kinds.Kind.TheVariants.{Sem, Queue, Flags, Mutex, OneShot}
use Rattle.kern_base.specs.declared.kinds.Method.TheVariants.{Direct, Deferred}
use Rattle.kern_model.specs.Services.{cost, serves_all}
use Rattle.rv32_isa.specs.Decoded.{decoded}
use Rattle.app_image.specs.Image.{ImageRecord}
use Rattle.inject_list.specs.Lists.{ListRecord}
use Rattle.inject_list.specs.declared.lists.Moment.TheVariants.{Task, Step}
use Rattle.inject_list.specs.declared.lists.Seen.TheVariants.{Obj, Ready}
use Rattle.machine_model.specs.Run.{Run, run, run_text, history}
use Rattle.machine_model.specs.Premises.{premise_lines, is_broken}

-- what both runs print, and whether a premise is broken
abbrev both_text : ImageRecord → Run → Run → List ℕ × Bool
both_text image direct deferred = (
  codes "method direct\n" ++ (history image direct ++ (codes "method deferred\n" ++ (history image deferred
      ++ (premise_lines image deferred ++ (codes "raw " ++ (decimal direct.last.s ++ (codes " " ++ (decimal deferred.last.s ++ codes "\n")))))))),
  is_broken deferred,
)

abbrev both_texts : ImageRecord → ListRecord → ℕ → List ℕ × Bool
both_texts image l n = both_text image (run serves_all Direct image l n) (run serves_all Deferred image l n)

abbrev image_0 : ImageRecord
image_0 = record { tasks = record { name = codes "a"; entry = 0; prio = 10; quanta = 0; qsize = 0; sp = 1310720; line = 0 } ∷ []; objects = record { name = codes "s"; kind = Sem; f = 0 ∷ 0 ∷ 0 ∷ 0 ∷ []; line = 0 } ∷ []; vectors = record { number = 3; level = 2; entry = 20; sp = 1306624; line = 0 } ∷ []; code = 1299 ∷ 1427 ∷ 7342227 ∷ 115 ∷ 4280283247 ∷ 1299 ∷ 1427 ∷ 1050771 ∷ 115 ∷ 32871 ∷ []; ram = []; config = record { isr_limit = 256; defer_size = 16; pool = 64; tmr_div = 10; round_robin = 1; quanta = 10; tick_prio = 1; tmr_prio = 62; tmr_sp = 1310720; insert = 0 } }

abbrev list_0 : ListRecord
list_0 = record { injections = record { moment = Task 6; vector = 3; words = 0 ∷ 0 ∷ 0 ∷ 0 ∷ []; count = 0 } ∷ []; looks = [] }

-- An interrupt wakes the waiting task: by both methods with the same history.
interrupt_wakes_by_both : both_texts image_0 list_0 11 ≡ (codes "method direct\n0 start a\n3 call a OSSemPend 0 0 0\n3 wait a OSSemPend\n3 sw a idle\n6 irq 3 2\n6 sw idle a\n6 ret a OSSemPend OS_ERR_NONE 0\n11 end\nmethod deferred\n0 start a\n3 call a OSSemPend 0 0 0\n3 wait a OSSemPend\n3 sw a idle\n6 irq 3 2\n6 sw idle a\n6 ret a OSSemPend OS_ERR_NONE 0\n11 end\nP1 held\nP2 held\nP3 held\nP4 held\nraw 22 30\n", false)
unfolding digits cost decoded
interrupt_wakes_by_both = refl

abbrev image_1 : ImageRecord
image_1 = record { tasks = record { name = codes "a"; entry = 0; prio = 10; quanta = 0; qsize = 0; sp = 1310720; line = 0 } ∷ record { name = codes "b"; entry = 0; prio = 20; quanta = 0; qsize = 0; sp = 1302528; line = 0 } ∷ record { name = codes "c"; entry = 0; prio = 30; quanta = 0; qsize = 0; sp = 1298432; line = 0 } ∷ []; objects = record { name = codes "s"; kind = Sem; f = 0 ∷ 0 ∷ 0 ∷ 0 ∷ []; line = 0 } ∷ []; vectors = record { number = 3; level = 2; entry = 12; sp = 1306624; line = 0 } ∷ []; code = 7342227 ∷ 115 ∷ 4288671855 ∷ 1050771 ∷ 115 ∷ 32871 ∷ []; ram = []; config = record { isr_limit = 256; defer_size = 16; pool = 64; tmr_div = 10; round_robin = 1; quanta = 10; tick_prio = 1; tmr_prio = 62; tmr_sp = 1310720; insert = 0 } }

abbrev list_1 : ListRecord
list_1 = record { injections = record { moment = Step 23; vector = 3; words = 0 ∷ 0 ∷ 0 ∷ 0 ∷ []; count = 0 } ∷ []; looks = [] }

-- An interrupt in the middle of a service, whose post is taken once the service has ended.
inside_a_service_deferred : run_text serves_all Deferred image_1 list_1 7 ≡ codes "0 0 start a\n1 1 call a OSSemPend 0 0 0\n7 1 wait a OSSemPend\n7 1 sw a b\n9 3 call b OSSemPend 0 0 0\n16 3 wait b OSSemPend\n16 3 sw b c\n18 5 call c OSSemPend 0 0 0\n23 5 irq 3 2\n24 5 post 3 OSSemPost 0 0 OS_ERR_NONE 0\n25 5 exit 3 ret\n29 5 wait c OSSemPend\n37 6 take OSSemPost 0 0 OS_ERR_NONE 0\n37 6 sw c a\n38 6 ret a OSSemPend OS_ERR_NONE 0\n39 7 end\n"
unfolding digits cost decoded
inside_a_service_deferred = refl

-- Under the direct method the service holds the same interrupt off.
inside_a_service_direct : run_text serves_all Direct image_1 list_1 7 ≡ codes "0 0 start a\n1 1 call a OSSemPend 0 0 0\n7 1 wait a OSSemPend\n7 1 sw a b\n9 3 call b OSSemPend 0 0 0\n16 3 wait b OSSemPend\n16 3 sw b c\n18 5 call c OSSemPend 0 0 0\n26 5 wait c OSSemPend\n26 5 sw c idle\n27 6 irq 3 2\n28 6 post 3 OSSemPost 0 0 OS_ERR_NONE 0\n29 6 exit 3 ret\n29 6 sw idle a\n30 6 ret a OSSemPend OS_ERR_NONE 0\n31 7 end\n"
unfolding digits cost decoded
inside_a_service_direct = refl

abbrev image_2 : ImageRecord
image_2 = record { tasks = record { name = codes "a"; entry = 0; prio = 10; quanta = 0; qsize = 0; sp = 1310720; line = 0 } ∷ record { name = codes "b"; entry = 0; prio = 20; quanta = 0; qsize = 0; sp = 1302528; line = 0 } ∷ record { name = codes "c"; entry = 0; prio = 30; quanta = 0; qsize = 0; sp = 1298432; line = 0 } ∷ []; objects = record { name = codes "s"; kind = Sem; f = 0 ∷ 0 ∷ 0 ∷ 0 ∷ []; line = 0 } ∷ []; vectors = record { number = 3; level = 2; entry = 12; sp = 1306624; line = 0 } ∷ []; code = 7342227 ∷ 115 ∷ 4288671855 ∷ 1050771 ∷ 115 ∷ 32871 ∷ []; ram = []; config = record { isr_limit = 256; defer_size = 16; pool = 64; tmr_div = 10; round_robin = 1; quanta = 10; tick_prio = 1; tmr_prio = 62; tmr_sp = 1310720; insert = 0 } }

abbrev list_2 : ListRecord
list_2 = record { injections = record { moment = Step 23; vector = 3; words = 0 ∷ 0 ∷ 0 ∷ 0 ∷ []; count = 0 } ∷ []; looks = record { at = 28; what = Obj (record { 0 = 0 }) } ∷ [] }

-- A look at a list between its two links: the forward chain has a task more than the backward one.
half_made_list : run_text serves_all Deferred image_2 list_2 7 ≡ codes "0 0 start a\n1 1 call a OSSemPend 0 0 0\n7 1 wait a OSSemPend\n7 1 sw a b\n9 3 call b OSSemPend 0 0 0\n16 3 wait b OSSemPend\n16 3 sw b c\n18 5 call c OSSemPend 0 0 0\n23 5 irq 3 2\n24 5 post 3 OSSemPost 0 0 OS_ERR_NONE 0\n25 5 exit 3 ret\n28 5 look s fwd 0 1 2 back 1 0\n29 5 wait c OSSemPend\n37 6 take OSSemPost 0 0 OS_ERR_NONE 0\n37 6 sw c a\n38 6 ret a OSSemPend OS_ERR_NONE 0\n39 7 end\n"
unfolding digits cost decoded
half_made_list = refl

abbrev image_3 : ImageRecord
image_3 = record { tasks = record { name = codes "a"; entry = 0; prio = 10; quanta = 0; qsize = 0; sp = 1310720; line = 0 } ∷ []; objects = record { name = codes "s"; kind = Sem; f = 0 ∷ 0 ∷ 0 ∷ 0 ∷ []; line = 0 } ∷ []; vectors = record { number = 3; level = 2; entry = 28; sp = 1306624; line = 0 } ∷ []; code = 33556627 ∷ 115 ∷ 19 ∷ 19 ∷ 34605203 ∷ 115 ∷ 4271894639 ∷ 1050771 ∷ 115 ∷ 32871 ∷ []; ram = []; config = record { isr_limit = 256; defer_size = 16; pool = 64; tmr_div = 10; round_robin = 1; quanta = 10; tick_prio = 1; tmr_prio = 62; tmr_sp = 1310720; insert = 0 } }

abbrev list_3 : ListRecord
list_3 = record { injections = record { moment = Task 2; vector = 3; words = 0 ∷ 0 ∷ 0 ∷ 0 ∷ []; count = 0 } ∷ record { moment = Task 3; vector = 3; words = 0 ∷ 0 ∷ 0 ∷ 0 ∷ []; count = 0 } ∷ record { moment = Task 4; vector = 3; words = 0 ∷ 0 ∷ 0 ∷ 0 ∷ []; count = 0 } ∷ []; looks = [] }

-- Posts wait while the scheduler is locked, which breaks a premise.
locked_scheduler : both_texts image_3 list_3 7 ≡ (codes "method direct\n0 start a\n1 call a OSSchedLock\n1 ret a OSSchedLock OS_ERR_NONE 1\n2 irq 3 2\n3 irq 3 2\n4 irq 3 2\n5 call a OSSchedUnlock\n5 ret a OSSchedUnlock OS_ERR_NONE 0\n7 end\nmethod deferred\n0 start a\n1 call a OSSchedLock\n1 ret a OSSchedLock OS_ERR_NONE 1\n2 irq 3 2\n3 irq 3 2\n4 irq 3 2\n5 call a OSSchedUnlock\n5 ret a OSSchedUnlock OS_ERR_NONE 0\n7 end\nP1 held\nP2 broken 4\nP3 held\nP4 held\nraw 20 29\n", true)
unfolding digits cost decoded
locked_scheduler = refl

abbrev image_4 : ImageRecord
image_4 = record { tasks = record { name = codes "a"; entry = 0; prio = 10; quanta = 0; qsize = 0; sp = 1310720; line = 0 } ∷ []; objects = record { name = codes "s"; kind = Sem; f = 0 ∷ 0 ∷ 0 ∷ 0 ∷ []; line = 0 } ∷ []; vectors = record { number = 3; level = 2; entry = 8; sp = 1306624; line = 0 } ∷ []; code = 19 ∷ 4292866159 ∷ 1050771 ∷ 115 ∷ 1299 ∷ 1427 ∷ 1050771 ∷ 115 ∷ 1299 ∷ 1427 ∷ 1050771 ∷ 115 ∷ 32871 ∷ []; ram = []; config = record { isr_limit = 256; defer_size = 2; pool = 64; tmr_div = 10; round_robin = 1; quanta = 10; tick_prio = 1; tmr_prio = 62; tmr_sp = 1310720; insert = 0 } }

abbrev list_4 : ListRecord
list_4 = record { injections = record { moment = Task 1; vector = 3; words = 0 ∷ 0 ∷ 0 ∷ 0 ∷ []; count = 0 } ∷ []; looks = [] }

-- A post is lost where the queue is full, which breaks a premise.
queue_full : both_texts image_4 list_4 3 ≡ (codes "method direct\n0 start a\n1 irq 3 2\n3 end\nmethod deferred\n0 start a\n1 irq 3 2\n3 end\nP1 held\nP2 held\nP3 held\nP4 broken 10\nraw 14 20\n", true)
unfolding digits cost decoded
queue_full = refl

abbrev image_5 : ImageRecord
image_5 = record { tasks = record { name = codes "a"; entry = 0; prio = 10; quanta = 0; qsize = 0; sp = 1310720; line = 0 } ∷ record { name = codes "b"; entry = 12; prio = 10; quanta = 0; qsize = 0; sp = 1302528; line = 0 } ∷ record { name = codes "c"; entry = 12; prio = 10; quanta = 0; qsize = 0; sp = 1298432; line = 0 } ∷ []; objects = record { name = codes "s"; kind = Sem; f = 0 ∷ 0 ∷ 0 ∷ 0 ∷ []; line = 0 } ∷ []; vectors = record { number = 3; level = 2; entry = 16; sp = 1306624; line = 0 } ∷ []; code = 7342227 ∷ 115 ∷ 4288671855 ∷ 111 ∷ 1050771 ∷ 115 ∷ 32871 ∷ []; ram = []; config = record { isr_limit = 256; defer_size = 16; pool = 64; tmr_div = 10; round_robin = 1; quanta = 10; tick_prio = 1; tmr_prio = 62; tmr_sp = 1310720; insert = 0 } }

abbrev list_5 : ListRecord
list_5 = record { injections = record { moment = Task 3; vector = 3; words = 0 ∷ 0 ∷ 0 ∷ 0 ∷ []; count = 0 } ∷ []; looks = record { at = 20; what = Ready (record { 0 = 10 }) } ∷ [] }

-- A task that the handler readies at the interrupted priority goes to the tail of its list.
saved_priority : run_text serves_all Deferred image_5 list_5 4 ≡ codes "0 0 start a\n1 1 call a OSSemPend 0 0 0\n7 1 wait a OSSemPend\n7 1 sw a b\n9 3 irq 3 2\n10 3 post 3 OSSemPost 0 0 OS_ERR_NONE 0\n11 3 exit 3 ret\n19 3 take OSSemPost 0 0 OS_ERR_NONE 0\n20 3 look 10 fwd 1 2 0 back 0 2 1\n21 4 end\n"
unfolding digits cost decoded
saved_priority = refl

abbrev image_6 : ImageRecord
image_6 = record { tasks = record { name = codes "a"; entry = 0; prio = 10; quanta = 0; qsize = 0; sp = 1310720; line = 0 } ∷ record { name = codes "b"; entry = 12; prio = 10; quanta = 0; qsize = 0; sp = 1302528; line = 0 } ∷ record { name = codes "c"; entry = 12; prio = 10; quanta = 0; qsize = 0; sp = 1298432; line = 0 } ∷ []; objects = record { name = codes "s"; kind = Sem; f = 0 ∷ 0 ∷ 0 ∷ 0 ∷ []; line = 0 } ∷ []; vectors = record { number = 3; level = 2; entry = 16; sp = 1306624; line = 0 } ∷ []; code = 7342227 ∷ 115 ∷ 4288671855 ∷ 111 ∷ 1050771 ∷ 115 ∷ 32871 ∷ []; ram = []; config = record { isr_limit = 256; defer_size = 16; pool = 64; tmr_div = 10; round_robin = 1; quanta = 10; tick_prio = 1; tmr_prio = 62; tmr_sp = 1310720; insert = 1 } }

abbrev list_6 : ListRecord
list_6 = record { injections = record { moment = Task 3; vector = 3; words = 0 ∷ 0 ∷ 0 ∷ 0 ∷ []; count = 0 } ∷ []; looks = record { at = 20; what = Ready (record { 0 = 10 }) } ∷ [] }

-- With the literal insertion rule it goes to the head, and the histories differ.
literal_insertion : both_texts image_6 list_6 4 ≡ (codes "method direct\n0 start a\n1 call a OSSemPend 0 0 0\n1 wait a OSSemPend\n1 sw a b\n3 irq 3 2\n4 end\nmethod deferred\n0 start a\n1 call a OSSemPend 0 0 0\n1 wait a OSSemPend\n1 sw a b\n3 irq 3 2\n3 sw b a\n3 ret a OSSemPend OS_ERR_NONE 0\n4 end\nP1 held\nP2 held\nP3 held\nP4 held\nP5 broken 19\nraw 13 21\n", true)
unfolding digits cost decoded
literal_insertion = refl

abbrev image_7 : ImageRecord
image_7 = record { tasks = record { name = codes "a"; entry = 0; prio = 10; quanta = 0; qsize = 0; sp = 1310720; line = 0 } ∷ []; objects = record { name = codes "s"; kind = Sem; f = 0 ∷ 0 ∷ 0 ∷ 0 ∷ []; line = 0 } ∷ []; vectors = record { number = 3; level = 2; entry = 8; sp = 1306624; line = 0 } ∷ []; code = 19 ∷ 4292866159 ∷ 1050771 ∷ 115 ∷ 332387 ∷ 32871 ∷ []; ram = []; config = record { isr_limit = 256; defer_size = 16; pool = 64; tmr_div = 10; round_robin = 1; quanta = 10; tick_prio = 1; tmr_prio = 62; tmr_sp = 1310720; insert = 0 } }

abbrev list_7 : ListRecord
list_7 = record { injections = record { moment = Task 1; vector = 3; words = 0 ∷ 0 ∷ 0 ∷ 0 ∷ []; count = 0 } ∷ []; looks = [] }

-- Interrupt code that reads the answer of its post breaks a premise.
answer_read : both_texts image_7 list_7 2 ≡ (codes "method direct\n0 start a\n1 irq 3 2\n2 end\nmethod deferred\n0 start a\n1 irq 3 2\n2 end\nP1 held\nP2 held\nP3 broken 3\nP4 held\nraw 6 9\n", true)
unfolding digits cost decoded
answer_read = refl

abbrev image_8 : ImageRecord
image_8 = record { tasks = record { name = codes "a"; entry = 0; prio = 10; quanta = 0; qsize = 0; sp = 1310720; line = 0 } ∷ []; objects = record { name = codes "s"; kind = Sem; f = 0 ∷ 0 ∷ 0 ∷ 0 ∷ []; line = 0 } ∷ []; vectors = record { number = 3; level = 2; entry = 4; sp = 1306624; line = 0 } ∷ record { number = 4; level = 3; entry = 16; sp = 1302528; line = 0 } ∷ []; code = 111 ∷ 1050771 ∷ 115 ∷ 32871 ∷ 1050771 ∷ 115 ∷ 1299 ∷ 1427 ∷ 1050771 ∷ 115 ∷ 32871 ∷ []; ram = []; config = record { isr_limit = 256; defer_size = 2; pool = 64; tmr_div = 10; round_robin = 1; quanta = 10; tick_prio = 1; tmr_prio = 62; tmr_sp = 1310720; insert = 0 } }

abbrev list_8 : ListRecord
list_8 = record { injections = record { moment = Task 1; vector = 3; words = 0 ∷ 0 ∷ 0 ∷ 0 ∷ []; count = 0 } ∷ record { moment = Step 5; vector = 4; words = 0 ∷ 0 ∷ 0 ∷ 0 ∷ []; count = 0 } ∷ []; looks = [] }

-- A post keeps its place in the queue until it has been performed.
post_keeps_its_place : run_text serves_all Deferred image_8 list_8 2 ≡ codes "0 0 start a\n1 1 irq 3 2\n2 1 post 3 OSSemPost 0 0 OS_ERR_NONE 0\n3 1 exit 3 ret\n5 1 irq 4 3\n6 1 post 4 OSSemPost 0 0 OS_ERR_NONE 0\n10 1 post 4 OSSemPost 0 0 OS_ERR_INT_Q_FULL 0\n11 1 exit 4 ret\n13 1 take OSSemPost 0 0 OS_ERR_NONE 1\n16 1 take OSSemPost 0 0 OS_ERR_NONE 2\n18 2 end\n"
unfolding digits cost decoded
post_keeps_its_place = refl

abbrev image_9 : ImageRecord
image_9 = record { tasks = record { name = codes "a"; entry = 0; prio = 10; quanta = 0; qsize = 0; sp = 1310720; line = 0 } ∷ record { name = codes "b"; entry = 4; prio = 5; quanta = 0; qsize = 0; sp = 1302528; line = 0 } ∷ []; objects = record { name = codes "s"; kind = Sem; f = 0 ∷ 0 ∷ 0 ∷ 0 ∷ []; line = 0 } ∷ []; vectors = record { number = 1; level = 1; entry = 16; sp = 1298432; line = 0 } ∷ record { number = 2; level = 2; entry = 16; sp = 1294336; line = 0 } ∷ record { number = 3; level = 3; entry = 28; sp = 1290240; line = 0 } ∷ []; code = 111 ∷ 7342227 ∷ 115 ∷ 4288671855 ∷ 19 ∷ 19 ∷ 32871 ∷ 1050771 ∷ 115 ∷ 32871 ∷ []; ram = []; config = record { isr_limit = 256; defer_size = 16; pool = 64; tmr_div = 10; round_robin = 1; quanta = 10; tick_prio = 1; tmr_prio = 62; tmr_sp = 1310720; insert = 0 } }

abbrev list_9 : ListRecord
list_9 = record { injections = record { moment = Step 9; vector = 1; words = 0 ∷ 0 ∷ 0 ∷ 0 ∷ []; count = 0 } ∷ record { moment = Step 10; vector = 3; words = 0 ∷ 0 ∷ 0 ∷ 0 ∷ []; count = 0 } ∷ record { moment = Step 11; vector = 2; words = 0 ∷ 0 ∷ 0 ∷ 0 ∷ []; count = 0 } ∷ []; looks = [] }

-- Frames nest by their levels.
nested_frames : run_text serves_all Direct image_9 list_9 4 ≡ codes "0 0 start b\n1 1 call b OSSemPend 0 0 0\n7 1 wait b OSSemPend\n7 1 sw b a\n9 3 irq 1 1\n10 3 irq 3 3\n11 3 post 3 OSSemPost 0 0 OS_ERR_NONE 0\n12 3 exit 3 ret\n13 3 irq 2 2\n15 3 exit 2 ret\n17 3 exit 1 ret\n17 3 sw a b\n18 3 ret b OSSemPend OS_ERR_NONE 0\n19 4 end\n"
unfolding digits cost decoded
nested_frames = refl

abbrev image_10 : ImageRecord
image_10 = record { tasks = record { name = codes "a"; entry = 0; prio = 10; quanta = 0; qsize = 0; sp = 1310720; line = 0 } ∷ []; objects = record { name = codes "u"; kind = Sem; f = 1 ∷ 0 ∷ 0 ∷ 0 ∷ []; line = 0 } ∷ record { name = codes "w"; kind = Sem; f = 0 ∷ 0 ∷ 0 ∷ 0 ∷ []; line = 0 } ∷ record { name = codes "q"; kind = Queue; f = 4 ∷ 0 ∷ 0 ∷ 0 ∷ []; line = 0 } ∷ []; vectors = record { number = 3; level = 2; entry = 68; sp = 1306624; line = 0 } ∷ []; code = 2098451 ∷ 80741779 ∷ 4195859 ∷ 2099347 ∷ 115 ∷ 1049911 ∷ 328979 ∷ 3147155 ∷ 1555 ∷ 13633683 ∷ 115 ∷ 1049911 ∷ 328979 ∷ 3147155 ∷ 13633683 ∷ 115 ∷ 4229951599 ∷ 2099347 ∷ 115 ∷ 32871 ∷ []; ram = 0 ∷ 0 ∷ 0 ∷ 0 ∷ 1 ∷ 0 ∷ 0 ∷ 0 ∷ 2 ∷ 0 ∷ 0 ∷ 0 ∷ []; config = record { isr_limit = 256; defer_size = 16; pool = 64; tmr_div = 10; round_robin = 1; quanta = 10; tick_prio = 1; tmr_prio = 62; tmr_sp = 1310720; insert = 0 } }

abbrev list_10 : ListRecord
list_10 = record { injections = record { moment = Task 17; vector = 3; words = 2 ∷ 9 ∷ 1 ∷ 0 ∷ []; count = 3 } ∷ []; looks = [] }

-- A task waits for several objects, and the table in memory tells what was taken.
several_objects : run_text serves_all Direct image_10 list_10 18 ≡ codes "0 0 start a\n4 4 call a OSQPost 2 77 4 0\n6 4 ret a OSQPost OS_ERR_NONE 0\n12 10 call a OSPendMulti 1048576 3 0 0\n17 10 ret a OSPendMulti OS_ERR_NONE 2 tab 1:0:0 0 1:77:4\n22 15 call a OSPendMulti 1048576 3 0 0\n35 15 wait a OSPendMulti\n35 15 sw a idle\n37 17 irq 3 2\n38 17 post 3 OSQPost 2 9 1 0 OS_ERR_NONE 0\n39 17 exit 3 ret\n39 17 sw idle a\n40 17 ret a OSPendMulti OS_ERR_NONE 1 tab 0 0 1:9:1\n41 18 end\n"
unfolding digits cost decoded
several_objects = refl

abbrev image_11 : ImageRecord
image_11 = record { tasks = record { name = codes "a"; entry = 0; prio = 5; quanta = 0; qsize = 0; sp = 1310720; line = 0 } ∷ record { name = codes "b"; entry = 0; prio = 6; quanta = 0; qsize = 0; sp = 1302528; line = 0 } ∷ record { name = codes "c"; entry = 20; prio = 20; quanta = 0; qsize = 0; sp = 1298432; line = 0 } ∷ []; objects = record { name = codes "f"; kind = Flags; f = 0 ∷ 0 ∷ 0 ∷ 0 ∷ []; line = 0 } ∷ []; vectors = record { number = 3; level = 2; entry = 36; sp = 1306624; line = 0 } ∷ []; code = 1050003 ∷ 5244563 ∷ 9439379 ∷ 115 ∷ 4280283247 ∷ 3147155 ∷ 3147923 ∷ 115 ∷ 111 ∷ 3147923 ∷ 115 ∷ 32871 ∷ []; ram = []; config = record { isr_limit = 256; defer_size = 16; pool = 64; tmr_div = 10; round_robin = 1; quanta = 10; tick_prio = 1; tmr_prio = 62; tmr_sp = 1310720; insert = 0 } }

abbrev list_11 : ListRecord
list_11 = record { injections = record { moment = Task 11; vector = 3; words = 0 ∷ 0 ∷ 0 ∷ 0 ∷ []; count = 0 } ∷ []; looks = [] }

-- Event flags are consumed when the waiter acts again; a post between sees them still set.
flags_consumed : run_text serves_all Direct image_11 list_11 18 ≡ codes "0 0 start a\n3 3 call a OSFlagPend 0 1 0 5\n9 3 wait a OSFlagPend\n9 3 sw a b\n13 7 call b OSFlagPend 0 1 0 5\n20 7 wait b OSFlagPend\n20 7 sw b c\n23 10 call c OSFlagPost 0 3 0\n37 10 ret c OSFlagPost OS_ERR_NONE 3\n37 10 sw c a\n38 11 irq 3 2\n39 11 post 3 OSFlagPost 0 0 0 OS_ERR_NONE 3\n40 11 exit 3 ret\n41 11 ret a OSFlagPend OS_ERR_NONE 1\n46 16 call a OSFlagPend 0 1 0 5\n52 16 wait a OSFlagPend\n52 16 sw a b\n53 17 ret b OSFlagPend OS_ERR_NONE 1\n54 18 end\n"
unfolding digits cost decoded
flags_consumed = refl

abbrev image_12 : ImageRecord
image_12 = record { tasks = record { name = codes "h"; entry = 0; prio = 5; quanta = 0; qsize = 0; sp = 1310720; line = 0 } ∷ record { name = codes "l"; entry = 36; prio = 20; quanta = 0; qsize = 0; sp = 1302528; line = 0 } ∷ []; objects = record { name = codes "s"; kind = Sem; f = 0 ∷ 0 ∷ 0 ∷ 0 ∷ []; line = 0 } ∷ record { name = codes "m"; kind = Mutex; f = 0 ∷ 0 ∷ 0 ∷ 0 ∷ []; line = 0 } ∷ []; vectors = record { number = 3; level = 2; entry = 116; sp = 1306624; line = 0 } ∷ []; code = 1299 ∷ 1427 ∷ 7342227 ∷ 115 ∷ 1049875 ∷ 1050003 ∷ 10487955 ∷ 115 ∷ 4263506031 ∷ 1049875 ∷ 10487955 ∷ 115 ∷ 1049875 ∷ 1427 ∷ 10487955 ∷ 115 ∷ 1299 ∷ 1427 ∷ 1050771 ∷ 115 ∷ 1049875 ∷ 1427 ∷ 14682259 ∷ 115 ∷ 1049875 ∷ 1427 ∷ 14682259 ∷ 115 ∷ 111 ∷ 6293651 ∷ 115 ∷ 32871 ∷ []; ram = []; config = record { isr_limit = 256; defer_size = 16; pool = 64; tmr_div = 10; round_robin = 1; quanta = 10; tick_prio = 1; tmr_prio = 62; tmr_sp = 1310720; insert = 0 } }

abbrev list_12 : ListRecord
list_12 = record { injections = record { moment = Task 24; vector = 3; words = 0 ∷ 0 ∷ 0 ∷ 0 ∷ []; count = 0 } ∷ []; looks = record { at = 90; what = Ready (record { 0 = 20 }) } ∷ [] }

-- A timeout ends the wait for a mutex, and its owner loses the inherited priority.
timeout_on_a_mutex : run_text serves_all Direct image_12 list_12 36 ≡ codes "0 0 start h\n3 3 call h OSSemPend 0 0 0\n9 3 wait h OSSemPend\n9 3 sw h l\n12 6 call l OSMutexPend 1 0 0\n14 6 ret l OSMutexPend OS_ERR_NONE 1\n18 10 call l OSMutexPend 1 0 0\n20 10 ret l OSMutexPend OS_ERR_MUTEX_OWNER 2\n24 14 call l OSSemPost 0 0\n31 14 ret l OSSemPost OS_ERR_NONE 0\n31 14 sw l h\n32 15 ret h OSSemPend OS_ERR_NONE 0\n36 19 call h OSMutexPend 1 1 0\n47 19 wait h OSMutexPend\n47 19 sw h l\n51 23 call l OSMutexPost 1 0\n53 23 ret l OSMutexPost OS_ERR_MUTEX_NESTING 1\n54 24 irq 3 2\n55 24 post 3 OSTimeTick OS_ERR_NONE 0\n56 24 exit 3 ret\n56 24 sw l tick\n71 24 tick 1\n71 24 sw tick h\n72 25 ret h OSMutexPend OS_ERR_TIMEOUT 0\n77 30 call h OSSemPend 0 0 0\n83 30 wait h OSSemPend\n83 30 sw h l\n87 34 call l OSMutexPost 1 0\n89 34 ret l OSMutexPost OS_ERR_NONE 0\n90 35 look 20 fwd 1 back 1\n91 36 end\n"
unfolding digits cost decoded
timeout_on_a_mutex = refl

abbrev image_13 : ImageRecord
image_13 = record { tasks = record { name = codes "a"; entry = 0; prio = 10; quanta = 0; qsize = 0; sp = 1310720; line = 0 } ∷ []; objects = record { name = codes "k"; kind = OneShot; f = 1 ∷ 0 ∷ 12 ∷ 55 ∷ []; line = 0 } ∷ []; vectors = record { number = 3; level = 2; entry = 28; sp = 1306624; line = 0 } ∷ []; code = 35653779 ∷ 115 ∷ 111 ∷ 1049271 ∷ 164499 ∷ 11706403 ∷ 32871 ∷ 6293651 ∷ 115 ∷ 32871 ∷ []; ram = 0 ∷ []; config = record { isr_limit = 256; defer_size = 16; pool = 64; tmr_div = 1; round_robin = 1; quanta = 10; tick_prio = 1; tmr_prio = 5; tmr_sp = 1310720; insert = 0 } }

abbrev list_13 : ListRecord
list_13 = record { injections = record { moment = Task 3; vector = 3; words = 0 ∷ 0 ∷ 0 ∷ 0 ∷ []; count = 0 } ∷ []; looks = [] }

-- A timer fires, and its callback stores its argument under the lock.
timer_callback : run_text serves_all Direct image_13 list_13 11 ≡ codes "0 0 start a\n1 1 call a OSTmrStart 0\n3 1 ret a OSTmrStart OS_ERR_NONE 0\n5 3 irq 3 2\n6 3 post 3 OSTimeTick OS_ERR_NONE 0\n7 3 exit 3 ret\n7 3 sw a tick\n12 3 tick 1\n12 3 sw tick tmr\n15 4 tmr 1\n18 5 fire k\n21 8 st tmr 1048576 4 55\n27 10 sw tmr a\n28 11 end\n"
unfolding digits cost decoded
timer_callback = refl

abbrev image_14 : ImageRecord
image_14 = record { tasks = record { name = codes "a"; entry = 0; prio = 5; quanta = 0; qsize = 0; sp = 1310720; line = 0 } ∷ record { name = codes "b"; entry = 28; prio = 10; quanta = 0; qsize = 0; sp = 1302528; line = 0 } ∷ record { name = codes "c"; entry = 68; prio = 20; quanta = 0; qsize = 0; sp = 1298432; line = 0 } ∷ []; objects = record { name = codes "s"; kind = Sem; f = 0 ∷ 0 ∷ 0 ∷ 0 ∷ []; line = 0 } ∷ record { name = codes "u"; kind = Sem; f = 0 ∷ 0 ∷ 0 ∷ 0 ∷ []; line = 0 } ∷ record { name = codes "m"; kind = Mutex; f = 0 ∷ 0 ∷ 0 ∷ 0 ∷ []; line = 0 } ∷ record { name = codes "k"; kind = Mutex; f = 0 ∷ 0 ∷ 0 ∷ 0 ∷ []; line = 0 } ∷ []; vectors = []; code = 1299 ∷ 7342227 ∷ 115 ∷ 3147027 ∷ 10487955 ∷ 115 ∷ 111 ∷ 1049875 ∷ 7342227 ∷ 115 ∷ 3147027 ∷ 10487955 ∷ 115 ∷ 2098451 ∷ 10487955 ∷ 115 ∷ 4255117423 ∷ 2098451 ∷ 10487955 ∷ 115 ∷ 1049875 ∷ 1427 ∷ 1050771 ∷ 115 ∷ 1299 ∷ 1050771 ∷ 115 ∷ 4208980079 ∷ []; ram = []; config = record { isr_limit = 256; defer_size = 16; pool = 64; tmr_div = 10; round_robin = 1; quanta = 10; tick_prio = 1; tmr_prio = 62; tmr_sp = 1310720; insert = 0 } }

abbrev list_14 : ListRecord
list_14 = record { injections = []; looks = record { at = 83; what = Ready (record { 0 = 5 }) } ∷ [] }

-- Priority inheritance along a chain of mutexes.
chain_of_mutexes : run_text serves_all Direct image_14 list_14 28 ≡ codes "0 0 start a\n2 2 call a OSSemPend 0 0 0\n8 2 wait a OSSemPend\n8 2 sw a b\n11 5 call b OSSemPend 1 0 0\n17 5 wait b OSSemPend\n17 5 sw b c\n20 8 call c OSMutexPend 2 0 0\n22 8 ret c OSMutexPend OS_ERR_NONE 1\n26 12 call c OSSemPost 1 0\n33 12 ret c OSSemPost OS_ERR_NONE 0\n33 12 sw c b\n34 13 ret b OSSemPend OS_ERR_NONE 0\n37 16 call b OSMutexPend 3 0 0\n39 16 ret b OSMutexPend OS_ERR_NONE 1\n42 19 call b OSMutexPend 2 1 0\n53 19 wait b OSMutexPend\n53 19 sw b c\n56 22 call c OSSemPost 0 0\n63 22 ret c OSSemPost OS_ERR_NONE 0\n63 22 sw c a\n64 23 ret a OSSemPend OS_ERR_NONE 0\n67 26 call a OSMutexPend 3 0 0\n82 26 wait a OSMutexPend\n82 26 sw a c\n83 27 look 5 fwd 2 back 2\n84 28 end\n"
unfolding digits cost decoded
chain_of_mutexes = refl
