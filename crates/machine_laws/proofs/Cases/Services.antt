-- Each service, and each unit of the tick task and of the timer task, in a worked run by the definitions of the machine. A printed line
-- begins with the raw steps and the task steps that are done before it: from the `call` line of a service to its `ret`, `wait` or `gone`
-- line there is one raw step for each micro-step, which is its cost. Looks show the lists that have changed behind it, forward and backward.
use Rattle.std.specs.Prelude.{codes}
use Rattle.std.specs.Fmt.{digits}
use Rattle.std.proofs.Common.{◌≡◌, refl, [], ◌∷◌}
use Rattle.kern_base.specs.declared.kinds.Kind.TheVariants.{Sem, Queue, Flags, Mutex, OneShot, Periodic}
use Rattle.kern_base.specs.declared.kinds.Method.TheVariants.{Direct, Deferred}
use Rattle.kern_model.specs.Services.{cost, serves_all}
use Rattle.rv32_isa.specs.Decoded.{decoded}
use Rattle.app_image.specs.Image.{ImageRecord}
use Rattle.inject_list.specs.Lists.{ListRecord}
use Rattle.inject_list.specs.declared.lists.Moment.TheVariants.{Task}
use Rattle.inject_list.specs.declared.lists.Seen.TheVariants.{Obj, Ready}
use Rattle.machine_model.specs.Run.{run_text}

abbrev image_0 : ImageRecord
image_0 = record { tasks = record { name = codes "a"; entry = 0; prio = 10; quanta = 0; qsize = 0; sp = 1310720; line = 0 } ∷ record { name = codes "b"; entry = 40; prio = 20; quanta = 0; qsize = 0; sp = 1306624; line = 0 } ∷ record { name = codes "d"; entry = 116; prio = 30; quanta = 0; qsize = 0; sp = 1302528; line = 0 } ∷ []; objects = record { name = codes "s"; kind = Sem; f = 0 ∷ 0 ∷ 0 ∷ 0 ∷ []; line = 0 } ∷ record { name = codes "t"; kind = Sem; f = 0 ∷ 0 ∷ 0 ∷ 0 ∷ []; line = 0 } ∷ []; vectors = []; code = 1299 ∷ 1427 ∷ 1555 ∷ 7342227 ∷ 115 ∷ 1299 ∷ 1427 ∷ 1555 ∷ 7342227 ∷ 115 ∷ 1299 ∷ 1427 ∷ 1555 ∷ 7342227 ∷ 115 ∷ 1299 ∷ 1427 ∷ 1555 ∷ 7342227 ∷ 115 ∷ 1299 ∷ 1427 ∷ 1555 ∷ 7342227 ∷ 115 ∷ 4293920019 ∷ 29362323 ∷ 115 ∷ 4284477551 ∷ 1299 ∷ 1427 ∷ 1050771 ∷ 115 ∷ 1299 ∷ 2098579 ∷ 1050771 ∷ 115 ∷ 1299 ∷ 1427 ∷ 15730835 ∷ 115 ∷ 1299 ∷ 1050003 ∷ 15730835 ∷ 115 ∷ 1049875 ∷ 1427 ∷ 1050771 ∷ 115 ∷ 1049875 ∷ 1427 ∷ 1555 ∷ 7342227 ∷ 115 ∷ 1049875 ∷ 1427 ∷ 1050131 ∷ 7342227 ∷ 115 ∷ 1299 ∷ 1050003 ∷ 22022291 ∷ 115 ∷ 4137676911 ∷ []; ram = []; config = record { isr_limit = 256; defer_size = 16; pool = 64; tmr_div = 10; round_robin = 1; quanta = 10; tick_prio = 1; tmr_prio = 62; tmr_sp = 1310720; insert = 0 } }

abbrev list_0 : ListRecord
list_0 = record { injections = []; looks = record { at = 1; what = Obj (record { 0 = 0 }) } ∷ record { at = 1; what = Ready (record { 0 = 20 }) } ∷ record { at = 1; what = Ready (record { 0 = 30 }) } ∷ record { at = 11; what = Obj (record { 0 = 0 }) } ∷ record { at = 23; what = Obj (record { 0 = 0 }) } ∷ record { at = 23; what = Ready (record { 0 = 20 }) } ∷ record { at = 34; what = Obj (record { 0 = 0 }) } ∷ record { at = 46; what = Obj (record { 0 = 0 }) } ∷ record { at = 62; what = Obj (record { 0 = 0 }) } ∷ record { at = 62; what = Ready (record { 0 = 20 }) } ∷ record { at = 74; what = Obj (record { 0 = 0 }) } ∷ record { at = 87; what = Obj (record { 0 = 0 }) } ∷ record { at = 87; what = Ready (record { 0 = 20 }) } ∷ record { at = 98; what = Obj (record { 0 = 0 }) } ∷ record { at = 110; what = Obj (record { 0 = 0 }) } ∷ record { at = 126; what = Obj (record { 0 = 0 }) } ∷ record { at = 126; what = Ready (record { 0 = 20 }) } ∷ record { at = 138; what = Obj (record { 0 = 0 }) } ∷ record { at = 151; what = Obj (record { 0 = 0 }) } ∷ record { at = 151; what = Ready (record { 0 = 20 }) } ∷ record { at = 187; what = Obj (record { 0 = 0 }) } ∷ record { at = 187; what = Ready (record { 0 = 20 }) } ∷ record { at = 203; what = Ready (record { 0 = 20 }) } ∷ record { at = 211; what = Ready (record { 0 = 30 }) } ∷ [] }

-- A post wakes the first waiter of a semaphore, or all of them, an abort the first or all, a deletion all; where nobody waits a post
-- counts, and a pend takes from the count.
semaphores : run_text serves_all Direct image_0 list_0 93 ≡ codes "0 0 start a\n1 1 look s fwd back\n1 1 look 20 fwd 1 back 1\n1 1 look 30 fwd 2 back 2\n4 4 call a OSSemPend 0 0 0\n10 4 wait a OSSemPend\n10 4 sw a b\n11 5 look s fwd 0 back 0\n15 9 call b OSSemPend 0 0 0\n22 9 wait b OSSemPend\n22 9 sw b d\n23 10 look s fwd 0 1 back 1 0\n23 10 look 20 fwd back\n26 13 call d OSSemPost 0 0\n33 13 ret d OSSemPost OS_ERR_NONE 0\n33 13 sw d a\n34 14 look s fwd 1 back 1\n34 14 ret a OSSemPend OS_ERR_NONE 0\n39 19 call a OSSemPend 0 0 0\n45 19 wait a OSSemPend\n45 19 sw a d\n46 20 look s fwd 0 1 back 1 0\n49 23 call d OSSemPost 0 2\n61 23 ret d OSSemPost OS_ERR_NONE 0\n61 23 sw d a\n62 24 look s fwd back\n62 24 look 20 fwd 1 back 1\n62 24 ret a OSSemPend OS_ERR_NONE 0\n67 29 call a OSSemPend 0 0 0\n73 29 wait a OSSemPend\n73 29 sw a b\n74 30 look s fwd 0 back 0\n74 30 ret b OSSemPend OS_ERR_NONE 0\n79 35 call b OSSemPend 0 0 0\n86 35 wait b OSSemPend\n86 35 sw b d\n87 36 look s fwd 0 1 back 1 0\n87 36 look 20 fwd back\n90 39 call d OSSemPendAbort 0 0\n97 39 ret d OSSemPendAbort OS_ERR_NONE 1\n97 39 sw d a\n98 40 look s fwd 1 back 1\n98 40 ret a OSSemPend OS_ERR_PEND_ABORT 0\n103 45 call a OSSemPend 0 0 0\n109 45 wait a OSSemPend\n109 45 sw a d\n110 46 look s fwd 0 1 back 1 0\n113 49 call d OSSemPendAbort 0 1\n125 49 ret d OSSemPendAbort OS_ERR_NONE 2\n125 49 sw d a\n126 50 look s fwd back\n126 50 look 20 fwd 1 back 1\n126 50 ret a OSSemPend OS_ERR_PEND_ABORT 0\n131 55 call a OSSemPend 0 0 0\n137 55 wait a OSSemPend\n137 55 sw a b\n138 56 look s fwd 0 back 0\n138 56 ret b OSSemPend OS_ERR_PEND_ABORT 0\n143 61 call b OSSemPend 0 0 0\n150 61 wait b OSSemPend\n150 61 sw b d\n151 62 look s fwd 0 1 back 1 0\n151 62 look 20 fwd back\n154 65 call d OSSemPost 1 0\n156 65 ret d OSSemPost OS_ERR_NONE 1\n161 70 call d OSSemPend 1 0 0\n163 70 ret d OSSemPend OS_ERR_NONE 0\n168 75 call d OSSemPend 1 0 1\n170 75 ret d OSSemPend OS_ERR_PEND_WOULD_BLOCK 0\n174 79 call d OSSemDel 0 1\n186 79 ret d OSSemDel OS_ERR_NONE 2\n186 79 sw d a\n187 80 look s fwd back\n187 80 look 20 fwd 1 back 1\n187 80 ret a OSSemPend OS_ERR_OBJ_DEL 0\n190 83 call a OSTaskSuspend 4294967295\n194 83 wait a OSTaskSuspend\n194 83 sw a b\n195 84 ret b OSSemPend OS_ERR_OBJ_DEL 0\n198 87 call b OSTaskSuspend 4294967295\n202 87 wait b OSTaskSuspend\n202 87 sw b d\n203 88 look 20 fwd back\n206 91 call d OSTaskSuspend 4294967295\n210 91 wait d OSTaskSuspend\n210 91 sw d idle\n211 92 look 30 fwd back\n212 93 end\n"
unfolding digits cost decoded
semaphores = refl

abbrev image_1 : ImageRecord
image_1 = record { tasks = record { name = codes "a"; entry = 0; prio = 10; quanta = 0; qsize = 0; sp = 1310720; line = 0 } ∷ record { name = codes "b"; entry = 40; prio = 20; quanta = 0; qsize = 0; sp = 1306624; line = 0 } ∷ record { name = codes "d"; entry = 116; prio = 30; quanta = 0; qsize = 0; sp = 1302528; line = 0 } ∷ []; objects = record { name = codes "q"; kind = Queue; f = 2 ∷ 0 ∷ 0 ∷ 0 ∷ []; line = 0 } ∷ []; vectors = []; code = 1299 ∷ 1427 ∷ 1555 ∷ 8390803 ∷ 115 ∷ 1299 ∷ 1427 ∷ 1555 ∷ 8390803 ∷ 115 ∷ 1299 ∷ 1427 ∷ 1555 ∷ 8390803 ∷ 115 ∷ 1299 ∷ 1427 ∷ 1555 ∷ 8390803 ∷ 115 ∷ 1299 ∷ 1427 ∷ 1555 ∷ 8390803 ∷ 115 ∷ 4293920019 ∷ 29362323 ∷ 115 ∷ 4284477551 ∷ 1299 ∷ 104859027 ∷ 4195859 ∷ 1683 ∷ 2099347 ∷ 115 ∷ 1299 ∷ 105907603 ∷ 8390163 ∷ 2098835 ∷ 2099347 ∷ 115 ∷ 1299 ∷ 1427 ∷ 16779411 ∷ 115 ∷ 1299 ∷ 1050003 ∷ 16779411 ∷ 115 ∷ 1299 ∷ 1050003 ∷ 23070867 ∷ 115 ∷ 4179619951 ∷ []; ram = []; config = record { isr_limit = 256; defer_size = 16; pool = 64; tmr_div = 10; round_robin = 1; quanta = 10; tick_prio = 1; tmr_prio = 62; tmr_sp = 1310720; insert = 0 } }

abbrev list_1 : ListRecord
list_1 = record { injections = []; looks = record { at = 1; what = Obj (record { 0 = 0 }) } ∷ record { at = 1; what = Ready (record { 0 = 20 }) } ∷ record { at = 1; what = Ready (record { 0 = 30 }) } ∷ record { at = 11; what = Obj (record { 0 = 0 }) } ∷ record { at = 23; what = Obj (record { 0 = 0 }) } ∷ record { at = 23; what = Ready (record { 0 = 20 }) } ∷ record { at = 36; what = Obj (record { 0 = 0 }) } ∷ record { at = 48; what = Obj (record { 0 = 0 }) } ∷ record { at = 66; what = Obj (record { 0 = 0 }) } ∷ record { at = 66; what = Ready (record { 0 = 20 }) } ∷ record { at = 78; what = Obj (record { 0 = 0 }) } ∷ record { at = 91; what = Obj (record { 0 = 0 }) } ∷ record { at = 91; what = Ready (record { 0 = 20 }) } ∷ record { at = 102; what = Obj (record { 0 = 0 }) } ∷ record { at = 114; what = Obj (record { 0 = 0 }) } ∷ record { at = 130; what = Obj (record { 0 = 0 }) } ∷ record { at = 130; what = Ready (record { 0 = 20 }) } ∷ record { at = 142; what = Obj (record { 0 = 0 }) } ∷ record { at = 155; what = Obj (record { 0 = 0 }) } ∷ record { at = 155; what = Ready (record { 0 = 20 }) } ∷ record { at = 171; what = Obj (record { 0 = 0 }) } ∷ record { at = 171; what = Ready (record { 0 = 20 }) } ∷ record { at = 187; what = Ready (record { 0 = 20 }) } ∷ record { at = 195; what = Ready (record { 0 = 30 }) } ∷ [] }

-- A message wakes the first waiter of a queue, or all of them, with its address and size; an abort wakes the first or all, a
-- deletion all.
queue_waiters : run_text serves_all Direct image_1 list_1 83 ≡ codes "0 0 start a\n1 1 look q fwd back\n1 1 look 20 fwd 1 back 1\n1 1 look 30 fwd 2 back 2\n4 4 call a OSQPend 0 0 0\n10 4 wait a OSQPend\n10 4 sw a b\n11 5 look q fwd 0 back 0\n15 9 call b OSQPend 0 0 0\n22 9 wait b OSQPend\n22 9 sw b d\n23 10 look q fwd 0 1 back 1 0\n23 10 look 20 fwd back\n28 15 call d OSQPost 0 100 4 0\n35 15 ret d OSQPost OS_ERR_NONE 0\n35 15 sw d a\n36 16 look q fwd 1 back 1\n36 16 ret a OSQPend OS_ERR_NONE 100 4\n41 21 call a OSQPend 0 0 0\n47 21 wait a OSQPend\n47 21 sw a d\n48 22 look q fwd 0 1 back 1 0\n53 27 call d OSQPost 0 101 8 2\n65 27 ret d OSQPost OS_ERR_NONE 0\n65 27 sw d a\n66 28 look q fwd back\n66 28 look 20 fwd 1 back 1\n66 28 ret a OSQPend OS_ERR_NONE 101 8\n71 33 call a OSQPend 0 0 0\n77 33 wait a OSQPend\n77 33 sw a b\n78 34 look q fwd 0 back 0\n78 34 ret b OSQPend OS_ERR_NONE 101 8\n83 39 call b OSQPend 0 0 0\n90 39 wait b OSQPend\n90 39 sw b d\n91 40 look q fwd 0 1 back 1 0\n91 40 look 20 fwd back\n94 43 call d OSQPendAbort 0 0\n101 43 ret d OSQPendAbort OS_ERR_NONE 1\n101 43 sw d a\n102 44 look q fwd 1 back 1\n102 44 ret a OSQPend OS_ERR_PEND_ABORT 0 0\n107 49 call a OSQPend 0 0 0\n113 49 wait a OSQPend\n113 49 sw a d\n114 50 look q fwd 0 1 back 1 0\n117 53 call d OSQPendAbort 0 1\n129 53 ret d OSQPendAbort OS_ERR_NONE 2\n129 53 sw d a\n130 54 look q fwd back\n130 54 look 20 fwd 1 back 1\n130 54 ret a OSQPend OS_ERR_PEND_ABORT 0 0\n135 59 call a OSQPend 0 0 0\n141 59 wait a OSQPend\n141 59 sw a b\n142 60 look q fwd 0 back 0\n142 60 ret b OSQPend OS_ERR_PEND_ABORT 0 0\n147 65 call b OSQPend 0 0 0\n154 65 wait b OSQPend\n154 65 sw b d\n155 66 look q fwd 0 1 back 1 0\n155 66 look 20 fwd back\n158 69 call d OSQDel 0 1\n170 69 ret d OSQDel OS_ERR_NONE 2\n170 69 sw d a\n171 70 look q fwd back\n171 70 look 20 fwd 1 back 1\n171 70 ret a OSQPend OS_ERR_OBJ_DEL 0 0\n174 73 call a OSTaskSuspend 4294967295\n178 73 wait a OSTaskSuspend\n178 73 sw a b\n179 74 ret b OSQPend OS_ERR_OBJ_DEL 0 0\n182 77 call b OSTaskSuspend 4294967295\n186 77 wait b OSTaskSuspend\n186 77 sw b d\n187 78 look 20 fwd back\n190 81 call d OSTaskSuspend 4294967295\n194 81 wait d OSTaskSuspend\n194 81 sw d idle\n195 82 look 30 fwd back\n196 83 end\n"
unfolding digits cost decoded
queue_waiters = refl

abbrev image_2 : ImageRecord
image_2 = record { tasks = record { name = codes "d"; entry = 0; prio = 30; quanta = 0; qsize = 0; sp = 1302528; line = 0 } ∷ []; objects = record { name = codes "q"; kind = Queue; f = 2 ∷ 0 ∷ 0 ∷ 0 ∷ []; line = 0 } ∷ record { name = codes "r"; kind = Queue; f = 3 ∷ 0 ∷ 0 ∷ 0 ∷ []; line = 0 } ∷ []; vectors = []; code = 1299 ∷ 104859027 ∷ 4195859 ∷ 1683 ∷ 2099347 ∷ 115 ∷ 1299 ∷ 105907603 ∷ 5244435 ∷ 1050259 ∷ 2099347 ∷ 115 ∷ 1299 ∷ 106956179 ∷ 6293011 ∷ 1683 ∷ 2099347 ∷ 115 ∷ 1299 ∷ 1427 ∷ 1555 ∷ 8390803 ∷ 115 ∷ 1299 ∷ 1427 ∷ 1050131 ∷ 8390803 ∷ 115 ∷ 1299 ∷ 1427 ∷ 1050131 ∷ 8390803 ∷ 115 ∷ 1049875 ∷ 108004755 ∷ 7341587 ∷ 1683 ∷ 2099347 ∷ 115 ∷ 1049875 ∷ 109053331 ∷ 8390163 ∷ 1683 ∷ 2099347 ∷ 115 ∷ 1299 ∷ 110101907 ∷ 9438739 ∷ 1683 ∷ 2099347 ∷ 115 ∷ 1299 ∷ 111150483 ∷ 10487315 ∷ 1683 ∷ 2099347 ∷ 115 ∷ 1049875 ∷ 1427 ∷ 23070867 ∷ 115 ∷ 1299 ∷ 112199059 ∷ 11535891 ∷ 1683 ∷ 2099347 ∷ 115 ∷ 1299 ∷ 1427 ∷ 1555 ∷ 8390803 ∷ 115 ∷ 4293920019 ∷ 29362323 ∷ 115 ∷ 4284477551 ∷ []; ram = []; config = record { isr_limit = 256; defer_size = 16; pool = 3; tmr_div = 10; round_robin = 1; quanta = 10; tick_prio = 1; tmr_prio = 62; tmr_sp = 1310720; insert = 0 } }

abbrev list_2 : ListRecord
list_2 = record { injections = []; looks = record { at = 1; what = Obj (record { 0 = 0 }) } ∷ record { at = 1; what = Obj (record { 0 = 1 }) } ∷ [] }

-- Where nobody waits a message is stored last, or first; a full queue and an empty pool refuse it; a deletion gives the stored
-- messages back to the pool.
queue_messages : run_text serves_all Direct image_2 list_2 76 ≡ codes "0 0 start d\n1 1 look q fwd back\n1 1 look r fwd back\n5 5 call d OSQPost 0 100 4 0\n7 5 ret d OSQPost OS_ERR_NONE 0\n13 11 call d OSQPost 0 101 5 1\n15 11 ret d OSQPost OS_ERR_NONE 0\n21 17 call d OSQPost 0 102 6 0\n23 17 ret d OSQPost OS_ERR_Q_MAX 0\n28 22 call d OSQPend 0 0 0\n30 22 ret d OSQPend OS_ERR_NONE 101 5\n35 27 call d OSQPend 0 0 1\n37 27 ret d OSQPend OS_ERR_NONE 100 4\n42 32 call d OSQPend 0 0 1\n44 32 ret d OSQPend OS_ERR_PEND_WOULD_BLOCK 0 0\n50 38 call d OSQPost 1 103 7 0\n52 38 ret d OSQPost OS_ERR_NONE 0\n58 44 call d OSQPost 1 104 8 0\n60 44 ret d OSQPost OS_ERR_NONE 0\n66 50 call d OSQPost 0 105 9 0\n68 50 ret d OSQPost OS_ERR_NONE 0\n74 56 call d OSQPost 0 106 10 0\n76 56 ret d OSQPost OS_ERR_MSG_POOL_EMPTY 0\n80 60 call d OSQDel 1 0\n82 60 ret d OSQDel OS_ERR_NONE 0\n88 66 call d OSQPost 0 107 11 0\n90 66 ret d OSQPost OS_ERR_NONE 0\n95 71 call d OSQPend 0 0 0\n97 71 ret d OSQPend OS_ERR_NONE 105 9\n100 74 call d OSTaskSuspend 4294967295\n104 74 wait d OSTaskSuspend\n104 74 sw d idle\n106 76 end\n"
unfolding digits cost decoded
queue_messages = refl

abbrev image_3 : ImageRecord
image_3 = record { tasks = record { name = codes "a"; entry = 0; prio = 10; quanta = 0; qsize = 0; sp = 1310720; line = 0 } ∷ record { name = codes "b"; entry = 136; prio = 20; quanta = 0; qsize = 0; sp = 1306624; line = 0 } ∷ record { name = codes "d"; entry = 212; prio = 30; quanta = 0; qsize = 0; sp = 1302528; line = 0 } ∷ []; objects = record { name = codes "f"; kind = Flags; f = 0 ∷ 0 ∷ 0 ∷ 0 ∷ []; line = 0 } ∷ []; vectors = []; code = 1299 ∷ 3147155 ∷ 1555 ∷ 1683 ∷ 9439379 ∷ 115 ∷ 1299 ∷ 1050003 ∷ 1555 ∷ 2098835 ∷ 9439379 ∷ 115 ∷ 1299 ∷ 4195731 ∷ 1555 ∷ 1683 ∷ 9439379 ∷ 115 ∷ 1299 ∷ 4195731 ∷ 1555 ∷ 1683 ∷ 9439379 ∷ 115 ∷ 1299 ∷ 4195731 ∷ 1555 ∷ 1050259 ∷ 9439379 ∷ 115 ∷ 4293920019 ∷ 29362323 ∷ 115 ∷ 4284477551 ∷ 1299 ∷ 2098579 ∷ 1555 ∷ 5244563 ∷ 9439379 ∷ 115 ∷ 1299 ∷ 8390035 ∷ 1555 ∷ 1683 ∷ 9439379 ∷ 115 ∷ 1299 ∷ 8390035 ∷ 1555 ∷ 1683 ∷ 9439379 ∷ 115 ∷ 4204785775 ∷ 1299 ∷ 1050003 ∷ 1555 ∷ 3147923 ∷ 115 ∷ 1299 ∷ 2098579 ∷ 1555 ∷ 3147923 ∷ 115 ∷ 1299 ∷ 1050003 ∷ 1050131 ∷ 3147923 ∷ 115 ∷ 1299 ∷ 1427 ∷ 17827987 ∷ 115 ∷ 1299 ∷ 1050003 ∷ 17827987 ∷ 115 ∷ 1299 ∷ 50333075 ∷ 1555 ∷ 3147923 ∷ 115 ∷ 1299 ∷ 16778643 ∷ 1555 ∷ 4195987 ∷ 9439379 ∷ 115 ∷ 1299 ∷ 16778643 ∷ 1555 ∷ 8390291 ∷ 9439379 ∷ 115 ∷ 1299 ∷ 1050003 ∷ 24119443 ∷ 115 ∷ 4016042095 ∷ []; ram = []; config = record { isr_limit = 256; defer_size = 16; pool = 64; tmr_div = 10; round_robin = 1; quanta = 10; tick_prio = 1; tmr_prio = 62; tmr_sp = 1310720; insert = 0 } }

abbrev list_3 : ListRecord
list_3 = record { injections = []; looks = record { at = 1; what = Obj (record { 0 = 0 }) } ∷ record { at = 1; what = Ready (record { 0 = 20 }) } ∷ record { at = 1; what = Ready (record { 0 = 30 }) } ∷ record { at = 12; what = Obj (record { 0 = 0 }) } ∷ record { at = 25; what = Obj (record { 0 = 0 }) } ∷ record { at = 25; what = Ready (record { 0 = 20 }) } ∷ record { at = 53; what = Obj (record { 0 = 0 }) } ∷ record { at = 53; what = Ready (record { 0 = 20 }) } ∷ record { at = 66; what = Obj (record { 0 = 0 }) } ∷ record { at = 80; what = Obj (record { 0 = 0 }) } ∷ record { at = 80; what = Ready (record { 0 = 20 }) } ∷ record { at = 94; what = Obj (record { 0 = 0 }) } ∷ record { at = 107; what = Obj (record { 0 = 0 }) } ∷ record { at = 118; what = Obj (record { 0 = 0 }) } ∷ record { at = 131; what = Obj (record { 0 = 0 }) } ∷ record { at = 147; what = Obj (record { 0 = 0 }) } ∷ record { at = 147; what = Ready (record { 0 = 20 }) } ∷ record { at = 160; what = Obj (record { 0 = 0 }) } ∷ record { at = 174; what = Obj (record { 0 = 0 }) } ∷ record { at = 174; what = Ready (record { 0 = 20 }) } ∷ record { at = 215; what = Obj (record { 0 = 0 }) } ∷ record { at = 215; what = Ready (record { 0 = 20 }) } ∷ record { at = 232; what = Ready (record { 0 = 20 }) } ∷ record { at = 240; what = Ready (record { 0 = 30 }) } ∷ [] }

-- A post of flags wakes each waiter whose condition holds, and a waiter that consumes does so when it next acts; clearing wakes
-- who waits for clear bits; an abort wakes the first or all, a deletion all.
flags : run_text serves_all Direct image_3 list_3 112 ≡ codes "0 0 start a\n1 1 look f fwd back\n1 1 look 20 fwd 1 back 1\n1 1 look 30 fwd 2 back 2\n5 5 call a OSFlagPend 0 3 0 0\n11 5 wait a OSFlagPend\n11 5 sw a b\n12 6 look f fwd 0 back 0\n17 11 call b OSFlagPend 0 2 0 5\n24 11 wait b OSFlagPend\n24 11 sw b d\n25 12 look f fwd 0 1 back 1 0\n25 12 look 20 fwd back\n29 16 call d OSFlagPost 0 1 0\n33 16 ret d OSFlagPost OS_ERR_NONE 1\n38 21 call d OSFlagPost 0 2 0\n52 21 ret d OSFlagPost OS_ERR_NONE 3\n52 21 sw d a\n53 22 look f fwd back\n53 22 look 20 fwd 1 back 1\n53 22 ret a OSFlagPend OS_ERR_NONE 3\n59 28 call a OSFlagPend 0 1 0 2\n65 28 wait a OSFlagPend\n65 28 sw a b\n66 29 look f fwd 0 back 0\n66 29 ret b OSFlagPend OS_ERR_NONE 2\n72 35 call b OSFlagPend 0 8 0 0\n79 35 wait b OSFlagPend\n79 35 sw b d\n80 36 look f fwd 0 1 back 1 0\n80 36 look 20 fwd back\n84 40 call d OSFlagPost 0 1 1\n93 40 ret d OSFlagPost OS_ERR_NONE 0\n93 40 sw d a\n94 41 look f fwd 1 back 1\n94 41 ret a OSFlagPend OS_ERR_NONE 1\n100 47 call a OSFlagPend 0 4 0 0\n106 47 wait a OSFlagPend\n106 47 sw a d\n107 48 look f fwd 0 1 back 1 0\n110 51 call d OSFlagPendAbort 0 0\n117 51 ret d OSFlagPendAbort OS_ERR_NONE 1\n117 51 sw d a\n118 52 look f fwd 1 back 1\n118 52 ret a OSFlagPend OS_ERR_PEND_ABORT 0\n124 58 call a OSFlagPend 0 4 0 0\n130 58 wait a OSFlagPend\n130 58 sw a d\n131 59 look f fwd 0 1 back 1 0\n134 62 call d OSFlagPendAbort 0 1\n146 62 ret d OSFlagPendAbort OS_ERR_NONE 2\n146 62 sw d a\n147 63 look f fwd back\n147 63 look 20 fwd 1 back 1\n147 63 ret a OSFlagPend OS_ERR_PEND_ABORT 0\n153 69 call a OSFlagPend 0 4 0 1\n159 69 wait a OSFlagPend\n159 69 sw a b\n160 70 look f fwd 0 back 0\n160 70 ret b OSFlagPend OS_ERR_PEND_ABORT 0\n166 76 call b OSFlagPend 0 8 0 0\n173 76 wait b OSFlagPend\n173 76 sw b d\n174 77 look f fwd 0 1 back 1 0\n174 77 look 20 fwd back\n178 81 call d OSFlagPost 0 48 0\n182 81 ret d OSFlagPost OS_ERR_NONE 48\n188 87 call d OSFlagPend 0 16 0 4\n190 87 ret d OSFlagPend OS_ERR_NONE 16\n196 93 call d OSFlagPend 0 16 0 8\n198 93 ret d OSFlagPend OS_ERR_PEND_WOULD_BLOCK 0\n202 97 call d OSFlagDel 0 1\n214 97 ret d OSFlagDel OS_ERR_NONE 2\n214 97 sw d a\n215 98 look f fwd back\n215 98 look 20 fwd 1 back 1\n215 98 ret a OSFlagPend OS_ERR_OBJ_DEL 0\n218 101 call a OSTaskSuspend 4294967295\n222 101 wait a OSTaskSuspend\n222 101 sw a b\n223 102 ret b OSFlagPend OS_ERR_OBJ_DEL 0\n227 106 call b OSTaskSuspend 4294967295\n231 106 wait b OSTaskSuspend\n231 106 sw b d\n232 107 look 20 fwd back\n235 110 call d OSTaskSuspend 4294967295\n239 110 wait d OSTaskSuspend\n239 110 sw d idle\n240 111 look 30 fwd back\n241 112 end\n"
unfolding digits cost decoded
flags = refl

abbrev image_4 : ImageRecord
image_4 = record { tasks = record { name = codes "hi"; entry = 0; prio = 10; quanta = 0; qsize = 0; sp = 1310720; line = 0 } ∷ record { name = codes "mid"; entry = 108; prio = 20; quanta = 0; qsize = 0; sp = 1306624; line = 0 } ∷ record { name = codes "lo"; entry = 216; prio = 30; quanta = 0; qsize = 0; sp = 1302528; line = 0 } ∷ []; objects = record { name = codes "m"; kind = Mutex; f = 0 ∷ 0 ∷ 0 ∷ 0 ∷ []; line = 0 } ∷ record { name = codes "n"; kind = Mutex; f = 0 ∷ 0 ∷ 0 ∷ 0 ∷ []; line = 0 } ∷ []; vectors = []; code = 1299 ∷ 1427 ∷ 11536531 ∷ 115 ∷ 1049875 ∷ 1427 ∷ 1555 ∷ 10487955 ∷ 115 ∷ 1049875 ∷ 1427 ∷ 14682259 ∷ 115 ∷ 1299 ∷ 1427 ∷ 1555 ∷ 10487955 ∷ 115 ∷ 1299 ∷ 1427 ∷ 1555 ∷ 10487955 ∷ 115 ∷ 4293920019 ∷ 29362323 ∷ 115 ∷ 4284477551 ∷ 1299 ∷ 1427 ∷ 11536531 ∷ 115 ∷ 1049875 ∷ 1427 ∷ 1555 ∷ 10487955 ∷ 115 ∷ 1299 ∷ 1427 ∷ 1555 ∷ 10487955 ∷ 115 ∷ 1049875 ∷ 1427 ∷ 14682259 ∷ 115 ∷ 1299 ∷ 1427 ∷ 18876563 ∷ 115 ∷ 1299 ∷ 1050003 ∷ 25168019 ∷ 115 ∷ 4171231343 ∷ 1299 ∷ 1427 ∷ 1555 ∷ 10487955 ∷ 115 ∷ 1049875 ∷ 1427 ∷ 4196499 ∷ 115 ∷ 1299 ∷ 1427 ∷ 4196499 ∷ 115 ∷ 1299 ∷ 1427 ∷ 1555 ∷ 10487955 ∷ 115 ∷ 1299 ∷ 1427 ∷ 14682259 ∷ 115 ∷ 1299 ∷ 5244307 ∷ 40896659 ∷ 115 ∷ 1299 ∷ 1427 ∷ 14682259 ∷ 115 ∷ 4041207919 ∷ []; ram = []; config = record { isr_limit = 256; defer_size = 16; pool = 64; tmr_div = 10; round_robin = 1; quanta = 10; tick_prio = 1; tmr_prio = 62; tmr_sp = 1310720; insert = 0 } }

abbrev list_4 : ListRecord
list_4 = record { injections = []; looks = record { at = 1; what = Obj (record { 0 = 0 }) } ∷ record { at = 1; what = Obj (record { 0 = 1 }) } ∷ record { at = 1; what = Ready (record { 0 = 5 }) } ∷ record { at = 1; what = Ready (record { 0 = 10 }) } ∷ record { at = 1; what = Ready (record { 0 = 20 }) } ∷ record { at = 1; what = Ready (record { 0 = 30 }) } ∷ record { at = 8; what = Ready (record { 0 = 10 }) } ∷ record { at = 16; what = Ready (record { 0 = 20 }) } ∷ record { at = 32; what = Ready (record { 0 = 20 }) } ∷ record { at = 56; what = Obj (record { 0 = 0 }) } ∷ record { at = 56; what = Ready (record { 0 = 20 }) } ∷ record { at = 56; what = Ready (record { 0 = 30 }) } ∷ record { at = 65; what = Ready (record { 0 = 10 }) } ∷ record { at = 86; what = Obj (record { 0 = 1 }) } ∷ record { at = 86; what = Ready (record { 0 = 10 }) } ∷ record { at = 86; what = Ready (record { 0 = 20 }) } ∷ record { at = 118; what = Ready (record { 0 = 5 }) } ∷ record { at = 118; what = Ready (record { 0 = 10 }) } ∷ record { at = 134; what = Obj (record { 0 = 0 }) } ∷ record { at = 134; what = Ready (record { 0 = 5 }) } ∷ record { at = 134; what = Ready (record { 0 = 30 }) } ∷ record { at = 151; what = Obj (record { 0 = 1 }) } ∷ record { at = 151; what = Ready (record { 0 = 5 }) } ∷ record { at = 151; what = Ready (record { 0 = 20 }) } ∷ record { at = 174; what = Obj (record { 0 = 0 }) } ∷ record { at = 174; what = Ready (record { 0 = 5 }) } ∷ record { at = 174; what = Ready (record { 0 = 20 }) } ∷ record { at = 190; what = Obj (record { 0 = 0 }) } ∷ record { at = 190; what = Ready (record { 0 = 5 }) } ∷ record { at = 190; what = Ready (record { 0 = 20 }) } ∷ record { at = 207; what = Obj (record { 0 = 0 }) } ∷ record { at = 207; what = Ready (record { 0 = 5 }) } ∷ record { at = 207; what = Ready (record { 0 = 20 }) } ∷ record { at = 223; what = Obj (record { 0 = 0 }) } ∷ record { at = 223; what = Ready (record { 0 = 5 }) } ∷ record { at = 223; what = Ready (record { 0 = 20 }) } ∷ record { at = 231; what = Ready (record { 0 = 5 }) } ∷ record { at = 239; what = Ready (record { 0 = 20 }) } ∷ record { at = 247; what = Ready (record { 0 = 30 }) } ∷ [] }

-- Priorities are inherited through two mutexes, moved by a new base priority, and given back by posts; an owner nests; an abort
-- and a deletion wake a waiter.
mutexes : run_text serves_all Direct image_4 list_4 97 ≡ codes "0 0 start hi\n1 1 look m fwd back\n1 1 look n fwd back\n1 1 look 5 fwd back\n1 1 look 10 fwd 0 back 0\n1 1 look 20 fwd 1 back 1\n1 1 look 30 fwd 2 back 2\n3 3 call hi OSTaskSemPend 0 0\n7 3 wait hi OSTaskSemPend\n7 3 sw hi mid\n8 4 look 10 fwd back\n11 7 call mid OSTaskSemPend 0 0\n15 7 wait mid OSTaskSemPend\n15 7 sw mid lo\n16 8 look 20 fwd back\n20 12 call lo OSMutexPend 0 0 0\n22 12 ret lo OSMutexPend OS_ERR_NONE 1\n26 16 call lo OSTaskSemPost 1 0\n31 16 ret lo OSTaskSemPost OS_ERR_NONE 0\n31 16 sw lo mid\n32 17 look 20 fwd 1 back 1\n32 17 ret mid OSTaskSemPend OS_ERR_NONE 0\n37 22 call mid OSMutexPend 1 0 0\n39 22 ret mid OSMutexPend OS_ERR_NONE 1\n44 27 call mid OSMutexPend 0 0 0\n55 27 wait mid OSMutexPend\n55 27 sw mid lo\n56 28 look m fwd 1 back 1\n56 28 look 20 fwd 2 back 2\n56 28 look 30 fwd back\n59 31 call lo OSTaskSemPost 0 0\n64 31 ret lo OSTaskSemPost OS_ERR_NONE 0\n64 31 sw lo hi\n65 32 look 10 fwd 0 back 0\n65 32 ret hi OSTaskSemPend OS_ERR_NONE 0\n70 37 call hi OSMutexPend 1 0 0\n85 37 wait hi OSMutexPend\n85 37 sw hi lo\n86 38 look n fwd 0 back 0\n86 38 look 10 fwd 2 back 2\n86 38 look 20 fwd back\n90 42 call lo OSMutexPend 0 0 0\n92 42 ret lo OSMutexPend OS_ERR_MUTEX_OWNER 2\n96 46 call lo OSMutexPost 0 0\n98 46 ret lo OSMutexPost OS_ERR_MUTEX_NESTING 1\n102 50 call lo OSTaskChangePrio 0 5\n117 50 ret lo OSTaskChangePrio OS_ERR_NONE 0\n118 51 look 5 fwd 2 back 2\n118 51 look 10 fwd back\n121 54 call lo OSMutexPost 0 0\n133 54 ret lo OSMutexPost OS_ERR_NONE 0\n133 54 sw lo mid\n134 55 look m fwd back\n134 55 look 5 fwd 1 back 1\n134 55 look 30 fwd 2 back 2\n134 55 ret mid OSMutexPend OS_ERR_NONE 1\n138 59 call mid OSMutexPost 1 0\n150 59 ret mid OSMutexPost OS_ERR_NONE 0\n150 59 sw mid hi\n151 60 look n fwd back\n151 60 look 5 fwd 0 back 0\n151 60 look 20 fwd 1 back 1\n151 60 ret hi OSMutexPend OS_ERR_NONE 1\n155 64 call hi OSMutexPost 1 0\n157 64 ret hi OSMutexPost OS_ERR_NONE 0\n162 69 call hi OSMutexPend 0 0 0\n173 69 wait hi OSMutexPend\n173 69 sw hi mid\n174 70 look m fwd 0 back 0\n174 70 look 5 fwd 1 back 1\n174 70 look 20 fwd back\n177 73 call mid OSMutexPendAbort 0 0\n189 73 ret mid OSMutexPendAbort OS_ERR_NONE 1\n189 73 sw mid hi\n190 74 look m fwd back\n190 74 look 5 fwd 0 back 0\n190 74 look 20 fwd 1 back 1\n190 74 ret hi OSMutexPend OS_ERR_PEND_ABORT 0\n195 79 call hi OSMutexPend 0 0 0\n206 79 wait hi OSMutexPend\n206 79 sw hi mid\n207 80 look m fwd 0 back 0\n207 80 look 5 fwd 1 back 1\n207 80 look 20 fwd back\n210 83 call mid OSMutexDel 0 1\n222 83 ret mid OSMutexDel OS_ERR_NONE 1\n222 83 sw mid hi\n223 84 look m fwd back\n223 84 look 5 fwd 0 back 0\n223 84 look 20 fwd 1 back 1\n223 84 ret hi OSMutexPend OS_ERR_OBJ_DEL 0\n226 87 call hi OSTaskSuspend 4294967295\n230 87 wait hi OSTaskSuspend\n230 87 sw hi mid\n231 88 look 5 fwd back\n234 91 call mid OSTaskSuspend 4294967295\n238 91 wait mid OSTaskSuspend\n238 91 sw mid lo\n239 92 look 20 fwd back\n242 95 call lo OSTaskSuspend 4294967295\n246 95 wait lo OSTaskSuspend\n246 95 sw lo idle\n247 96 look 30 fwd back\n248 97 end\n"
unfolding digits cost decoded
mutexes = refl

abbrev image_5 : ImageRecord
image_5 = record { tasks = record { name = codes "a"; entry = 0; prio = 10; quanta = 0; qsize = 0; sp = 1310720; line = 0 } ∷ record { name = codes "d"; entry = 64; prio = 20; quanta = 0; qsize = 0; sp = 1302528; line = 0 } ∷ []; objects = []; vectors = []; code = 1299 ∷ 1427 ∷ 11536531 ∷ 115 ∷ 1299 ∷ 1427 ∷ 11536531 ∷ 115 ∷ 1299 ∷ 1427 ∷ 11536531 ∷ 115 ∷ 4293920019 ∷ 29362323 ∷ 115 ∷ 4284477551 ∷ 1299 ∷ 1427 ∷ 4196499 ∷ 115 ∷ 1299 ∷ 1427 ∷ 19925139 ∷ 115 ∷ 4293920019 ∷ 1427 ∷ 4196499 ∷ 115 ∷ 4293920019 ∷ 1427 ∷ 4196499 ∷ 115 ∷ 1299 ∷ 1427 ∷ 11536531 ∷ 115 ∷ 4293920019 ∷ 1427 ∷ 19925139 ∷ 115 ∷ 4179619951 ∷ []; ram = []; config = record { isr_limit = 256; defer_size = 16; pool = 64; tmr_div = 10; round_robin = 1; quanta = 10; tick_prio = 1; tmr_prio = 62; tmr_sp = 1310720; insert = 0 } }

abbrev list_5 : ListRecord
list_5 = record { injections = []; looks = record { at = 1; what = Ready (record { 0 = 10 }) } ∷ record { at = 1; what = Ready (record { 0 = 20 }) } ∷ record { at = 8; what = Ready (record { 0 = 10 }) } ∷ record { at = 17; what = Ready (record { 0 = 10 }) } ∷ record { at = 26; what = Ready (record { 0 = 10 }) } ∷ record { at = 35; what = Ready (record { 0 = 10 }) } ∷ record { at = 44; what = Ready (record { 0 = 10 }) } ∷ record { at = 76; what = Ready (record { 0 = 20 }) } ∷ [] }

-- A task's own semaphore: a post wakes its task, an abort too, and posts to a task that does not wait are counted.
task_semaphores : run_text serves_all Direct image_5 list_5 43 ≡ codes "0 0 start a\n1 1 look 10 fwd 0 back 0\n1 1 look 20 fwd 1 back 1\n3 3 call a OSTaskSemPend 0 0\n7 3 wait a OSTaskSemPend\n7 3 sw a d\n8 4 look 10 fwd back\n11 7 call d OSTaskSemPost 0 0\n16 7 ret d OSTaskSemPost OS_ERR_NONE 0\n16 7 sw d a\n17 8 look 10 fwd 0 back 0\n17 8 ret a OSTaskSemPend OS_ERR_NONE 0\n21 12 call a OSTaskSemPend 0 0\n25 12 wait a OSTaskSemPend\n25 12 sw a d\n26 13 look 10 fwd back\n29 16 call d OSTaskSemPendAbort 0 0\n34 16 ret d OSTaskSemPendAbort OS_ERR_NONE 1\n34 16 sw d a\n35 17 look 10 fwd 0 back 0\n35 17 ret a OSTaskSemPend OS_ERR_PEND_ABORT 0\n39 21 call a OSTaskSemPend 0 0\n43 21 wait a OSTaskSemPend\n43 21 sw a d\n44 22 look 10 fwd back\n47 25 call d OSTaskSemPost 4294967295 0\n49 25 ret d OSTaskSemPost OS_ERR_NONE 1\n53 29 call d OSTaskSemPost 4294967295 0\n55 29 ret d OSTaskSemPost OS_ERR_NONE 2\n59 33 call d OSTaskSemPend 0 0\n61 33 ret d OSTaskSemPend OS_ERR_NONE 1\n65 37 call d OSTaskSemPendAbort 4294967295 0\n67 37 ret d OSTaskSemPendAbort OS_ERR_PEND_ABORT_SELF 0\n71 41 call d OSTaskSuspend 4294967295\n75 41 wait d OSTaskSuspend\n75 41 sw d idle\n76 42 look 20 fwd back\n77 43 end\n"
unfolding digits cost decoded
task_semaphores = refl

abbrev image_6 : ImageRecord
image_6 = record { tasks = record { name = codes "a"; entry = 0; prio = 10; quanta = 0; qsize = 1; sp = 1310720; line = 0 } ∷ record { name = codes "d"; entry = 64; prio = 20; quanta = 0; qsize = 2; sp = 1302528; line = 0 } ∷ []; objects = []; vectors = []; code = 1299 ∷ 1427 ∷ 12585107 ∷ 115 ∷ 1299 ∷ 1427 ∷ 12585107 ∷ 115 ∷ 1299 ∷ 1427 ∷ 12585107 ∷ 115 ∷ 4293920019 ∷ 29362323 ∷ 115 ∷ 4284477551 ∷ 1299 ∷ 104859027 ∷ 4195859 ∷ 1683 ∷ 5245075 ∷ 115 ∷ 1299 ∷ 1427 ∷ 20973715 ∷ 115 ∷ 1049875 ∷ 105907603 ∷ 5244435 ∷ 1683 ∷ 5245075 ∷ 115 ∷ 1049875 ∷ 106956179 ∷ 6293011 ∷ 1050259 ∷ 5245075 ∷ 115 ∷ 1049875 ∷ 108004755 ∷ 7341587 ∷ 1683 ∷ 5245075 ∷ 115 ∷ 1299 ∷ 1427 ∷ 12585107 ∷ 115 ∷ 1299 ∷ 1427 ∷ 12585107 ∷ 115 ∷ 1299 ∷ 1427 ∷ 20973715 ∷ 115 ∷ 4112511087 ∷ []; ram = []; config = record { isr_limit = 256; defer_size = 16; pool = 64; tmr_div = 10; round_robin = 1; quanta = 10; tick_prio = 1; tmr_prio = 62; tmr_sp = 1310720; insert = 0 } }

abbrev list_6 : ListRecord
list_6 = record { injections = []; looks = record { at = 1; what = Ready (record { 0 = 10 }) } ∷ record { at = 1; what = Ready (record { 0 = 20 }) } ∷ record { at = 8; what = Ready (record { 0 = 10 }) } ∷ record { at = 19; what = Ready (record { 0 = 10 }) } ∷ record { at = 28; what = Ready (record { 0 = 10 }) } ∷ record { at = 37; what = Ready (record { 0 = 10 }) } ∷ record { at = 46; what = Ready (record { 0 = 10 }) } ∷ record { at = 91; what = Ready (record { 0 = 10 }) } ∷ record { at = 99; what = Ready (record { 0 = 10 }) } ∷ record { at = 107; what = Ready (record { 0 = 20 }) } ∷ [] }

-- A task's own queue: a message wakes its task, an abort too, and messages for a task that does not wait are stored last or first.
task_queues : run_text serves_all Direct image_6 list_6 63 ≡ codes "0 0 start a\n1 1 look 10 fwd 0 back 0\n1 1 look 20 fwd 1 back 1\n3 3 call a OSTaskQPend 0 0\n7 3 wait a OSTaskQPend\n7 3 sw a d\n8 4 look 10 fwd back\n13 9 call d OSTaskQPost 0 100 4 0\n18 9 ret d OSTaskQPost OS_ERR_NONE 0\n18 9 sw d a\n19 10 look 10 fwd 0 back 0\n19 10 ret a OSTaskQPend OS_ERR_NONE 100 4\n23 14 call a OSTaskQPend 0 0\n27 14 wait a OSTaskQPend\n27 14 sw a d\n28 15 look 10 fwd back\n31 18 call d OSTaskQPendAbort 0 0\n36 18 ret d OSTaskQPendAbort OS_ERR_NONE 1\n36 18 sw d a\n37 19 look 10 fwd 0 back 0\n37 19 ret a OSTaskQPend OS_ERR_PEND_ABORT 0 0\n41 23 call a OSTaskQPend 0 0\n45 23 wait a OSTaskQPend\n45 23 sw a d\n46 24 look 10 fwd back\n51 29 call d OSTaskQPost 1 101 5 0\n53 29 ret d OSTaskQPost OS_ERR_NONE 0\n59 35 call d OSTaskQPost 1 102 6 1\n61 35 ret d OSTaskQPost OS_ERR_NONE 0\n67 41 call d OSTaskQPost 1 103 7 0\n69 41 ret d OSTaskQPost OS_ERR_Q_MAX 0\n73 45 call d OSTaskQPend 0 0\n75 45 ret d OSTaskQPend OS_ERR_NONE 102 6\n79 49 call d OSTaskQPend 0 0\n81 49 ret d OSTaskQPend OS_ERR_NONE 101 5\n85 53 call d OSTaskQPendAbort 0 0\n90 53 ret d OSTaskQPendAbort OS_ERR_NONE 1\n90 53 sw d a\n91 54 look 10 fwd 0 back 0\n91 54 ret a OSTaskQPend OS_ERR_PEND_ABORT 0 0\n94 57 call a OSTaskSuspend 4294967295\n98 57 wait a OSTaskSuspend\n98 57 sw a d\n99 58 look 10 fwd back\n102 61 call d OSTaskSuspend 4294967295\n106 61 wait d OSTaskSuspend\n106 61 sw d idle\n107 62 look 20 fwd back\n108 63 end\n"
unfolding digits cost decoded
task_queues = refl

abbrev image_7 : ImageRecord
image_7 = record { tasks = record { name = codes "b"; entry = 128; prio = 15; quanta = 0; qsize = 0; sp = 1306624; line = 0 } ∷ record { name = codes "a"; entry = 0; prio = 20; quanta = 0; qsize = 0; sp = 1310720; line = 0 } ∷ record { name = codes "d"; entry = 152; prio = 30; quanta = 0; qsize = 0; sp = 1302528; line = 0 } ∷ []; objects = record { name = codes "s"; kind = Sem; f = 0 ∷ 0 ∷ 0 ∷ 0 ∷ []; line = 0 } ∷ record { name = codes "q"; kind = Queue; f = 2 ∷ 0 ∷ 0 ∷ 0 ∷ []; line = 0 } ∷ []; vectors = []; code = 1049911 ∷ 328979 ∷ 2098579 ∷ 1555 ∷ 1683 ∷ 13633683 ∷ 115 ∷ 1049911 ∷ 328979 ∷ 2098579 ∷ 1555 ∷ 1683 ∷ 13633683 ∷ 115 ∷ 1049911 ∷ 328979 ∷ 2098579 ∷ 1555 ∷ 1050259 ∷ 13633683 ∷ 115 ∷ 1049911 ∷ 328979 ∷ 2098579 ∷ 1555 ∷ 1683 ∷ 13633683 ∷ 115 ∷ 4293920019 ∷ 29362323 ∷ 115 ∷ 4284477551 ∷ 1299 ∷ 1427 ∷ 1555 ∷ 7342227 ∷ 115 ∷ 4259311727 ∷ 1049875 ∷ 104859027 ∷ 4195859 ∷ 1683 ∷ 2099347 ∷ 115 ∷ 1299 ∷ 1050003 ∷ 15730835 ∷ 115 ∷ 1299 ∷ 1427 ∷ 1050771 ∷ 115 ∷ 1049875 ∷ 105907603 ∷ 8390163 ∷ 1683 ∷ 2099347 ∷ 115 ∷ 1299 ∷ 1427 ∷ 1050771 ∷ 115 ∷ 1049911 ∷ 328979 ∷ 2098579 ∷ 1555 ∷ 1683 ∷ 13633683 ∷ 115 ∷ 4125093999 ∷ []; ram = 1 ∷ 0 ∷ 0 ∷ 0 ∷ 0 ∷ 0 ∷ 0 ∷ 0 ∷ []; config = record { isr_limit = 256; defer_size = 16; pool = 64; tmr_div = 10; round_robin = 1; quanta = 10; tick_prio = 1; tmr_prio = 62; tmr_sp = 1310720; insert = 0 } }

abbrev list_7 : ListRecord
list_7 = record { injections = []; looks = record { at = 1; what = Obj (record { 0 = 0 }) } ∷ record { at = 1; what = Obj (record { 0 = 1 }) } ∷ record { at = 1; what = Ready (record { 0 = 20 }) } ∷ record { at = 11; what = Obj (record { 0 = 0 }) } ∷ record { at = 29; what = Obj (record { 0 = 0 }) } ∷ record { at = 29; what = Obj (record { 0 = 1 }) } ∷ record { at = 29; what = Ready (record { 0 = 20 }) } ∷ record { at = 44; what = Obj (record { 0 = 0 }) } ∷ record { at = 44; what = Obj (record { 0 = 1 }) } ∷ record { at = 44; what = Ready (record { 0 = 20 }) } ∷ record { at = 63; what = Obj (record { 0 = 0 }) } ∷ record { at = 63; what = Obj (record { 0 = 1 }) } ∷ record { at = 63; what = Ready (record { 0 = 20 }) } ∷ record { at = 81; what = Obj (record { 0 = 0 }) } ∷ record { at = 81; what = Obj (record { 0 = 1 }) } ∷ record { at = 81; what = Ready (record { 0 = 20 }) } ∷ record { at = 119; what = Obj (record { 0 = 0 }) } ∷ record { at = 119; what = Obj (record { 0 = 1 }) } ∷ record { at = 119; what = Ready (record { 0 = 20 }) } ∷ record { at = 132; what = Obj (record { 0 = 0 }) } ∷ record { at = 132; what = Obj (record { 0 = 1 }) } ∷ record { at = 132; what = Ready (record { 0 = 20 }) } ∷ record { at = 140; what = Ready (record { 0 = 20 }) } ∷ [] }

-- A task waits for a semaphore and a queue: one message answers it and takes it from both lists; an abort ends the wait without
-- one; from all that are ready one is taken each.
several_objects : run_text serves_all Direct image_7 list_7 80 ≡ codes "0 0 start b\n1 1 look s fwd back\n1 1 look q fwd back\n1 1 look 20 fwd 1 back 1\n4 4 call b OSSemPend 0 0 0\n10 4 wait b OSSemPend\n10 4 sw b a\n11 5 look s fwd 0 back 0\n17 11 call a OSPendMulti 1048576 2 0 0\n28 11 wait a OSPendMulti\n28 11 sw a d\n29 12 look s fwd 0 1 back 1 0\n29 12 look q fwd 1 back 1\n29 12 look 20 fwd back\n34 17 call d OSQPost 1 100 4 0\n43 17 ret d OSQPost OS_ERR_NONE 0\n43 17 sw d a\n44 18 look s fwd 0 back 0\n44 18 look q fwd back\n44 18 look 20 fwd 1 back 1\n44 18 ret a OSPendMulti OS_ERR_NONE 1 tab 1:100:4 0\n51 25 call a OSPendMulti 1048576 2 0 0\n62 25 wait a OSPendMulti\n62 25 sw a d\n63 26 look s fwd 0 1 back 1 0\n63 26 look q fwd 1 back 1\n63 26 look 20 fwd back\n66 29 call d OSSemPendAbort 0 1\n80 29 ret d OSSemPendAbort OS_ERR_NONE 2\n80 29 sw d b\n81 30 look s fwd back\n81 30 look q fwd back\n81 30 look 20 fwd 1 back 1\n81 30 ret b OSSemPend OS_ERR_PEND_ABORT 0\n85 34 call b OSTaskSuspend 4294967295\n89 34 wait b OSTaskSuspend\n89 34 sw b a\n90 35 ret a OSPendMulti OS_ERR_PEND_ABORT 0 tab 0 0\n97 42 call a OSPendMulti 1048576 2 0 1\n101 42 ret a OSPendMulti OS_ERR_PEND_WOULD_BLOCK 0\n108 49 call a OSPendMulti 1048576 2 0 0\n118 49 wait a OSPendMulti\n118 49 sw a d\n119 50 look s fwd 1 back 1\n119 50 look q fwd 1 back 1\n119 50 look 20 fwd back\n122 53 call d OSSemPost 0 0\n131 53 ret d OSSemPost OS_ERR_NONE 0\n131 53 sw d a\n132 54 look s fwd back\n132 54 look q fwd back\n132 54 look 20 fwd 1 back 1\n132 54 ret a OSPendMulti OS_ERR_NONE 1 tab 0 1:0:0\n135 57 call a OSTaskSuspend 4294967295\n139 57 wait a OSTaskSuspend\n139 57 sw a d\n140 58 look 20 fwd back\n145 63 call d OSQPost 1 101 8 0\n147 63 ret d OSQPost OS_ERR_NONE 0\n151 67 call d OSSemPost 0 0\n153 67 ret d OSSemPost OS_ERR_NONE 1\n160 74 call d OSPendMulti 1048576 2 0 0\n164 74 ret d OSPendMulti OS_ERR_NONE 2 tab 1:101:8 1:0:0\n168 78 call d OSTaskSuspend 4294967295\n172 78 wait d OSTaskSuspend\n172 78 sw d idle\n174 80 end\n"
unfolding digits cost decoded
several_objects = refl

abbrev image_8 : ImageRecord
image_8 = record { tasks = record { name = codes "a"; entry = 0; prio = 10; quanta = 0; qsize = 0; sp = 1310720; line = 0 } ∷ record { name = codes "b"; entry = 92; prio = 10; quanta = 0; qsize = 0; sp = 1306624; line = 0 } ∷ record { name = codes "d"; entry = 112; prio = 20; quanta = 0; qsize = 0; sp = 1302528; line = 0 } ∷ []; objects = record { name = codes "s"; kind = Sem; f = 0 ∷ 0 ∷ 0 ∷ 0 ∷ []; line = 0 } ∷ []; vectors = []; code = 2098451 ∷ 1427 ∷ 26216595 ∷ 115 ∷ 28313747 ∷ 115 ∷ 9438483 ∷ 1427 ∷ 26216595 ∷ 115 ∷ 3147027 ∷ 1050003 ∷ 26216595 ∷ 115 ∷ 1299 ∷ 1050003 ∷ 1555 ∷ 7342227 ∷ 115 ∷ 4293920019 ∷ 29362323 ∷ 115 ∷ 4284477551 ∷ 2098451 ∷ 1427 ∷ 26216595 ∷ 115 ∷ 4263506031 ∷ 6293651 ∷ 115 ∷ 6293651 ∷ 115 ∷ 1299 ∷ 27265171 ∷ 115 ∷ 6293651 ∷ 115 ∷ 6293651 ∷ 115 ∷ 1299 ∷ 27265171 ∷ 115 ∷ 28313747 ∷ 115 ∷ 4195603 ∷ 1050003 ∷ 26216595 ∷ 115 ∷ 4175425647 ∷ []; ram = []; config = record { isr_limit = 256; defer_size = 16; pool = 64; tmr_div = 10; round_robin = 1; quanta = 10; tick_prio = 1; tmr_prio = 62; tmr_sp = 1310720; insert = 0 } }

abbrev list_8 : ListRecord
list_8 = record { injections = []; looks = record { at = 1; what = Obj (record { 0 = 0 }) } ∷ record { at = 1; what = Ready (record { 0 = 1 }) } ∷ record { at = 1; what = Ready (record { 0 = 10 }) } ∷ record { at = 1; what = Ready (record { 0 = 20 }) } ∷ record { at = 8; what = Ready (record { 0 = 10 }) } ∷ record { at = 16; what = Ready (record { 0 = 10 }) } ∷ record { at = 23; what = Ready (record { 0 = 1 }) } ∷ record { at = 28; what = Ready (record { 0 = 1 }) } ∷ record { at = 35; what = Ready (record { 0 = 1 }) } ∷ record { at = 46; what = Ready (record { 0 = 1 }) } ∷ record { at = 46; what = Ready (record { 0 = 10 }) } ∷ record { at = 55; what = Ready (record { 0 = 10 }) } ∷ record { at = 68; what = Ready (record { 0 = 10 }) } ∷ record { at = 76; what = Ready (record { 0 = 10 }) } ∷ record { at = 85; what = Ready (record { 0 = 10 }) } ∷ record { at = 92; what = Ready (record { 0 = 1 }) } ∷ record { at = 100; what = Ready (record { 0 = 1 }) } ∷ record { at = 100; what = Ready (record { 0 = 10 }) } ∷ record { at = 112; what = Obj (record { 0 = 0 }) } ∷ record { at = 112; what = Ready (record { 0 = 10 }) } ∷ record { at = 119; what = Ready (record { 0 = 1 }) } ∷ record { at = 129; what = Obj (record { 0 = 0 }) } ∷ record { at = 129; what = Ready (record { 0 = 1 }) } ∷ record { at = 129; what = Ready (record { 0 = 10 }) } ∷ record { at = 137; what = Ready (record { 0 = 10 }) } ∷ record { at = 160; what = Ready (record { 0 = 20 }) } ∷ [] }

-- Each call of OSTimeTick lets the tick task do one unit, which counts and wakes whose time has come: after a delay, at a match, or
-- at a timeout; a delay can be ended before.
delays : run_text serves_all Direct image_8 list_8 64 ≡ codes "0 0 start a\n1 1 look s fwd back\n1 1 look 1 fwd back\n1 1 look 10 fwd 0 1 back 1 0\n1 1 look 20 fwd 2 back 2\n3 3 call a OSTimeDly 2 0\n7 3 wait a OSTimeDly\n7 3 sw a b\n8 4 look 10 fwd 1 back 1\n11 7 call b OSTimeDly 2 0\n15 7 wait b OSTimeDly\n15 7 sw b d\n16 8 look 10 fwd back\n17 9 call d OSTimeTick\n22 9 ret d OSTimeTick OS_ERR_NONE 0\n22 9 sw d tick\n23 10 look 1 fwd 60 back 60\n27 10 tick 1\n27 10 sw tick d\n28 11 look 1 fwd back\n29 12 call d OSTimeTick\n34 12 ret d OSTimeTick OS_ERR_NONE 0\n34 12 sw d tick\n35 13 look 1 fwd 60 back 60\n45 13 tick 2\n45 13 sw tick b\n46 14 look 1 fwd back\n46 14 look 10 fwd 1 0 back 0 1\n46 14 ret b OSTimeDly OS_ERR_NONE 0\n50 18 call b OSTaskSuspend 4294967295\n54 18 wait b OSTaskSuspend\n54 18 sw b a\n55 19 look 10 fwd 0 back 0\n55 19 ret a OSTimeDly OS_ERR_NONE 0\n57 21 call a OSTimeGet\n59 21 ret a OSTimeGet OS_ERR_NONE 2\n63 25 call a OSTimeDly 9 0\n67 25 wait a OSTimeDly\n67 25 sw a d\n68 26 look 10 fwd back\n70 28 call d OSTimeDlyResume 0\n75 28 ret d OSTimeDlyResume OS_ERR_NONE 0\n75 28 sw d a\n76 29 look 10 fwd 0 back 0\n76 29 ret a OSTimeDly OS_ERR_NONE 0\n80 33 call a OSTimeDly 3 1\n84 33 wait a OSTimeDly\n84 33 sw a d\n85 34 look 10 fwd back\n86 35 call d OSTimeTick\n91 35 ret d OSTimeTick OS_ERR_NONE 0\n91 35 sw d tick\n92 36 look 1 fwd 60 back 60\n99 36 tick 3\n99 36 sw tick a\n100 37 look 1 fwd back\n100 37 look 10 fwd 0 back 0\n100 37 ret a OSTimeDly OS_ERR_NONE 0\n105 42 call a OSSemPend 0 1 0\n111 42 wait a OSSemPend\n111 42 sw a d\n112 43 look s fwd 0 back 0\n112 43 look 10 fwd back\n113 44 call d OSTimeTick\n118 44 ret d OSTimeTick OS_ERR_NONE 0\n118 44 sw d tick\n119 45 look 1 fwd 60 back 60\n128 45 tick 4\n128 45 sw tick a\n129 46 look s fwd back\n129 46 look 1 fwd back\n129 46 look 10 fwd 0 back 0\n129 46 ret a OSSemPend OS_ERR_TIMEOUT 0\n132 49 call a OSTaskSuspend 4294967295\n136 49 wait a OSTaskSuspend\n136 49 sw a d\n137 50 look 10 fwd back\n139 52 call d OSTimeDlyResume 0\n141 52 ret d OSTimeDlyResume OS_ERR_TASK_NOT_DLY 0\n143 54 call d OSTimeGet\n145 54 ret d OSTimeGet OS_ERR_NONE 4\n149 58 call d OSTimeDly 4 1\n151 58 ret d OSTimeDly OS_ERR_TIME_ZERO_DLY 0\n155 62 call d OSTaskSuspend 4294967295\n159 62 wait d OSTaskSuspend\n159 62 sw d idle\n160 63 look 20 fwd back\n161 64 end\n"
unfolding digits cost decoded
delays = refl

abbrev image_9 : ImageRecord
image_9 = record { tasks = record { name = codes "a"; entry = 0; prio = 10; quanta = 0; qsize = 0; sp = 1310720; line = 0 } ∷ record { name = codes "d"; entry = 56; prio = 20; quanta = 0; qsize = 0; sp = 1302528; line = 0 } ∷ record { name = codes "b"; entry = 40; prio = 30; quanta = 0; qsize = 0; sp = 1306624; line = 0 } ∷ []; objects = record { name = codes "s"; kind = Sem; f = 0 ∷ 0 ∷ 0 ∷ 0 ∷ []; line = 0 } ∷ []; vectors = []; code = 1299 ∷ 1427 ∷ 1555 ∷ 7342227 ∷ 115 ∷ 1299 ∷ 1427 ∷ 1555 ∷ 7342227 ∷ 115 ∷ 4293920019 ∷ 29362323 ∷ 115 ∷ 4284477551 ∷ 1299 ∷ 29362323 ∷ 115 ∷ 1299 ∷ 29362323 ∷ 115 ∷ 1299 ∷ 1427 ∷ 1050771 ∷ 115 ∷ 1299 ∷ 30410899 ∷ 115 ∷ 1299 ∷ 30410899 ∷ 115 ∷ 2098451 ∷ 29362323 ∷ 115 ∷ 2098451 ∷ 30410899 ∷ 115 ∷ 2098451 ∷ 30410899 ∷ 115 ∷ 2098451 ∷ 31459475 ∷ 115 ∷ 1299 ∷ 31459475 ∷ 115 ∷ 4293920019 ∷ 31459475 ∷ 115 ∷ []; ram = []; config = record { isr_limit = 256; defer_size = 16; pool = 64; tmr_div = 10; round_robin = 1; quanta = 10; tick_prio = 1; tmr_prio = 62; tmr_sp = 1310720; insert = 0 } }

abbrev list_9 : ListRecord
list_9 = record { injections = []; looks = record { at = 1; what = Obj (record { 0 = 0 }) } ∷ record { at = 1; what = Ready (record { 0 = 10 }) } ∷ record { at = 1; what = Ready (record { 0 = 20 }) } ∷ record { at = 1; what = Ready (record { 0 = 30 }) } ∷ record { at = 11; what = Obj (record { 0 = 0 }) } ∷ record { at = 11; what = Ready (record { 0 = 10 }) } ∷ record { at = 29; what = Obj (record { 0 = 0 }) } ∷ record { at = 42; what = Ready (record { 0 = 10 }) } ∷ record { at = 54; what = Obj (record { 0 = 0 }) } ∷ record { at = 54; what = Ready (record { 0 = 10 }) } ∷ record { at = 61; what = Ready (record { 0 = 30 }) } ∷ record { at = 69; what = Ready (record { 0 = 30 }) } ∷ record { at = 81; what = Ready (record { 0 = 30 }) } ∷ record { at = 88; what = Obj (record { 0 = 0 }) } ∷ record { at = 95; what = Ready (record { 0 = 20 }) } ∷ [] }

-- A suspended task is not ready until it was resumed as often, also where its wait ends meanwhile; a deleted task leaves all lists,
-- its own deletion has no answer.
suspended_tasks : run_text serves_all Direct image_9 list_9 46 ≡ codes "0 0 start a\n1 1 look s fwd back\n1 1 look 10 fwd 0 back 0\n1 1 look 20 fwd 1 back 1\n1 1 look 30 fwd 2 back 2\n4 4 call a OSSemPend 0 0 0\n10 4 wait a OSSemPend\n10 4 sw a d\n11 5 look s fwd 0 back 0\n11 5 look 10 fwd back\n13 7 call d OSTaskSuspend 0\n15 7 ret d OSTaskSuspend OS_ERR_NONE 0\n18 10 call d OSTaskSuspend 0\n20 10 ret d OSTaskSuspend OS_ERR_NONE 0\n24 14 call d OSSemPost 0 0\n28 14 ret d OSSemPost OS_ERR_NONE 0\n29 15 look s fwd back\n31 17 call d OSTaskResume 0\n33 17 ret d OSTaskResume OS_ERR_NONE 0\n36 20 call d OSTaskResume 0\n41 20 ret d OSTaskResume OS_ERR_NONE 0\n41 20 sw d a\n42 21 look 10 fwd 0 back 0\n42 21 ret a OSSemPend OS_ERR_NONE 0\n47 26 call a OSSemPend 0 0 0\n53 26 wait a OSSemPend\n53 26 sw a d\n54 27 look s fwd 0 back 0\n54 27 look 10 fwd back\n56 29 call d OSTaskSuspend 2\n60 29 ret d OSTaskSuspend OS_ERR_NONE 0\n61 30 look 30 fwd back\n63 32 call d OSTaskResume 2\n68 32 ret d OSTaskResume OS_ERR_NONE 0\n69 33 look 30 fwd 2 back 2\n71 35 call d OSTaskResume 2\n73 35 ret d OSTaskResume OS_ERR_TASK_NOT_SUSPENDED 0\n76 38 call d OSTaskDel 2\n80 38 ret d OSTaskDel OS_ERR_NONE 0\n81 39 look 30 fwd back\n83 41 call d OSTaskDel 0\n87 41 ret d OSTaskDel OS_ERR_NONE 0\n88 42 look s fwd back\n90 44 call d OSTaskDel 4294967295\n94 44 gone d\n94 44 sw d idle\n95 45 look 20 fwd back\n96 46 end\n"
unfolding digits cost decoded
suspended_tasks = refl

abbrev image_10 : ImageRecord
image_10 = record { tasks = record { name = codes "a"; entry = 112; prio = 10; quanta = 0; qsize = 0; sp = 1310720; line = 0 } ∷ record { name = codes "b"; entry = 136; prio = 11; quanta = 0; qsize = 0; sp = 1306624; line = 0 } ∷ record { name = codes "c"; entry = 160; prio = 12; quanta = 0; qsize = 0; sp = 1302528; line = 0 } ∷ record { name = codes "d"; entry = 188; prio = 13; quanta = 0; qsize = 0; sp = 1298432; line = 0 } ∷ record { name = codes "e"; entry = 208; prio = 14; quanta = 0; qsize = 1; sp = 1294336; line = 0 } ∷ record { name = codes "g"; entry = 228; prio = 15; quanta = 0; qsize = 0; sp = 1290240; line = 0 } ∷ []; objects = record { name = codes "s"; kind = Sem; f = 0 ∷ 0 ∷ 0 ∷ 0 ∷ []; line = 0 } ∷ record { name = codes "q"; kind = Queue; f = 1 ∷ 0 ∷ 0 ∷ 0 ∷ []; line = 0 } ∷ record { name = codes "f"; kind = Flags; f = 0 ∷ 0 ∷ 0 ∷ 0 ∷ []; line = 0 } ∷ []; vectors = record { number = 3; level = 2; entry = 0; sp = 1286144; line = 0 } ∷ []; code = 1299 ∷ 1427 ∷ 1050771 ∷ 115 ∷ 1049875 ∷ 104859027 ∷ 4195859 ∷ 1683 ∷ 2099347 ∷ 115 ∷ 2098451 ∷ 1050003 ∷ 1555 ∷ 3147923 ∷ 115 ∷ 3147027 ∷ 1427 ∷ 4196499 ∷ 115 ∷ 4195603 ∷ 105907603 ∷ 8390163 ∷ 1683 ∷ 5245075 ∷ 115 ∷ 6293651 ∷ 115 ∷ 32871 ∷ 1299 ∷ 1427 ∷ 1555 ∷ 7342227 ∷ 115 ∷ 117440623 ∷ 1049875 ∷ 1427 ∷ 1555 ∷ 8390803 ∷ 115 ∷ 92274799 ∷ 2098451 ∷ 1050003 ∷ 1555 ∷ 1683 ∷ 9439379 ∷ 115 ∷ 62914671 ∷ 1299 ∷ 1427 ∷ 11536531 ∷ 115 ∷ 41943151 ∷ 1299 ∷ 1427 ∷ 12585107 ∷ 115 ∷ 20971631 ∷ 1049875 ∷ 1427 ∷ 26216595 ∷ 115 ∷ 4293920019 ∷ 29362323 ∷ 115 ∷ 4284477551 ∷ []; ram = []; config = record { isr_limit = 256; defer_size = 16; pool = 64; tmr_div = 10; round_robin = 1; quanta = 10; tick_prio = 1; tmr_prio = 62; tmr_sp = 1310720; insert = 0 } }

abbrev list_10 : ListRecord
list_10 = record { injections = record { moment = Task 30; vector = 3; words = 0 ∷ 0 ∷ 0 ∷ 0 ∷ []; count = 0 } ∷ []; looks = record { at = 1; what = Obj (record { 0 = 0 }) } ∷ record { at = 1; what = Obj (record { 0 = 1 }) } ∷ record { at = 1; what = Obj (record { 0 = 2 }) } ∷ record { at = 1; what = Ready (record { 0 = 1 }) } ∷ record { at = 1; what = Ready (record { 0 = 10 }) } ∷ record { at = 1; what = Ready (record { 0 = 11 }) } ∷ record { at = 1; what = Ready (record { 0 = 12 }) } ∷ record { at = 1; what = Ready (record { 0 = 13 }) } ∷ record { at = 1; what = Ready (record { 0 = 14 }) } ∷ record { at = 1; what = Ready (record { 0 = 15 }) } ∷ record { at = 11; what = Obj (record { 0 = 0 }) } ∷ record { at = 11; what = Ready (record { 0 = 10 }) } ∷ record { at = 22; what = Obj (record { 0 = 1 }) } ∷ record { at = 22; what = Ready (record { 0 = 11 }) } ∷ record { at = 34; what = Obj (record { 0 = 2 }) } ∷ record { at = 34; what = Ready (record { 0 = 12 }) } ∷ record { at = 42; what = Ready (record { 0 = 13 }) } ∷ record { at = 50; what = Ready (record { 0 = 14 }) } ∷ record { at = 58; what = Ready (record { 0 = 15 }) } ∷ record { at = 96; what = Obj (record { 0 = 0 }) } ∷ record { at = 96; what = Ready (record { 0 = 10 }) } ∷ record { at = 104; what = Obj (record { 0 = 1 }) } ∷ record { at = 104; what = Ready (record { 0 = 11 }) } ∷ record { at = 113; what = Obj (record { 0 = 2 }) } ∷ record { at = 113; what = Ready (record { 0 = 12 }) } ∷ record { at = 119; what = Ready (record { 0 = 13 }) } ∷ record { at = 125; what = Ready (record { 0 = 14 }) } ∷ record { at = 131; what = Ready (record { 0 = 1 }) } ∷ record { at = 139; what = Ready (record { 0 = 1 }) } ∷ record { at = 139; what = Ready (record { 0 = 15 }) } ∷ record { at = 148; what = Ready (record { 0 = 10 }) } ∷ record { at = 157; what = Ready (record { 0 = 11 }) } ∷ record { at = 166; what = Ready (record { 0 = 12 }) } ∷ record { at = 175; what = Ready (record { 0 = 13 }) } ∷ record { at = 184; what = Ready (record { 0 = 14 }) } ∷ record { at = 192; what = Ready (record { 0 = 15 }) } ∷ [] }

-- The six posts that interrupt code may use wait until the handler takes them, one after the other; each then wakes its task as a call
-- would, and the tick task does its unit.
interrupt_posts : run_text serves_all Deferred image_10 list_10 61 ≡ codes "0 0 start a\n1 1 look s fwd back\n1 1 look q fwd back\n1 1 look f fwd back\n1 1 look 1 fwd back\n1 1 look 10 fwd 0 back 0\n1 1 look 11 fwd 1 back 1\n1 1 look 12 fwd 2 back 2\n1 1 look 13 fwd 3 back 3\n1 1 look 14 fwd 4 back 4\n1 1 look 15 fwd 5 back 5\n4 4 call a OSSemPend 0 0 0\n10 4 wait a OSSemPend\n10 4 sw a b\n11 5 look s fwd 0 back 0\n11 5 look 10 fwd back\n15 9 call b OSQPend 1 0 0\n21 9 wait b OSQPend\n21 9 sw b c\n22 10 look q fwd 1 back 1\n22 10 look 11 fwd back\n27 15 call c OSFlagPend 2 1 0 0\n33 15 wait c OSFlagPend\n33 15 sw c d\n34 16 look f fwd 2 back 2\n34 16 look 12 fwd back\n37 19 call d OSTaskSemPend 0 0\n41 19 wait d OSTaskSemPend\n41 19 sw d e\n42 20 look 13 fwd back\n45 23 call e OSTaskQPend 0 0\n49 23 wait e OSTaskQPend\n49 23 sw e g\n50 24 look 14 fwd back\n53 27 call g OSTimeDly 1 0\n57 27 wait g OSTimeDly\n57 27 sw g idle\n58 28 look 15 fwd back\n60 30 irq 3 2\n63 30 post 3 OSSemPost 0 0 OS_ERR_NONE 0\n69 30 post 3 OSQPost 1 100 4 0 OS_ERR_NONE 0\n74 30 post 3 OSFlagPost 2 1 0 OS_ERR_NONE 0\n78 30 post 3 OSTaskSemPost 3 0 OS_ERR_NONE 0\n84 30 post 3 OSTaskQPost 4 101 8 0 OS_ERR_NONE 0\n86 30 post 3 OSTimeTick OS_ERR_NONE 0\n87 30 exit 3 ret\n95 30 take OSSemPost 0 0 OS_ERR_NONE 0\n96 30 look s fwd back\n96 30 look 10 fwd 0 back 0\n103 30 take OSQPost 1 100 4 0 OS_ERR_NONE 0\n104 30 look q fwd back\n104 30 look 11 fwd 1 back 1\n112 30 take OSFlagPost 2 1 0 OS_ERR_NONE 1\n113 30 look f fwd back\n113 30 look 12 fwd 2 back 2\n118 30 take OSTaskSemPost 3 0 OS_ERR_NONE 0\n119 30 look 13 fwd 3 back 3\n124 30 take OSTaskQPost 4 101 8 0 OS_ERR_NONE 0\n125 30 look 14 fwd 4 back 4\n130 30 take OSTimeTick OS_ERR_NONE 0\n130 30 sw idle tick\n131 30 look 1 fwd 60 back 60\n138 30 tick 1\n138 30 sw tick a\n139 31 look 1 fwd back\n139 31 look 15 fwd 5 back 5\n139 31 ret a OSSemPend OS_ERR_NONE 0\n143 35 call a OSTaskSuspend 4294967295\n147 35 wait a OSTaskSuspend\n147 35 sw a b\n148 36 look 10 fwd back\n148 36 ret b OSQPend OS_ERR_NONE 100 4\n152 40 call b OSTaskSuspend 4294967295\n156 40 wait b OSTaskSuspend\n156 40 sw b c\n157 41 look 11 fwd back\n157 41 ret c OSFlagPend OS_ERR_NONE 1\n161 45 call c OSTaskSuspend 4294967295\n165 45 wait c OSTaskSuspend\n165 45 sw c d\n166 46 look 12 fwd back\n166 46 ret d OSTaskSemPend OS_ERR_NONE 0\n170 50 call d OSTaskSuspend 4294967295\n174 50 wait d OSTaskSuspend\n174 50 sw d e\n175 51 look 13 fwd back\n175 51 ret e OSTaskQPend OS_ERR_NONE 101 8\n179 55 call e OSTaskSuspend 4294967295\n183 55 wait e OSTaskSuspend\n183 55 sw e g\n184 56 look 14 fwd back\n184 56 ret g OSTimeDly OS_ERR_NONE 0\n187 59 call g OSTaskSuspend 4294967295\n191 59 wait g OSTaskSuspend\n191 59 sw g idle\n192 60 look 15 fwd back\n193 61 end\n"
unfolding digits cost decoded
interrupt_posts = refl

abbrev image_11 : ImageRecord
image_11 = record { tasks = record { name = codes "a"; entry = 0; prio = 10; quanta = 1; qsize = 0; sp = 1310720; line = 0 } ∷ record { name = codes "b"; entry = 0; prio = 10; quanta = 2; qsize = 0; sp = 1306624; line = 0 } ∷ record { name = codes "c"; entry = 52; prio = 10; quanta = 2; qsize = 0; sp = 1302528; line = 0 } ∷ record { name = codes "e"; entry = 32; prio = 5; quanta = 0; qsize = 0; sp = 1298432; line = 0 } ∷ []; objects = []; vectors = []; code = 32508051 ∷ 115 ∷ 6293651 ∷ 115 ∷ 4293920019 ∷ 29362323 ∷ 115 ∷ 4284477551 ∷ 1299 ∷ 1427 ∷ 11536531 ∷ 115 ∷ 4263506031 ∷ 33556627 ∷ 115 ∷ 33556627 ∷ 115 ∷ 3147027 ∷ 1427 ∷ 4196499 ∷ 115 ∷ 34605203 ∷ 115 ∷ 34605203 ∷ 115 ∷ 4208980079 ∷ []; ram = []; config = record { isr_limit = 256; defer_size = 16; pool = 64; tmr_div = 10; round_robin = 1; quanta = 10; tick_prio = 1; tmr_prio = 62; tmr_sp = 1310720; insert = 0 } }

abbrev list_11 : ListRecord
list_11 = record { injections = []; looks = record { at = 1; what = Ready (record { 0 = 10 }) } ∷ record { at = 1; what = Ready (record { 0 = 5 }) } ∷ record { at = 8; what = Ready (record { 0 = 5 }) } ∷ record { at = 17; what = Ready (record { 0 = 10 }) } ∷ record { at = 26; what = Ready (record { 0 = 10 }) } ∷ record { at = 43; what = Ready (record { 0 = 5 }) } ∷ record { at = 60; what = Ready (record { 0 = 5 }) } ∷ record { at = 68; what = Ready (record { 0 = 10 }) } ∷ record { at = 80; what = Ready (record { 0 = 10 }) } ∷ record { at = 104; what = Ready (record { 0 = 10 }) } ∷ record { at = 111; what = Ready (record { 0 = 10 }) } ∷ [] }

-- A yield puts the caller at the tail of its list, and so does the last tick of a quantum; while the scheduler is locked nobody else
-- runs.
round_robin : run_text serves_all Direct image_11 list_11 42 ≡ codes "0 0 start e\n1 1 look 10 fwd 0 1 2 back 2 1 0\n1 1 look 5 fwd 3 back 3\n3 3 call e OSTaskSemPend 0 0\n7 3 wait e OSTaskSemPend\n7 3 sw e a\n8 4 look 5 fwd back\n9 5 call a OSSchedRoundRobinYield\n16 5 ret a OSSchedRoundRobinYield OS_ERR_NONE 0\n16 5 sw a b\n17 6 look 10 fwd 1 2 0 back 0 2 1\n18 7 call b OSSchedRoundRobinYield\n25 7 ret b OSSchedRoundRobinYield OS_ERR_NONE 0\n25 7 sw b c\n26 8 look 10 fwd 2 0 1 back 1 0 2\n27 9 call c OSSchedLock\n29 9 ret c OSSchedLock OS_ERR_NONE 1\n31 11 call c OSSchedLock\n33 11 ret c OSSchedLock OS_ERR_NONE 2\n37 15 call c OSTaskSemPost 3 0\n42 15 ret c OSTaskSemPost OS_ERR_NONE 0\n43 16 look 5 fwd 3 back 3\n44 17 call c OSSchedUnlock\n46 17 ret c OSSchedUnlock OS_ERR_SCHED_LOCKED 1\n48 19 call c OSSchedUnlock\n50 19 ret c OSSchedUnlock OS_ERR_NONE 0\n50 19 sw c e\n51 20 ret e OSTaskSemPend OS_ERR_NONE 0\n55 24 call e OSTaskSuspend 4294967295\n59 24 wait e OSTaskSuspend\n59 24 sw e c\n60 25 look 5 fwd back\n63 28 call c OSTaskSuspend 4294967295\n67 28 wait c OSTaskSuspend\n67 28 sw c a\n68 29 look 10 fwd 0 1 back 1 0\n69 30 call a OSTimeTick\n79 30 ret a OSTimeTick OS_ERR_NONE 0\n79 30 sw a tick\n80 31 look 10 fwd 1 0 back 0 1\n84 31 tick 1\n84 31 sw tick b\n86 33 call b OSTimeTick\n91 33 ret b OSTimeTick OS_ERR_NONE 0\n91 33 sw b tick\n96 34 tick 2\n96 34 sw tick b\n99 37 call b OSTaskSuspend 4294967295\n103 37 wait b OSTaskSuspend\n103 37 sw b a\n104 38 look 10 fwd 0 back 0\n106 40 call a OSTaskSuspend 4294967295\n110 40 wait a OSTaskSuspend\n110 40 sw a idle\n111 41 look 10 fwd back\n112 42 end\n"
unfolding digits cost decoded
round_robin = refl

abbrev image_12 : ImageRecord
image_12 = record { tasks = record { name = codes "d"; entry = 16; prio = 20; quanta = 0; qsize = 0; sp = 1302528; line = 0 } ∷ record { name = codes "l"; entry = 220; prio = 40; quanta = 0; qsize = 0; sp = 1298432; line = 0 } ∷ []; objects = record { name = codes "p"; kind = Periodic; f = 1 ∷ 2 ∷ 0 ∷ 77 ∷ []; line = 0 } ∷ record { name = codes "o"; kind = OneShot; f = 1 ∷ 0 ∷ 4294967295 ∷ 0 ∷ []; line = 0 } ∷ []; vectors = []; code = 1049271 ∷ 164499 ∷ 11706403 ∷ 32871 ∷ 1299 ∷ 38799507 ∷ 115 ∷ 1299 ∷ 35653779 ∷ 115 ∷ 1049875 ∷ 35653779 ∷ 115 ∷ 1299 ∷ 38799507 ∷ 115 ∷ 1299 ∷ 37750931 ∷ 115 ∷ 6293651 ∷ 115 ∷ 1299 ∷ 1427 ∷ 11536531 ∷ 115 ∷ 1299 ∷ 38799507 ∷ 115 ∷ 1049875 ∷ 38799507 ∷ 115 ∷ 1299 ∷ 37750931 ∷ 115 ∷ 1299 ∷ 1427 ∷ 36702355 ∷ 115 ∷ 1299 ∷ 38799507 ∷ 115 ∷ 1299 ∷ 1427 ∷ 36702355 ∷ 115 ∷ 1299 ∷ 39848083 ∷ 115 ∷ 1299 ∷ 38799507 ∷ 115 ∷ 4293920019 ∷ 29362323 ∷ 115 ∷ 4284477551 ∷ 1299 ∷ 1427 ∷ 4196499 ∷ 115 ∷ 4263506031 ∷ []; ram = 0 ∷ []; config = record { isr_limit = 256; defer_size = 16; pool = 64; tmr_div = 1; round_robin = 1; quanta = 10; tick_prio = 1; tmr_prio = 30; tmr_sp = 1310720; insert = 0 } }

abbrev list_12 : ListRecord
list_12 = record { injections = []; looks = record { at = 1; what = Ready (record { 0 = 1 }) } ∷ record { at = 1; what = Ready (record { 0 = 30 }) } ∷ record { at = 1; what = Ready (record { 0 = 20 }) } ∷ record { at = 1; what = Ready (record { 0 = 40 }) } ∷ record { at = 35; what = Ready (record { 0 = 1 }) } ∷ record { at = 35; what = Ready (record { 0 = 30 }) } ∷ record { at = 40; what = Ready (record { 0 = 1 }) } ∷ record { at = 48; what = Ready (record { 0 = 20 }) } ∷ record { at = 66; what = Ready (record { 0 = 30 }) } ∷ record { at = 75; what = Ready (record { 0 = 20 }) } ∷ record { at = 125; what = Ready (record { 0 = 20 }) } ∷ record { at = 133; what = Ready (record { 0 = 40 }) } ∷ [] }

-- A started timer counts down with the units of the timer task: its callback runs as code of that task, behind it the next timer
-- that is due fires, and then the unit ends; a periodic timer goes on, until it is stopped or deleted.
timers : run_text serves_all Direct image_12 list_12 69 ≡ codes "0 0 start d\n1 1 look 1 fwd back\n1 1 look 30 fwd back\n1 1 look 20 fwd 0 back 0\n1 1 look 40 fwd 1 back 1\n2 2 call d OSTmrStateGet 0\n4 2 ret d OSTmrStateGet OS_ERR_NONE 1\n7 5 call d OSTmrStart 0\n9 5 ret d OSTmrStart OS_ERR_NONE 0\n12 8 call d OSTmrStart 1\n14 8 ret d OSTmrStart OS_ERR_NONE 0\n17 11 call d OSTmrStateGet 0\n19 11 ret d OSTmrStateGet OS_ERR_NONE 2\n22 14 call d OSTmrRemainGet 0\n24 14 ret d OSTmrRemainGet OS_ERR_NONE 1\n26 16 call d OSTimeTick\n34 16 ret d OSTimeTick OS_ERR_NONE 0\n34 16 sw d tick\n35 17 look 1 fwd 60 back 60\n35 17 look 30 fwd 61 back 61\n39 17 tick 1\n39 17 sw tick d\n40 18 look 1 fwd back\n43 21 call d OSTaskSemPend 0 0\n47 21 wait d OSTaskSemPend\n47 21 sw d tmr\n48 22 look 20 fwd back\n50 22 tmr 1\n53 23 fire p\n56 26 st tmr 1048576 4 77\n60 28 fire o\n65 29 sw tmr l\n66 30 look 30 fwd back\n69 33 call l OSTaskSemPost 0 0\n74 33 ret l OSTaskSemPost OS_ERR_NONE 0\n74 33 sw l d\n75 34 look 20 fwd 0 back 0\n75 34 ret d OSTaskSemPend OS_ERR_NONE 0\n78 37 call d OSTmrStateGet 0\n80 37 ret d OSTmrStateGet OS_ERR_NONE 2\n83 40 call d OSTmrStateGet 1\n85 40 ret d OSTmrStateGet OS_ERR_NONE 3\n88 43 call d OSTmrRemainGet 0\n90 43 ret d OSTmrRemainGet OS_ERR_NONE 2\n94 47 call d OSTmrStop 0 0\n96 47 ret d OSTmrStop OS_ERR_NONE 0\n99 50 call d OSTmrStateGet 0\n101 50 ret d OSTmrStateGet OS_ERR_NONE 1\n105 54 call d OSTmrStop 0 0\n107 54 ret d OSTmrStop OS_ERR_TMR_STOPPED 0\n110 57 call d OSTmrDel 0\n112 57 ret d OSTmrDel OS_ERR_NONE 0\n115 60 call d OSTmrStateGet 0\n117 60 ret d OSTmrStateGet OS_ERR_OBJ_TYPE 0\n120 63 call d OSTaskSuspend 4294967295\n124 63 wait d OSTaskSuspend\n124 63 sw d l\n125 64 look 20 fwd back\n128 67 call l OSTaskSuspend 4294967295\n132 67 wait l OSTaskSuspend\n132 67 sw l idle\n133 68 look 40 fwd back\n134 69 end\n"
unfolding digits cost decoded
timers = refl

abbrev image_13 : ImageRecord
image_13 = record { tasks = record { name = codes "d"; entry = 0; prio = 20; quanta = 0; qsize = 0; sp = 1302528; line = 0 } ∷ []; objects = record { name = codes "p"; kind = Periodic; f = 0 ∷ 1 ∷ 4294967295 ∷ 0 ∷ []; line = 0 } ∷ record { name = codes "o"; kind = OneShot; f = 2 ∷ 0 ∷ 4294967295 ∷ 0 ∷ []; line = 0 } ∷ []; vectors = []; code = 1299 ∷ 37750931 ∷ 115 ∷ 1299 ∷ 35653779 ∷ 115 ∷ 1049875 ∷ 35653779 ∷ 115 ∷ 6293651 ∷ 115 ∷ 6293651 ∷ 115 ∷ 1299 ∷ 37750931 ∷ 115 ∷ 1049875 ∷ 35653779 ∷ 115 ∷ 6293651 ∷ 115 ∷ 6293651 ∷ 115 ∷ 6293651 ∷ 115 ∷ 6293651 ∷ 115 ∷ 1049875 ∷ 38799507 ∷ 115 ∷ 1049875 ∷ 37750931 ∷ 115 ∷ 1299 ∷ 39848083 ∷ 115 ∷ 6293651 ∷ 115 ∷ 6293651 ∷ 115 ∷ 4293920019 ∷ 29362323 ∷ 115 ∷ 4284477551 ∷ []; ram = []; config = record { isr_limit = 256; defer_size = 16; pool = 64; tmr_div = 2; round_robin = 1; quanta = 10; tick_prio = 1; tmr_prio = 10; tmr_sp = 1310720; insert = 0 } }

abbrev list_13 : ListRecord
list_13 = record { injections = []; looks = record { at = 1; what = Ready (record { 0 = 1 }) } ∷ record { at = 1; what = Ready (record { 0 = 10 }) } ∷ record { at = 22; what = Ready (record { 0 = 1 }) } ∷ record { at = 27; what = Ready (record { 0 = 1 }) } ∷ record { at = 37; what = Ready (record { 0 = 1 }) } ∷ record { at = 37; what = Ready (record { 0 = 10 }) } ∷ record { at = 42; what = Ready (record { 0 = 1 }) } ∷ record { at = 53; what = Ready (record { 0 = 10 }) } ∷ record { at = 70; what = Ready (record { 0 = 1 }) } ∷ record { at = 75; what = Ready (record { 0 = 1 }) } ∷ record { at = 85; what = Ready (record { 0 = 1 }) } ∷ record { at = 85; what = Ready (record { 0 = 10 }) } ∷ record { at = 90; what = Ready (record { 0 = 1 }) } ∷ record { at = 101; what = Ready (record { 0 = 10 }) } ∷ record { at = 108; what = Ready (record { 0 = 1 }) } ∷ record { at = 113; what = Ready (record { 0 = 1 }) } ∷ record { at = 123; what = Ready (record { 0 = 1 }) } ∷ record { at = 123; what = Ready (record { 0 = 10 }) } ∷ record { at = 128; what = Ready (record { 0 = 1 }) } ∷ record { at = 142; what = Ready (record { 0 = 10 }) } ∷ record { at = 164; what = Ready (record { 0 = 1 }) } ∷ record { at = 169; what = Ready (record { 0 = 1 }) } ∷ record { at = 179; what = Ready (record { 0 = 1 }) } ∷ record { at = 179; what = Ready (record { 0 = 10 }) } ∷ record { at = 184; what = Ready (record { 0 = 1 }) } ∷ record { at = 192; what = Ready (record { 0 = 10 }) } ∷ [] }

-- At every second call of OSTimeTick the timer task does its units: it counts, a periodic timer fires again and again, a one-shot timer
-- once, one that was started anew from then on, and a unit that finds none due ends.
timers_again : run_text serves_all Direct image_13 list_13 64 ≡ codes "0 0 start d\n1 1 look 1 fwd back\n1 1 look 10 fwd back\n2 2 call d OSTmrRemainGet 0\n4 2 ret d OSTmrRemainGet OS_ERR_NONE 1\n7 5 call d OSTmrStart 0\n9 5 ret d OSTmrStart OS_ERR_NONE 0\n12 8 call d OSTmrStart 1\n14 8 ret d OSTmrStart OS_ERR_NONE 0\n16 10 call d OSTimeTick\n21 10 ret d OSTimeTick OS_ERR_NONE 0\n21 10 sw d tick\n22 11 look 1 fwd 60 back 60\n26 11 tick 1\n26 11 sw tick d\n27 12 look 1 fwd back\n28 13 call d OSTimeTick\n36 13 ret d OSTimeTick OS_ERR_NONE 0\n36 13 sw d tick\n37 14 look 1 fwd 60 back 60\n37 14 look 10 fwd 61 back 61\n41 14 tick 2\n41 14 sw tick tmr\n42 15 look 1 fwd back\n44 15 tmr 1\n47 16 fire p\n52 17 sw tmr d\n53 18 look 10 fwd back\n55 20 call d OSTmrRemainGet 0\n57 20 ret d OSTmrRemainGet OS_ERR_NONE 1\n60 23 call d OSTmrStart 1\n62 23 ret d OSTmrStart OS_ERR_NONE 0\n64 25 call d OSTimeTick\n69 25 ret d OSTimeTick OS_ERR_NONE 0\n69 25 sw d tick\n70 26 look 1 fwd 60 back 60\n74 26 tick 3\n74 26 sw tick d\n75 27 look 1 fwd back\n76 28 call d OSTimeTick\n84 28 ret d OSTimeTick OS_ERR_NONE 0\n84 28 sw d tick\n85 29 look 1 fwd 60 back 60\n85 29 look 10 fwd 61 back 61\n89 29 tick 4\n89 29 sw tick tmr\n90 30 look 1 fwd back\n92 30 tmr 2\n95 31 fire p\n100 32 sw tmr d\n101 33 look 10 fwd back\n102 34 call d OSTimeTick\n107 34 ret d OSTimeTick OS_ERR_NONE 0\n107 34 sw d tick\n108 35 look 1 fwd 60 back 60\n112 35 tick 5\n112 35 sw tick d\n113 36 look 1 fwd back\n114 37 call d OSTimeTick\n122 37 ret d OSTimeTick OS_ERR_NONE 0\n122 37 sw d tick\n123 38 look 1 fwd 60 back 60\n123 38 look 10 fwd 61 back 61\n127 38 tick 6\n127 38 sw tick tmr\n128 39 look 1 fwd back\n130 39 tmr 3\n133 40 fire o\n136 41 fire p\n141 42 sw tmr d\n142 43 look 10 fwd back\n144 45 call d OSTmrStateGet 1\n146 45 ret d OSTmrStateGet OS_ERR_NONE 3\n149 48 call d OSTmrRemainGet 1\n151 48 ret d OSTmrRemainGet OS_ERR_NONE 0\n154 51 call d OSTmrDel 0\n156 51 ret d OSTmrDel OS_ERR_NONE 0\n158 53 call d OSTimeTick\n163 53 ret d OSTimeTick OS_ERR_NONE 0\n163 53 sw d tick\n164 54 look 1 fwd 60 back 60\n168 54 tick 7\n168 54 sw tick d\n169 55 look 1 fwd back\n170 56 call d OSTimeTick\n178 56 ret d OSTimeTick OS_ERR_NONE 0\n178 56 sw d tick\n179 57 look 1 fwd 60 back 60\n179 57 look 10 fwd 61 back 61\n183 57 tick 8\n183 57 sw tick tmr\n184 58 look 1 fwd back\n186 58 tmr 4\n191 59 sw tmr d\n192 60 look 10 fwd back\n194 62 call d OSTaskSuspend 4294967295\n198 62 wait d OSTaskSuspend\n198 62 sw d idle\n200 64 end\n"
unfolding digits cost decoded
timers_again = refl
