-- The services of event flag groups.
use Rattle.std.specs.Prelude.{ℕ, List, [], ◌∷◌, ◌++◌, Option, Some, None}
use Rattle.kern_base.specs.declared.services.Service.TheVariants.{FlagPend}
use Rattle.kern_base.specs.declared.outcomes.Waiting.TheVariants.{Obj}
use Rattle.kern_base.specs.declared.requests.Request.{Request}
use Rattle.kern_base.specs.declared.errors.OsErr.TheVariants.{ObjectType}
use Rattle.kern_model.specs.State.{Kernel, Content, Bits, task_at, list_at, with_content}
use Rattle.kern_model.specs.FlagBits.{ready_bits, bits_after, consumed}
use Rattle.kern_model.specs.Micro.{Block, plain}
use Rattle.kern_model.specs.Effect.{Effect, Wait, refused, done, fine, answers, result_of, wakes, wake_blocks, waits_unless, blocks_on}
use Rattle.kern_model.specs.Options.{flags_do_not_wait}
use Rattle.kern_model.specs.Checks.{argument}

-- a waiter whose condition holds is woken with its ready bits as the value
abbrev pub flag_wakes : Option ℕ → ℕ → ℕ → Kernel → Kernel
flag_wakes None compared x k = k
flag_wakes (Some ready) compared x k = wakes (result_of (fine ready) (task_at k x)) compared x k

-- one micro-step for a waiter that is looked at, and its wake
abbrev pub flag_blocks : Option ℕ → ℕ → ℕ → Kernel → List Block
flag_blocks None compared x k = plain ∷ []
flag_blocks (Some ready) compared x k = plain ∷ wake_blocks k compared x

-- each of these waiters is looked at in order
abbrev pub flag_wakes_all : ℕ → ℕ → List ℕ → Kernel → Kernel
flag_wakes_all bits compared [] k = k
flag_wakes_all bits compared (x ∷ xs) k =
    let t = task_at k x in
    flag_wakes_all bits compared xs (flag_wakes (ready_bits bits t.mask t.opt) compared x k)

-- the same for each waiter in order
abbrev pub flag_blocks_all : ℕ → ℕ → List ℕ → Kernel → List Block
flag_blocks_all bits compared [] k = []
flag_blocks_all bits compared (x ∷ xs) k =
    let t = task_at k x in
    flag_blocks (ready_bits bits t.mask t.opt) compared x k ++ flag_blocks_all bits compared xs k

-- OSFlagPost: sets or clears bits, and wakes each waiter whose condition holds on the new bits.
abbrev pub flags_become : ℕ → ℕ → ℕ → Kernel → Effect
flags_become bits o compared k =
    let xs = list_at k.pend o in
    record { kernel = flag_wakes_all bits compared xs (with_content k o (Bits bits)); outcome = answers (fine bits); blocks = flag_blocks_all bits compared xs k }

-- OSFlagPost on what an object holds
abbrev pub flag_post : Content → Request → ℕ → Kernel → Effect
flag_post (Bits old) r compared k =
    let group = argument r 0 in
    let bits = argument r 1 in
    let option = argument r 2 in
    flags_become (bits_after old bits option) group compared k
flag_post content r compared k = refused k ObjectType

-- OSFlagPend: answers the ready bits where the condition holds, and may consume them; else the caller waits.
abbrev pub flag_pend_on : Option ℕ → ℕ → Request → ℕ → Kernel → Effect
flag_pend_on None bits r x k =
    let group = argument r 0 in
    let mask = argument r 1 in
    let timeout = argument r 2 in
    let option = argument r 3 in
    let w : Wait = record { waiting = Obj FlagPend; objects = group ∷ []; mask = mask; opt = option; table = 0; timeout = timeout } in
    waits_unless k (flags_do_not_wait option) (blocks_on k x w)
flag_pend_on (Some ready) bits r x k =
    let group = argument r 0 in
    let option = argument r 3 in
    done (with_content k group (Bits (consumed bits ready option))) (fine ready)

-- OSFlagPend on what an object holds
abbrev pub flag_pend : Content → Request → ℕ → Kernel → Effect
flag_pend (Bits bits) r x k =
    let mask = argument r 1 in
    let option = argument r 3 in
    flag_pend_on (ready_bits bits mask option) bits r x k
flag_pend content r x k = refused k ObjectType
