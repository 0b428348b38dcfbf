-- The groups of events whose words are printed together.
use Rattle.machine_model.specs.declared.events.What.{What}
use Rattle.machine_model.specs.declared.events.What.TheVariants.{Start, Call, Ret, Wait, Gone, St, Trap, Tick, Tmr, Fire, Irq, Post, ICall, Exit, Take}

-- a task's call, its answer, or a wait in it
abbrev pub IsOfCall : What → Type 0
IsOfCall (Call task service args n_args) = Unit {0}
IsOfCall (Ret task service err value size tab n_tab) = Unit {0}
IsOfCall (Wait task service) = Unit {0}
IsOfCall what = ⊥

-- what else a task does: it begins, deletes itself, stores or traps
abbrev pub IsOfTask : What → Type 0
IsOfTask (Start task) = Unit {0}
IsOfTask (Gone task) = Unit {0}
IsOfTask (St who addr width value) = Unit {0}
IsOfTask (Trap task kind pc) = Unit {0}
IsOfTask what = ⊥

-- the counters of time, and the timers
abbrev pub IsOfTime : What → Type 0
IsOfTime (Tick count) = Unit {0}
IsOfTime (Tmr count) = Unit {0}
IsOfTime (Fire object) = Unit {0}
IsOfTime what = ⊥

-- an interrupt, or what its frame does other than to post
abbrev pub IsOfFrame : What → Type 0
IsOfFrame (Irq vector level by_step locked) = Unit {0}
IsOfFrame (ICall vector service err) = Unit {0}
IsOfFrame (Exit vector how) = Unit {0}
IsOfFrame what = ⊥

-- a post: by a frame, or by the handler
abbrev pub IsOfPost : What → Type 0
IsOfPost (Post vector service args n_args err value) = Unit {0}
IsOfPost (Take service args n_args err value same) = Unit {0}
IsOfPost what = ⊥
