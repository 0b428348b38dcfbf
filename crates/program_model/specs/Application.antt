-- The application of the generated cases: its lines.
use Rattle.std.specs.Prelude.{ℕ, List, [], ◌∷◌, ◌++◌, codes}

-- an interrupt brings a reading of the sensor: it posts its words to the queue
abbrev pub reading_handler : List (List ℕ)
reading_handler =
    codes "rx: os OSQPost"
    ∷ codes "ret"
    ∷ []

-- the other interrupt is a tick
abbrev pub tick_handler : List (List ℕ)
tick_handler =
    codes "tk: os OSTimeTick"
    ∷ codes "ret"
    ∷ []

-- the most urgent task waits for a reading, and adds it to the total under the mutex
abbrev pub control_task : List (List ℕ)
control_task =
    codes "ctl: li a0, inq"
    ∷ codes "li a1, 0"
    ∷ codes "li a2, 0"
    ∷ codes "os OSQPend"
    ∷ codes "mv s0, a1"
    ∷ codes "li a0, bus"
    ∷ codes "li a1, 0"
    ∷ codes "li a2, 0"
    ∷ codes "os OSMutexPend"
    ∷ codes "la t0, total"
    ∷ codes "lw t1, 0(t0)"
    ∷ codes "add t1, t1, s0"
    ∷ codes "sw t1, 0(t0)"
    ∷ codes "li a0, bus"
    ∷ codes "li a1, 0"
    ∷ codes "os OSMutexPost"
    ∷ codes "j ctl"
    ∷ []

-- every five ticks the next task copies the total under the mutex
abbrev pub logger_task : List (List ℕ)
logger_task =
    codes "lg: li a0, 5"
    ∷ codes "li a1, 0"
    ∷ codes "os OSTimeDly"
    ∷ codes "li a0, bus"
    ∷ codes "li a1, 0"
    ∷ codes "li a2, 0"
    ∷ codes "os OSMutexPend"
    ∷ codes "la t0, total"
    ∷ codes "lw t1, 0(t0)"
    ∷ codes "la t0, shown"
    ∷ codes "sw t1, 0(t0)"
    ∷ codes "li a0, bus"
    ∷ codes "li a1, 0"
    ∷ codes "os OSMutexPost"
    ∷ codes "j lg"
    ∷ []

-- the least urgent task only counts
abbrev pub counting_task : List (List ℕ)
counting_task =
    codes "bg: addi s0, s0, 1"
    ∷ codes "j bg"
    ∷ []

-- the two words in RAM, the queue and the mutex, the tasks, and the interrupts: 1 is a tick, 2 is a reading
abbrev pub declarations : List (List ℕ)
declarations =
    codes ".ram"
    ∷ codes "total: .word 0"
    ∷ codes "shown: .word 0"
    ∷ codes ".queue inq, 32"
    ∷ codes ".mutex bus"
    ∷ codes ".task control, ctl, 10, 0, 0, 0x13C000"
    ∷ codes ".task logger, lg, 20, 0, 0, 0x13D000"
    ∷ codes ".task spin, bg, 30, 4, 0, 0x13E000"
    ∷ codes ".vector 1, 1, tk, 0x13F000"
    ∷ codes ".vector 2, 2, rx, 0x13F800"
    ∷ []

-- all lines of the application
abbrev pub application : List (List ℕ)
application = codes ".code" ∷ reading_handler ++ (tick_handler ++ (control_task ++ (logger_task ++ (counting_task ++ declarations))))
