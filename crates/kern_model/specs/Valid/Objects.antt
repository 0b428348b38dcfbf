-- What objects hold in a valid kernel.
use Rattle.std.specs.Prelude.{◌≡◌, ◌⊎◌, ◌<◌, ◌≤◌, ℕ, Bool, true, false, List, [], length, Option, Some, None}
use Rattle.kern_model.specs.State.{Object, Content, Count, Messages, Bits, Held, Timed, object_in, list_at, nesting_limit, timer_task}
use Rattle.kern_model.specs.Valid.Numbers.{IsWord}

-- what holds of an object's numbers
abbrev pub IsContent : Content → Type 0
IsContent (Count n) = IsWord n
IsContent (Messages limit ms) = length ms ≤ limit
IsContent (Bits bits) = Unit {0}
IsContent (Held owner nesting) = nesting ≤ nesting_limit
IsContent (Timed t) = IsWord t.delay × IsWord t.period

-- what holds of the numbers of each object
abbrev pub AreContents : List Object → Type 0
AreContents os = (o : ℕ) → IsContent (object_in os o).content

-- one of so many application tasks, or the timer task: these may own a mutex
abbrev pub MayOwn : ℕ → ℕ → Type 0
MayOwn declared x = (x < declared) ⊎ (x ≡ timer_task)

-- a mutex that is owned is nested 1 to 250 times; nobody waits for a free one
abbrev pub IsHeld : ℕ → List ℕ → Option ℕ → ℕ → Type 0
IsHeld declared waiters None nesting = waiters ≡ []
IsHeld declared waiters (Some owner) nesting = MayOwn declared owner × (1 ≤ nesting) × (nesting ≤ nesting_limit)

-- that of a mutex
abbrev pub HoldsMutex : ℕ → List ℕ → Content → Type 0
HoldsMutex declared waiters (Held owner nesting) = IsHeld declared waiters owner nesting
HoldsMutex declared waiters content = Unit {0}

-- a deleted queue has no message
abbrev pub HasNoMessage : Content → Type 0
HasNoMessage (Messages limit messages) = messages ≡ []
HasNoMessage content = Unit {0}

-- an object: a mutex as above, or a deleted one that nobody waits for
abbrev pub IsObject : ℕ → List ℕ → Bool → Content → Type 0
IsObject declared waiters true content = (waiters ≡ []) × HasNoMessage content
IsObject declared waiters false content = HoldsMutex declared waiters content

-- each object with the list of its waiters, where so many application tasks are declared
abbrev pub AreObjects : List Object → List (List ℕ) → ℕ → Type 0
AreObjects os ps declared = (o : ℕ) → IsObject declared (list_at ps o) (object_in os o).deleted (object_in os o).content
