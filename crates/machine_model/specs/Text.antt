-- The printed lines of an event, and its lines in a history.
use Rattle.std.specs.Prelude.{ℕ, ◌≤◌, ◌<◌, Bool, true, false, if◌then◌else◌, List, [], ◌∷◌, ◌++◌, length, take, All, flat_map, codes, decimal}
use Rattle.app_image.specs.Image.{ImageRecord}
use Rattle.machine_model.specs.declared.events.Event.{Event}
use Rattle.machine_model.specs.declared.events.What.{What}
use Rattle.machine_model.specs.declared.events.What.TheVariants.{Quiet, Post, ICall, Exit, Take, Look}
use Rattle.machine_model.specs.Words.{own_words, switch_words}

-- the words, each behind a blank
abbrev pub spaced : List (List ℕ) → List ℕ
spaced words = flat_map (λ word. 32 ∷ word) words

-- The lines of a run.

-- a line of these words, with the counts of raw steps and task steps before it; none where there is no word
abbrev pub line : ℕ → ℕ → List (List ℕ) → List ℕ
line s t [] = []
line s t (word ∷ words) = decimal s ++ (spaced (decimal t ∷ word ∷ words) ++ 10 ∷ [])

-- what one event prints: its own line, and then its switch line
abbrev pub event_text : ImageRecord → Event → List ℕ
event_text image e = line e.s e.t (own_words image e.what) ++ line e.s e.t (switch_words image e.switch)

-- the last line of a run, with the counts at its end
abbrev pub end_line : ℕ → ℕ → List ℕ
end_line s t = line s t (codes "end" ∷ [])

-- The lines of a history: what tasks see, and so nothing of raw steps, of what interrupt code calls, of posts on their way
-- to the kernel, and of looks.

-- an event has a line of its own that histories keep
abbrev pub in_history : What → Bool
in_history Quiet = false
in_history (Post vector service args n_args err value) = false
in_history (ICall vector service err) = false
in_history (Exit vector how) = false
in_history (Take service args n_args err value same) = false
in_history (Look seen forward n_forward back n_back) = false
in_history what = true

-- the words of an event's own line in a history; none where it has no line there
abbrev pub history_words : ImageRecord → What → List (List ℕ)
history_words image what = if in_history what then own_words image what else []

-- a line of these words, with the count of task steps before it; none where there is no word
abbrev pub history_line : ℕ → List (List ℕ) → List ℕ
history_line t [] = []
history_line t (word ∷ words) = decimal t ++ (spaced (word ∷ words) ++ 10 ∷ [])

-- what one event writes into a history: its own line where histories keep it, and then its switch line
abbrev pub event_history : ImageRecord → Event → List ℕ
event_history image e = history_line e.t (history_words image e.what) ++ history_line e.t (switch_words image e.switch)

-- the last line of a history
abbrev pub end_history : ℕ → List ℕ
end_history t = history_line t (codes "end" ∷ [])

-- Room for the lines of an event.

-- the tasks of a chain, by their numbers
abbrev pub IsChain : List ℕ → Type 0
IsChain tasks = (length tasks ≤ 63) × All (λ x. x < 64) tasks

-- The lines of an event have room in 512 bytes: a look has tasks alone in its chains, and of every other event they are always
-- so short.
abbrev pub IsPrintable : What → Type 0
IsPrintable (Look seen forward n_forward back n_back) = IsChain (take n_forward forward) × IsChain (take n_back back)
IsPrintable what = Unit {0}
