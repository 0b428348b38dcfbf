-- What a look tells: the two chains of a list, also in the middle of a whole step.
use Rattle.std.specs.Prelude.{ℕ, ◌-◌, Bool, List, [], ◌∷◌, ◌++◌, length, replicate, reverse, Option, Some, None, if◌then◌else◌, ◌==◌}
use Rattle.kern_base.specs.declared.services.Service.{Service}
use Rattle.kern_model.specs.State.{list_at}
use Rattle.kern_model.specs.Micro.{Lists, Halves, whole, lists_of}
use Rattle.kern_model.specs.Services.{half}
use Rattle.inject_list.specs.declared.lists.Look.{Look}
use Rattle.inject_list.specs.declared.lists.Seen.{Seen}
use Rattle.inject_list.specs.declared.lists.Seen.TheVariants.{Obj, Ready}
use Rattle.machine_model.specs.declared.events.What.{What}
use Rattle.machine_model.specs.declared.events.What.TheVariants.{Look as LookLine}
use Rattle.machine_model.specs.Machine.{Machine, WholeStep, effect_of}
use Rattle.machine_model.specs.Answers.{Change}

-- the first of the looks that have this moment
abbrev pub look_at : ℕ → List Look → Option Look
look_at s [] = None
look_at s (l ∷ ls) = if l.at == s then Some l else look_at s ls

-- the looks without the first of this moment
abbrev pub without_look : ℕ → List Look → List Look
without_look s [] = []
without_look s (l ∷ ls) = if l.at == s then ls else l ∷ without_look s ls

-- the lists in both directions: the kernel's, and what the micro-steps of the whole step in hand have changed
abbrev pub halves_of : (Service → Bool) → Option WholeStep → Machine → Halves
halves_of served None m = whole (lists_of m.kernel)
halves_of served (Some w) m = half (effect_of served m.config w.work m.kernel) m.kernel w.done

-- the list that is looked at
abbrev pub seen_in : Seen → Lists → List ℕ
seen_in (Obj o) l = list_at l.pend o.0
seen_in (Ready p) l = list_at l.ready p.0

-- 64 places for the tasks of a list
abbrev pub places : List ℕ → List ℕ
places xs = xs ++ replicate (64 - length xs) 0

-- what is told: the forward chain, and the backward chain from its end
abbrev pub chains : Seen → List ℕ → List ℕ → What
chains seen forward back = LookLine seen (places forward) (length forward) (places (reverse back)) (length back)

-- a look is printed
abbrev pub looks : (Service → Bool) → Look → Machine → Change
looks served l m =
    let h = halves_of served m.in_hand m in
    record {
      what = chains l.what (seen_in l.what h.forward) (seen_in l.what h.back);
      machine = record m { looks = without_look m.s m.looks };
    }
