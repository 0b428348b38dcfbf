-- What the fields of the watched premises mean.
use Rattle.std.specs.Prelude.{ℕ, Bool, Option, Some, None, if◌then◌else◌}
use Rattle.machine_model.specs.Premises.{Premises}
use Rattle.method_premises.specs.declared.watch.Premises.TheInside.{Inside}

abbrev pub premises_of : Inside → Premises
premises_of a = record { p1 = a.step_interrupt; p2 = a.locked_entry; p3 = a.answer_read; p4 = a.post_lost; p5 = a.interrupted_readied }

-- where a premise is broken first, once one more event was watched, which stands at these raw steps and may break it
abbrev pub first_broken : Option ℕ → Bool → ℕ → Option ℕ
first_broken (Some first) breaks s = Some first
first_broken None breaks s = if breaks then Some s else None
