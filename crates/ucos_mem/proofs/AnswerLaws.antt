-- What the clauses of the top call say of an answer over memory.
use Rattle.std.proofs.Common.{◌≡◌, ◌⊎◌, ◌≤◌, ℕ, List, [], Option, Some, IfSome, inl, inr, arith}
use Rattle.std.specs.Io.KnownBytes.{Appends}
use Rattle.program_model.specs.declared.statuses.Status.{Status}
use Rattle.program_model.specs.declared.statuses.Status.TheVariants.{Done, Broken, Usage, Refused, TooLong}
use Rattle.program_model.specs.declared.commands.Command.{Command}
use Rattle.program_model.specs.Answer.{Answer, command_answer, defined_of}
use Rattle.ucos_top.specs.Told.{AppendsUnlessRose, IsWhole}
use Rattle.ucos_top.proofs.TopLemmas.{answer_told}
use Rattle.ucos_mem.specs.Answered.{IsAnswer}

-- the statuses of an answer: its whole text was written, or the line that refuses the case
pub is_answer : (status : Status) → (status ≡ Done) ⊎ ((status ≡ Broken) ⊎ ((status ≡ Usage) ⊎ ((status ≡ Refused) ⊎ (status ≡ TooLong)))) → IsWhole status ⊎ (status ≡ Refused)
is_answer status (inl e) = inl (rw e tt)
is_answer status (inr (inl e)) = inl (rw e tt)
is_answer status (inr (inr (inl e))) = inl (rw e tt)
is_answer status (inr (inr (inr (inl e)))) = inr e
is_answer status (inr (inr (inr (inr e)))) = inl (rw e tt)

appended : (text told : List ℕ) → Appends (Some []) (Some text) told → text ≡ told
appended text told p = cc

unless_rose : (text told : List ℕ) (before now : ℕ) → before ≡ 0 → now ≤ 0 → AppendsUnlessRose (Some []) (Some text) before now told → text ≡ told
unless_rose text told before now e f (inl p) = appended text told p
unless_rose text told before now e f (inr (inl rose, p)) = absurd (omega (arith, e, f, rose))
unless_rose text told before now e f (inr (inr top, p)) = absurd (omega (arith, f, top))

-- the status and the bytes are those of the answer, where the page was empty and no write failed
pub answered : (command : Option Command) (input text held : List ℕ) (status : Status) (before now : ℕ) → held ≡ [] → before ≡ 0 → now ≤ 0 → IsWhole status ⊎ (status ≡ Refused)
    → (IsWhole status → IfSome (defined_of command (Some input)) (λ a. status ≡ a.status))
    → (IsWhole status → IfSome (defined_of command (Some input)) (λ a. Appends (Some held) (Some text) a.text))
    → (status ≡ Refused → IfSome (defined_of command (Some input)) (λ a. a.status ≡ Refused))
    → (status ≡ Refused → IfSome (defined_of command (Some input)) (λ a. AppendsUnlessRose (Some held) (Some text) before now a.text))
    → IsAnswer status text (command_answer command input)
answered command input text held status before now empty zero none (inl whole) w wt r rt =
    let written = rw empty at (answer_told command input (λ (a : Answer). Appends (Some held) (Some text) a.text) (wt whole)) in
    record { status_is = answer_told command input (λ a. status ≡ a.status) (w whole); text_is = appended text (command_answer command input).text written }
answered command input text held status before now empty zero none (inr refused) w wt r rt =
    let written = rw empty at (answer_told command input (λ (a : Answer). AppendsUnlessRose (Some held) (Some text) before now a.text) (rt refused)) in
    let same : (command_answer command input).status ≡ Refused = answer_told command input (λ a. a.status ≡ Refused) (r refused) in
    record { status_is = cc; text_is = unless_rose text (command_answer command input).text before now zero none written }
