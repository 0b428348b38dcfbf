-- The table of a call that begins was read in RAM, so where a table is in hand it lies there.
use Rattle.machine_laws.proofs.Common.{◌≡◌, Bool, ℕ, refl, true, List, ◌∙◌, None, Some, sym, Option, subst, ap, ◌≤◌, ◌+◌, suc, zero, ◌==◌, if◌then◌else◌, ◌&&◌, length, All, nat_le, ◌%◌, ◌-◌, false≢true, service_of, Finished, Request, Service, choice_by, equal, and_first, and_second, idle_task, Execution, exec, Registers, read, Stepped, Call, Next, Stored, Trap, acts, works_in_units, idles, instructs, starts_unit, Change, argument_words, Machine, registers_at}
use Rattle.std.specs.Prelude.{◌*◌, take, replicate, slice_index}
use Rattle.std.proofs.Common.{◌++◌}
use Rattle.std.proofs.lemmas.List.{take_at}
use Rattle.kern_model.proofs.Lemmas.{at_most}
use Rattle.kern_model.specs.Valid.{IsRequest, IsWord}
use Rattle.rv32_exec.specs.Memory.{ram_start, ram_end}
use Rattle.machine_model.specs.Acts.{is_table, first_words, plain_request, table_request, has_table, request_of}
use Rattle.machine_laws.specs.Whole.{HandsWords}
use Rattle.machine_laws.proofs.Rules.Outcomes.{word-arguments}

-- the request of a call

length-first_words : (memory : List ℕ) (address n : ℕ) → length (first_words memory address n) ≡ n
length-first_words memory address zero = refl
length-first_words memory address (suc n) = ap (λ i. suc i) (length-first_words memory (address + 16) n)

-- as many objects as there are entries
length-table : (memory : List ℕ) (address n : ℕ) (rest : List ℕ) → length (take n (first_words memory address n ++ rest)) ≡ n
length-table memory address n rest =
    ap (λ l. length l) (take_at (first_words memory address n) rest n (length-first_words memory address n)) ∙ length-first_words memory address n

plain-table : (s : Service) (args : List ℕ) → All IsWord args → IsRequest (plain_request s args)
plain-table s args words = record { words = words; table = λ multi read. absurd (false≢true read) }

read-table : (s : Service) (args memory : List ℕ) → All IsWord args → IsRequest (table_request s args memory)
read-table s args memory words =
    let address = slice_index args 0 in
    let n = slice_index args 1 in
    choice_by (λ (r : Request). IsRequest r) (is_table address n) (record { service = s; args = args; ids = first_words memory address n ++ replicate (8 - n) 0; n_ids = n; table = true }) (plain_request s args)
    (λ t. record {
      words = words;
      table = λ _ _.
          let some = nat_le 1 n in
          let few = nat_le n 8 in
          let aligned = address % 4 == 0 in
          let from = nat_le ram_start address in
          let to = nat_le (address + 16 * n) ram_end in
          let a = and_second some (few && (aligned && (from && to))) t in
          let b = and_second few (aligned && (from && to)) a in
          let c = and_second aligned (from && to) b in
          let long = length-table memory address n (replicate (8 - n) 0) in
          let least = at_most 1 n (and_first some (few && (aligned && (from && to))) t) in
          let most = at_most (address + 16 * n) ram_end (and_second from to c) in
          record {
            some = subst (λ i. 1 ≤ i) (sym long) least;
            aligned = equal (address % 4) 0 (and_first aligned (from && to) b);
            from = at_most ram_start address (and_first from to c);
            to = subst (λ i. address + 16 * i ≤ ram_end) (sym long) most;
          };
    })
    (λ _. plain-table s args words)

pub request-table : (served : Service → Bool) (regs : Registers) (memory : List ℕ) → IsRequest (request_of served regs memory)
request-table served regs memory =
    let s = service_of (read regs 17) in
    let args = argument_words regs in
    choice_by (λ (r : Request). IsRequest r) (has_table s && served s) (table_request s args memory) (plain_request s args) (λ _. read-table s args memory (word-arguments regs)) (λ _. plain-table s args (word-arguments regs))

-- what comes in hand where the current task acts

module _ (served : Service → Bool) (x : ℕ) (m : Machine) (none : m.in_hand ≡ None) where
  abbrev Hands : Change → Type 0
  Hands c = HandsWords c.machine.in_hand

  nothing : HandsWords m.in_hand
  nothing = rw none tt

  instructs-table : (did : Stepped) (e : Execution) → Hands (instructs served did x e m)
  instructs-table Next e = nothing
  instructs-table (Stored addr width value) e = nothing
  instructs-table Call e = request-table served e.registers e.memory
  instructs-table (Trap kind pc) e = nothing

  pub acts-table : (o : Option Finished) → Hands (acts served x o m)
  acts-table (Some f) = nothing
  acts-table None =
      let e = exec m.code (registers_at m x) m.memory in
      let go = instructs served e.did x e m in
      choice_by Hands (x == idle_task) (idles m) (if works_in_units x m.kernel then starts_unit x m else go)
      (λ _. nothing)
      (λ _. choice_by Hands (works_in_units x m.kernel) (starts_unit x m) go (λ _. tt) (λ _. instructs-table e.did e))
