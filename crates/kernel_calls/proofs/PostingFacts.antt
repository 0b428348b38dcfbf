-- A post that is made at once, one micro-step after another.
use Rattle.std.proofs.Common.{◌≡◌, ◌⊎◌, ℕ, ◌<◌, ◌+◌, ◌-◌, List, ap, ◌∙◌, Some, None, Option, inl, inr, arith}
use Rattle.std.proofs.lemmas.Bool.Decides.{leb_tells}
use Rattle.kern_base.specs.declared.services.Service.{Service}
use Rattle.kern_model.specs.State.{Kernel}
use Rattle.served.specs.Served.{program_serves}
use Rattle.kern_model.specs.Services.{cost, post_request, posted}
use Rattle.kernel_calls.specs.KernelRecord.{KernelRecord}
use Rattle.kernel_calls.specs.Works.{WorkRecord, begun, effect_of}

-- the work of a post of which so many micro-steps are made
abbrev pub post_work : Service → List ℕ → ℕ → ℕ → WorkRecord
post_work s args h done = record (begun 63 (post_request s args) h h) { done = done }

-- of a post that began on the kernel `start` so many micro-steps are made, and others are left
pub record IsPosting (start now : KernelRecord) (s : Service) (args : List ℕ) (h : ℕ) : Type 0 where
  pub done : ℕ
  pub is : now ≡ record start { hand = Some (post_work s args h done) }
  pub open_yet : done < cost (posted program_serves s args h h start.state) start.state

-- how many micro-steps are left
abbrev pub left_by : Option WorkRecord → Kernel → ℕ
left_by None k = 0
left_by (Some w) k = cost (effect_of w k) k - w.done

abbrev pub left_in : KernelRecord → ℕ
left_in k = left_by k.hand k.state

-- the next one is the last, or it is not
pub last-or-not : (a b : ℕ) → a < b → (a + 1 < b) ⊎ (a + 1 ≡ b)
last-or-not a b h = elim (leb_tells b (a + 1)) [ inl d ↦ inr (let e = d.1 in omega arith) | inr d ↦ inl d.1 ]

module _ (start now new : KernelRecord) (s : Service) (args : List ℕ) (h : ℕ) (p : IsPosting start now s args h) where
  pub hand-posting : now.hand ≡ Some (post_work s args h p.done)
  hand-posting = ap (λ (k : KernelRecord). k.hand) p.is

  pub state-posting : now.state ≡ start.state
  state-posting = ap (λ (k : KernelRecord). k.state) p.is

  pub posting-next : p.done + 1 < cost (posted program_serves s args h h start.state) start.state → new ≡ record now { hand = Some (post_work s args h (p.done + 1)) } → IsPosting start new s args h
  posting-next i e =
      record {
        done = p.done + 1;
        is = e ∙ ap (λ (k : KernelRecord). record k { hand = Some (post_work s args h (p.done + 1)) }) p.is;
        open_yet = i;
      }

  pub fewer-left : p.done + 1 < cost (posted program_serves s args h h start.state) start.state → new ≡ record now { hand = Some (post_work s args h (p.done + 1)) } → left_in new < left_in now
  fewer-left i e =
      let a : left_in now ≡ cost (posted program_serves s args h h start.state) start.state - p.done = ap left_in p.is in
      let b : left_in new ≡ cost (posted program_serves s args h h start.state) start.state - (p.done + 1) = ap left_in (e ∙ ap (λ (k : KernelRecord). record k { hand = Some (post_work s args h (p.done + 1)) }) p.is) in
      omega arith
