-- A call of the kernel.
use Rattle.std.specs.Prelude.{ℕ}
use Rattle.kern_base.specs.declared.requests.Request.{Request}

-- What is asked, by which task, and two priorities: that of what the call interrupts, at whose ready list round robin looks, and
-- that with which the priority of a task that gets ready is compared.
pub record Call : Type 0 where
  pub request : Request
  pub caller : ℕ
  pub interrupted : ℕ
  pub compared : ℕ

-- a call of these
abbrev pub call_of : Request → ℕ → ℕ → ℕ → Call
call_of request caller interrupted compared = record { request = request; caller = caller; interrupted = interrupted; compared = compared }
