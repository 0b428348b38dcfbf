-- What is always true of the looks that are still to come.
use Rattle.std.specs.Prelude.{◌≡◌, ◌≤◌, length, drop, All}
use Rattle.due_looks.specs.declared.queue.Looks.TheInside.{Inside}
use Rattle.due_looks.specs.Rest.{IsInOrder}
use Rattle.due_looks.specs.Order.{IsOf, looks_of, left, moment_in}

-- the numbers are those of looks, and the looks from the place `next` on are those that are left, in order
pub record IsKept (a : Inside) : Type 0 where
  pub few : a.next ≤ length a.order.items
  pub numbers : All (IsOf a.lines.items) a.order.items
  pub rest : IsInOrder (left a.lines.items a.order.items a.next) (drop a.next (looks_of a.lines.items a.order.items))
  -- the moment at hand is that of the first of these
  pub moment : a.moment ≡ moment_in a.order.items a.next
