-- What the tests of addresses and ranges tell.
use Rattle.std.proofs.Common.{◌≡◌, ℕ, ◌≤◌, ◌*◌, ◌%◌, true, false, not, ◌==◌, nat_le, nat_lt}
use Rattle.std.proofs.lemmas.Bool.{and_parts, leb-true, ltb-true, eqb-true, not-false}
use Rattle.app_image.specs.Addresses.{is_between, is_code_address, is_stack_pointer, IsCodeAddress, IsStackPointer}

pub between_parts : (least greatest n : ℕ) → is_between least greatest n ≡ true → (least ≤ n) × (n ≤ greatest)
between_parts least greatest n h =
    let p = and_parts (nat_le least n) (nat_le n greatest) h in (leb-true least n p.0, leb-true n greatest p.1)

pub code_address_parts : (words address : ℕ) → is_code_address words address ≡ true → IsCodeAddress words address
code_address_parts words address h =
    let p = and_parts (address % 4 == 0) (nat_lt address (4 * words)) h in
    record { aligned = eqb-true (address % 4) 0 p.0; inside = ltb-true address (4 * words) p.1 }

pub stack_pointer_parts : (address : ℕ) → is_stack_pointer address ≡ true → IsStackPointer address
stack_pointer_parts address h =
    let p = and_parts (address % 4 == 0) (is_between 1048576 1310720 address) h in
    let q = between_parts 1048576 1310720 address p.1 in
    record { aligned = eqb-true (address % 4) 0 p.0; low = q.0; high = q.1 }

-- the same where the test is denied and the denial fails
pub between_unless : (least greatest n : ℕ) → not (is_between least greatest n) ≡ false → (least ≤ n) × (n ≤ greatest)
between_unless least greatest n h = between_parts least greatest n (not-false (is_between least greatest n) h)

pub code_address_unless : (words address : ℕ) → not (is_code_address words address) ≡ false → IsCodeAddress words address
code_address_unless words address h = code_address_parts words address (not-false (is_code_address words address) h)

pub stack_pointer_unless : (address : ℕ) → not (is_stack_pointer address) ≡ false → IsStackPointer address
stack_pointer_unless address h = stack_pointer_parts address (not-false (is_stack_pointer address) h)
