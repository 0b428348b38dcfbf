-- How the text of a generated case goes on, line by line.
use Rattle.std.specs.Prelude.{codes}
use Rattle.std.proofs.Common.{◌≡◌, ◌≤◌, ◌<◌, ℕ, zero, suc, ◌+◌, List, [], ◌∷◌, ◌++◌, refl, sym, ◌∙◌, arith, append_assoc, append-nil}
use Rattle.program_model.specs.Application.{application}
use Rattle.program_model.specs.Generated.{generated, interrupt_line, interrupt_lines, text_of}

-- the application comes first, and then the interrupts
pub in_two_parts : (seed size : ℕ) → generated seed size ≡ text_of (application ++ codes ".inject" ∷ []) ++ text_of (interrupt_lines size 1 seed)
unfolding generated
in_two_parts seed size = refl

-- a line with its line feed
abbrev pub whole_line : ℕ → ℕ → List ℕ
whole_line number x = (interrupt_line number x).line ++ 10 ∷ []

-- The lines before this number are written, behind this number of the sequence.
pub record HasWritten (seed size : ℕ) (front : List ℕ) (number x : ℕ) : Type 0 where
  pub left : ℕ
  pub counted : left + number ≡ size + 1
  pub rest : text_of (interrupt_lines size 1 seed) ≡ front ++ text_of (interrupt_lines left number x)

-- What follows: the line of this number, and the rest.
pub record HasNext (seed size : ℕ) (front : List ℕ) (number x : ℕ) : Type 0 where
  pub rest : List ℕ
  pub follows : text_of (interrupt_lines size 1 seed) ≡ front ++ (whole_line number x ++ rest)
  pub written : HasWritten seed size (front ++ whole_line number x) (number + 1) (interrupt_line number x).last

module _ (seed size : ℕ) where
  -- at first none is written
  pub written_nothing : HasWritten seed size [] 1 seed
  written_nothing = record { left = size; counted = refl; rest = refl }

  -- one more line
  pub written_more : (front : List ℕ) (number x : ℕ) → HasWritten seed size front number x → number ≤ size → HasNext seed size front number x
  written_more front number x h more = from h.left h.counted h.rest
    where
      from : (left : ℕ) → left + number ≡ size + 1 → text_of (interrupt_lines size 1 seed) ≡ front ++ text_of (interrupt_lines left number x) → HasNext seed size front number x
      from zero counted rest = absurd (omega (arith, counted, more))
      from (suc left) counted rest =
          let after : List ℕ = text_of (interrupt_lines left (number + 1) (interrupt_line number x).last) in
          let follows : text_of (interrupt_lines size 1 seed) ≡ front ++ (whole_line number x ++ after) = rest in
          record {
            rest = after;
            follows = follows;
            written = record {
              left = left;
              counted = omega (arith, counted);
              rest = follows ∙ sym (append_assoc front (whole_line number x) after);
            };
          }

  -- at the end all are written
  pub written_all : (front : List ℕ) (number x : ℕ) → HasWritten seed size front number x → size < number → text_of (interrupt_lines size 1 seed) ≡ front
  written_all front number x h past = from h.left h.counted h.rest
    where
      from : (left : ℕ) → left + number ≡ size + 1 → text_of (interrupt_lines size 1 seed) ≡ front ++ text_of (interrupt_lines left number x) → text_of (interrupt_lines size 1 seed) ≡ front
      from zero counted rest = rest ∙ append-nil front
      from (suc left) counted rest = absurd (omega (arith, counted, past))
