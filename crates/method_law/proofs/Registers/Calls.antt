-- A call that reads no marked register is the same call.
use Rattle.machine_laws.proofs.Common.{◌≡◌, Bool, ℕ, refl, true, List, [], false, ◌∙◌, ◌∷◌, subst, ap, suc, zero, if◌then◌else◌, ◌++◌, ◌^◌, ◌%◌, ◌-◌, service_of, Service, Registers, read, argument_words}
use Rattle.std.specs.Prelude.{take, map, replicate}
use Rattle.kern_base.specs.Services.{argument_count}
use Rattle.machine_model.specs.Marks.{is_marked, call_reads}
use Rattle.machine_model.specs.Answers.{arguments}
use Rattle.method_law.specs.Alike.{AgreeBut, SameCall}
use Rattle.method_law.proofs.Registers.Marks.{first-unmarked, rest-unmarked}

-- a register's word
abbrev word_of : Registers → ℕ → ℕ
word_of regs r = read regs r % 2 ^ 32

module _ (marks : List ℕ) (a b : Registers) (same : AgreeBut marks a b) where
  -- the first n of these registers, where none of them has a mark
  same-words : (n : ℕ) (rs : List ℕ) → is_marked marks (take n rs) ≡ false → take n (map (word_of a) rs) ≡ take n (map (word_of b) rs)
  same-words zero rs h = refl
  same-words (suc n) [] h = refl
  same-words (suc n) (r ∷ rs) h =
      ap (λ v. v % 2 ^ 32 ∷ take n (map (word_of a) rs)) (same.unmarked r (first-unmarked marks r (take n rs) h))
      ∙ ap (λ vs. word_of b r ∷ vs) (same-words n rs (rest-unmarked marks r (take n rs) h))

  -- the arguments of a service that is served
  same-arguments : (served : Service → Bool) (s : Service) → is_marked marks (call_reads served s) ≡ false → served s ≡ true → arguments s (argument_words a) ≡ arguments s (argument_words b)
  same-arguments served s h known =
      let n = argument_count s in
      let words : List ℕ = 10 ∷ 11 ∷ 12 ∷ 13 ∷ [] in
      let rest : is_marked marks (if served s then take n words else []) ≡ false = rest-unmarked marks 17 (if served s then take n words else []) h in
      ap (λ vs. vs ++ replicate (4 - n) 0) (same-words n words (subst (λ t. is_marked marks (if t then take n words else []) ≡ false) known rest))

  pub same-call : (served : Service → Bool) → is_marked marks (call_reads served (service_of (read a 17))) ≡ false → SameCall served a b
  same-call served h =
      let s = service_of (read a 17) in
      record {
        service = ap service_of (same.unmarked 17 (first-unmarked marks 17 (if served s then take (argument_count s) (10 ∷ 11 ∷ 12 ∷ 13 ∷ []) else []) h));
        arguments = same-arguments served s h;
      }
