-- The links of the tests fit.
use Rattle.std.proofs.Common.{◌≡◌, ℕ, ◌<◌, List, [], ◌∷◌, true, false, refl, arith}
use Rattle.std.specs.Prelude.{replicate}
use Rattle.kern_base.specs.declared.numbers.Prio.{Prio}
use Rattle.kern_model.specs.Micro.{Micro, Lists, in_order, whole}
use Rattle.micro_steps.specs.declared.link.Link.{Link}
use Rattle.micro_steps.specs.declared.link.Link.TheVariants.{Ready, Unready, Wait, Leave, Plain}
use Rattle.micro_steps.specs.Halfway.{seen}
use Rattle.micro_steps.specs.Starts.{no_lists}
use Rattle.micro_steps.specs.Whole.{StepsRecord, IsPaused, AreFit, lists_after, task_blocks}

some : (n : ℕ) → n ≡ 1 → 0 < n
some n e = omega (arith, e)

abbrev pub prios : List Prio
prios = replicate 64 (record { 0 = 63 })

-- a task or a node joins or leaves a list of the tests
abbrev pub joins : ℕ → Link
joins x = Ready (record { 0 = x }) (record { 0 = 7 }) true

abbrev pub heads : ℕ → Link
heads x = Ready (record { 0 = x }) (record { 0 = 7 }) false

abbrev pub leaves : ℕ → Link
leaves x = Unready (record { 0 = x }) (record { 0 = 7 })

abbrev pub waits : ℕ → ℕ → Link
waits n p = Wait n (record { 0 = p }) (record { 0 = 0 })

abbrev pub gone : ℕ → Link
gone n = Leave n (record { 0 = 0 })

-- the links of the table, and what is left of them after each
abbrev pub after_7 : List Link
after_7 = waits 24 5 ∷ Plain ∷ []

abbrev pub after_6 : List Link
after_6 = gone 24 ∷ after_7

abbrev pub after_5 : List Link
after_5 = waits 16 30 ∷ after_6

abbrev pub after_4 : List Link
after_4 = waits 15 10 ∷ after_5

abbrev pub after_3 : List Link
after_3 = waits 24 30 ∷ after_4

abbrev pub after_2 : List Link
after_2 = leaves 3 ∷ after_3

abbrev pub after_1 : List Link
after_1 = heads 1 ∷ after_2

abbrev pub links : List Link
links = joins 3 ∷ after_1

links_fit : AreFit 64 prios links no_lists
links_fit = (
  (omega arith, omega arith, refl),
  (
    (omega arith, omega arith, refl),
    (
      (omega arith, omega arith, some _ refl),
      (
        (omega arith, omega arith, omega arith, refl, refl),
        (
          (omega arith, omega arith, omega arith, refl, refl),
          (
            (omega arith, omega arith, omega arith, refl, refl),
            (
              (omega arith, omega arith, some _ refl),
              (
                (omega arith, omega arith, omega arith, refl, refl),
                (tt, tt),
              ),
            ),
          ),
        ),
      ),
    ),
  ),
)

abbrev pub all_of : List Link → List Micro
all_of ks = in_order (task_blocks prios ks) (seen 64 (whole no_lists)).forward

abbrev pub end_of : List Link → Lists
end_of ks = lists_after prios ks no_lists

fresh_paused : (ks : List Link) (s : StepsRecord) → AreFit 64 prios ks no_lists → s.halves ≡ whole no_lists → s.prios ≡ prios → IsPaused (all_of ks) no_lists 0 ks (end_of ks) s
fresh_paused ks s fit e d = rw (e, d) (record { even = record { ready = refl; pend = refl }; fits = fit; ends = refl; left = refl; chains = refl })

pub links_paused : (s : StepsRecord) → s.halves ≡ whole no_lists → s.prios ≡ prios → IsPaused (all_of links) no_lists 0 links (end_of links) s
links_paused s e d = fresh_paused links s links_fit e d

-- the links of the test that counts
abbrev pub counted : List Link
counted = waits 24 30 ∷ waits 15 10 ∷ waits 16 30 ∷ Plain ∷ []

counted_fit : AreFit 64 prios counted no_lists
counted_fit = (
  (omega arith, omega arith, omega arith, refl, refl),
  (
    (omega arith, omega arith, omega arith, refl, refl),
    (
      (omega arith, omega arith, omega arith, refl, refl),
      (tt, tt),
    ),
  ),
)

pub counted_paused : (s : StepsRecord) → s.halves ≡ whole no_lists → s.prios ≡ prios → IsPaused (all_of counted) no_lists 0 counted (end_of counted) s
counted_paused s e d = fresh_paused counted s counted_fit e d

-- the end of a whole step changes no list of the chains
pub still_paused : (ms : List Micro) (i : ℕ) (ks : List Link) (end : Lists) (s t : StepsRecord) → t.halves ≡ s.halves → t.prios ≡ s.prios → IsPaused ms no_lists i ks end s → IsPaused ms no_lists i ks end t
still_paused ms i ks end s t e d p = record { even = rw e p.even; fits = rw (e, d) p.fits; ends = rw (e, d) p.ends; left = rw (e, d) p.left; chains = rw e p.chains }
