-- Kernels whose objects are all semaphores.
use Rattle.std.proofs.Common.{◌≡◌, nat_lt, is_some, ℕ, zero, suc, List, map, set, get_or, refl, sym, ap, ◌∙◌, arith}
use Rattle.std.proofs.lemmas.Bool.{lt-ltb}
use Rattle.kern_model.specs.Several.{polled}
use Rattle.std.proofs.Math.ListN.{get_or-map}
use Rattle.std.proofs.lemmas.List.{map-set}
use Rattle.kern_model.specs.State.{Kernel, Count, object_at, with_content, no_object}
use Rattle.pend_multi.specs.Polls.{PollRecord, IsSeen}

-- these counts
abbrev pub counts_seen : List ℕ → PollRecord
counts_seen counts = record { contents = map (λ n. Count n) counts; free = 0 }

pub held : (k : Kernel) (counts : List ℕ) (o : ℕ) → IsSeen k (counts_seen counts) → (object_at k o).content ≡ Count (get_or counts o 0)
held k counts o seen =
    sym (get_or-map (λ b. b.content) k.objects o no_object) ∙ ap (λ cs. get_or cs o (Count 0)) seen.contents ∙ get_or-map (λ n. Count n) counts o 0

pub seen-left : (k : Kernel) (counts : List ℕ) (o m : ℕ) → IsSeen k (counts_seen counts) → IsSeen (with_content k o (Count m)) (counts_seen (set counts o m))
seen-left k counts o m seen = record {
  contents =
      map-set (λ b. b.content) k.objects o (record (object_at k o) { content = Count m })
      ∙ ap (λ cs. set cs o (Count m)) seen.contents ∙ sym (map-set (λ n. Count n) counts o m);
  free = seen.free;
}

-- a count can be taken from where it is not 0
pub ready-count : (n : ℕ) → nat_lt 0 n ≡ is_some (polled (Count n))
ready-count zero = refl
ready-count (suc n) = lt-ltb 0 (suc n) (omega arith)
