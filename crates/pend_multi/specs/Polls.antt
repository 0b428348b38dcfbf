-- What polls look at.
use Rattle.std.specs.Prelude.{◌≡◌, ◌<◌, ◌≤◌, All, ℕ, List, length, map}
use Rattle.kern_model.specs.State.{Kernel, Content, count_of}

-- what each object holds, by number, and how many messages are free
pub record PollRecord : Type 0 where
  pub contents : List Content
  pub free : ℕ

-- the kernel has these
pub record IsSeen (k : Kernel) (v : PollRecord) : Type 0 where
  pub contents : map (λ b. b.content) k.objects ≡ v.contents
  pub free : k.free ≡ v.free

-- at most 8 objects, all different
pub record AreIds (ids : List ℕ) : Type 0 where
  pub few : length ids ≤ 8
  pub low : All (λ o. o < 64) ids
  pub different : (o : ℕ) → count_of o ids ≤ 1
