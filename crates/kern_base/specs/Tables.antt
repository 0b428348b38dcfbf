-- What an application declares, as far as static checks look at it.
use Rattle.std.specs.Prelude.{ℕ, List}
use Rattle.kern_base.specs.declared.kinds.Kind.{Kind}

-- the kinds of the objects by number, and how many application tasks there are
pub record KindTable : Type 0 where
  pub objects : List Kind
  pub tasks : ℕ
