-- Names of tasks and objects.
use Rattle.std.specs.Prelude.{ℕ, zero, suc, ◌≡◌, ◌≢◌, ◌≤◌, List, ◌++◌, length, map, Bool, false, ◌||◌, ◌&&◌, not, IsTrue, AllPairs}
use Rattle.std.specs.Str.{bytes_eq}
use Rattle.text_lex.specs.Bytes.{is_name}
use Rattle.kern_base.specs.Services.{service_of, service_name}
use Rattle.app_image.specs.declared.records.TaskDef.{TaskDef}
use Rattle.app_image.specs.declared.records.ObjDef.{ObjDef}

-- a service with a number from 1 to n has this name
unfoldable pub names_service : ℕ → List ℕ → Bool
names_service zero name = false
names_service (suc n) name = bytes_eq (service_name (service_of (suc n))) name || names_service n name

-- the name of one of the 39 services, which is a constant from the start
unfoldable pub is_service_name : List ℕ → Bool
is_service_name name = names_service 39 name

-- a name that no service has
abbrev pub is_free_name : List ℕ → Bool
is_free_name name = is_name name && not (is_service_name name)

-- a task or an object may have this name: 1 to 16 bytes that are a name, and no service's
pub record IsFreeName (name : List ℕ) : Type 0 where
  pub some : 1 ≤ length name
  pub short : length name ≤ 16
  pub form : IsTrue (is_name name)
  pub free : is_service_name name ≡ false

-- the names of the tasks and then of the objects
abbrev pub names_of : List TaskDef → List ObjDef → List (List ℕ)
names_of tasks objects = map (λ t. t.name) tasks ++ map (λ o. o.name) objects

-- no name stands twice
abbrev pub AreDistinct : List (List ℕ) → Type 0
AreDistinct names = AllPairs (λ m n. m ≢ n) names
