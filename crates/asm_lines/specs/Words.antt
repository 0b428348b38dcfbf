-- The words that have a meaning from the start: the names of the services and of the settings.
use Rattle.std.specs.Prelude.{ℕ, zero, suc, List, [], ◌∷◌, codes, Option, Some, None, if◌then◌else◌}
use Rattle.std.specs.Str.{bytes_eq}
use Rattle.kern_base.specs.Services.{service_of, service_name}
use Rattle.app_image.specs.declared.settings.ConfigKey.{ConfigKey}
use Rattle.app_image.specs.declared.settings.ConfigKey.TheVariants.{IsrLimit, DeferSize, Pool, TmrDiv, RoundRobin, Quanta, TickPrio, TmrPrio, TmrSp, Insert}
use Rattle.asm_lines.specs.Tables.{entry}

-- the number, from 1 to n, of the service that has this name
abbrev pub service_numbered : ℕ → List ℕ → Option ℕ
service_numbered zero name = None
service_numbered (suc n) name = if bytes_eq (service_name (service_of (suc n))) name then Some (suc n) else service_numbered n name

-- the number of the service that has this name, of the 39 services
unfoldable pub service_number : List ℕ → Option ℕ
service_number name = service_numbered 39 name

-- the settings by name
abbrev pub keys : List (List ℕ × ConfigKey)
keys =
    (codes "isr_limit", IsrLimit) ∷
    (codes "defer_size", DeferSize) ∷
    (codes "pool", Pool) ∷
    (codes "tmr_div", TmrDiv) ∷
    (codes "round_robin", RoundRobin) ∷
    (codes "quanta", Quanta) ∷
    (codes "tick_prio", TickPrio) ∷
    (codes "tmr_prio", TmrPrio) ∷
    (codes "tmr_sp", TmrSp) ∷
    (codes "insert", Insert) ∷ []

-- the setting that has this name
abbrev pub key_of : List ℕ → Option ConfigKey
key_of name = entry name keys
