-- The settings: their places, ranges and defaults.
use Rattle.std.specs.Prelude.{ℕ, ◌≤◌, ◌==◌, if◌then◌else◌, List, [], ◌∷◌, Bool}
use Rattle.app_image.specs.Addresses.{is_between, is_stack_pointer, IsStackPointer}
use Rattle.app_image.specs.declared.settings.ConfigKey.{ConfigKey}
use Rattle.app_image.specs.declared.settings.ConfigKey.TheVariants.{IsrLimit, DeferSize, Pool, TmrDiv, RoundRobin, Quanta, TickPrio, TmrPrio, TmrSp, Insert}
use Rattle.app_image.specs.declared.settings.ConfigLine.{ConfigLine}
use Rattle.app_image.specs.declared.settings.Config.{Config}

-- the place of a setting among the ten
abbrev pub key_number : ConfigKey → ℕ
key_number IsrLimit = 0
key_number DeferSize = 1
key_number Pool = 2
key_number TmrDiv = 3
key_number RoundRobin = 4
key_number Quanta = 5
key_number TickPrio = 6
key_number TmrPrio = 7
key_number TmrSp = 8
key_number Insert = 9

-- its value where none is given
abbrev pub default_of : ConfigKey → ℕ
default_of IsrLimit = 256
default_of DeferSize = 16
default_of Pool = 64
default_of TmrDiv = 10
default_of RoundRobin = 1
default_of Quanta = 10
default_of TickPrio = 1
default_of TmrPrio = 62
default_of TmrSp = 1310720
default_of Insert = 0

-- the values that it may have
abbrev pub is_in_range : ConfigKey → ℕ → Bool
is_in_range IsrLimit n = is_between 1 4096 n
is_in_range DeferSize n = is_between 2 256 n
is_in_range Pool n = is_between 0 1024 n
is_in_range TmrDiv n = is_between 1 1000 n
is_in_range RoundRobin n = is_between 0 1 n
is_in_range Quanta n = is_between 1 65535 n
is_in_range TickPrio n = is_between 1 62 n
is_in_range TmrPrio n = is_between 1 62 n
is_in_range TmrSp n = is_stack_pointer n
is_in_range Insert n = is_between 0 1 n

-- the value that the lines give a key
abbrev pub setting : ConfigKey → List ConfigLine → ℕ
setting key [] = default_of key
setting key (line ∷ lines) = if key_number line.key == key_number key then line.value else setting key lines

-- the settings that the lines give
abbrev pub config_of : List ConfigLine → Config
config_of lines = record {
  isr_limit = setting IsrLimit lines;
  defer_size = setting DeferSize lines;
  pool = setting Pool lines;
  tmr_div = setting TmrDiv lines;
  round_robin = setting RoundRobin lines;
  quanta = setting Quanta lines;
  tick_prio = setting TickPrio lines;
  tmr_prio = setting TmrPrio lines;
  tmr_sp = setting TmrSp lines;
  insert = setting Insert lines;
}

-- each setting is in its range
pub record IsValidConfig (c : Config) : Type 0 where
  pub isr_limit_low : 1 ≤ c.isr_limit
  pub isr_limit_high : c.isr_limit ≤ 4096
  pub defer_size_low : 2 ≤ c.defer_size
  pub defer_size_high : c.defer_size ≤ 256
  pub pool_high : c.pool ≤ 1024
  pub tmr_div_low : 1 ≤ c.tmr_div
  pub tmr_div_high : c.tmr_div ≤ 1000
  pub round_robin_high : c.round_robin ≤ 1
  pub quanta_low : 1 ≤ c.quanta
  pub quanta_high : c.quanta ≤ 65535
  pub tick_prio_low : 1 ≤ c.tick_prio
  pub tick_prio_high : c.tick_prio ≤ 62
  pub tmr_prio_low : 1 ≤ c.tmr_prio
  pub tmr_prio_high : c.tmr_prio ≤ 62
  pub tmr_sp_in_ram : IsStackPointer c.tmr_sp
  pub insert_high : c.insert ≤ 1
