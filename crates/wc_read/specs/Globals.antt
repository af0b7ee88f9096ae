-- Globals of a global section (WebAssembly core specification, 2.5.6 and 5.5.9).
use Rattle.std.specs.Prelude.{◌≡◌, ℕ, List, ◌++◌}
use Rattle.wc_read.specs.Types.{SpellsGlobal}
use Rattle.wc_read.specs.Operators.{InstrValue}
use Rattle.wc_read.specs.Inits.{SpellsInit}
use Rattle.wc_read.specs.declared.types.GlobalType.{GlobalType}

-- a global: its type, and the bytes of its initialiser
pub record LocalGlobalValue : Type 0 where
  pub ty : GlobalType
  pub init : List ℕ

-- a type, and an initialiser after it
pub record SpellsLocalGlobal (bytes : List ℕ) (g : LocalGlobalValue) : Type 0 where
  pub type_bytes : List ℕ
  pub operators : List InstrValue
  pub cut : bytes ≡ type_bytes ++ g.init
  pub has_type : SpellsGlobal type_bytes g.ty
  pub has_init : SpellsInit g.init operators
