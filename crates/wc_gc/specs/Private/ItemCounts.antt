-- How many items a module has at most, so that each has an index of 32 bits.
use Rattle.std.specs.Prelude.{◌<◌, ◌^◌, length}
use Rattle.wc_read.specs.declared.core_module.Module.{Module}

pub record ItemCountsFitU32 (m : Module) : Type 0 where
  pub types : length m.types.items < 2 ^ 32
  pub funcs : length m.funcs.items < 2 ^ 32
  pub tables : length m.tables.items < 2 ^ 32
  pub memories : length m.memories.items < 2 ^ 32
  pub globals : length m.globals.items < 2 ^ 32
