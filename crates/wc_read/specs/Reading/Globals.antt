-- Globals of a global section (5.5.9).
use Rattle.std.specs.Prelude.{List, map, Some}
use Rattle.wc_read.specs.Globals.{LocalGlobalValue}
use Rattle.wc_read.specs.Options.{◌>>=◌}
use Rattle.wc_read.specs.Reading.Reader.{Read}
use Rattle.wc_read.specs.Reading.Types.{global_at}
use Rattle.wc_read.specs.Reading.Inits.{init_bytes_at}
use Rattle.wc_read.specs.declared.globals.LocalGlobal.{LocalGlobal}

abbrev pub local_global_value : LocalGlobal → LocalGlobalValue
local_global_value g = record { ty = g.ty; init = g.init.now }

abbrev pub local_global_values : List LocalGlobal → List LocalGlobalValue
local_global_values gs = map local_global_value gs

unfoldable pub local_global_at : Read LocalGlobalValue
local_global_at bytes = do
  ty ← global_at bytes
  init ← init_bytes_at ty.1
  Some (record { ty = ty.0; init = init.0 }, init.1)
