-- Runs of locals (5.5.13).
use Rattle.std.specs.Prelude.{ℕ, Some}
use Rattle.wc_read.specs.Options.{◌>>=◌}
use Rattle.wc_read.specs.Reading.Reader.{Read, number_at}
use Rattle.wc_read.specs.Reading.Types.{val_type_at}
use Rattle.wc_read.specs.declared.types.ValType.{ValType}
use Rattle.wc_read.specs.declared.bodies.Locals.{Locals}

abbrev pub locals_of : ℕ → ValType → Locals
locals_of count ty = record { count = count; ty = ty }

unfoldable pub locals_at : Read Locals
locals_at bytes = do
  count ← number_at 32 bytes
  ty ← val_type_at count.1
  Some (locals_of count.0 ty.0, ty.1)
