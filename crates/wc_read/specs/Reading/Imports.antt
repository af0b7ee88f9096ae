-- Imports (5.5.5).
use Rattle.std.specs.Prelude.{◌==◌, if◌then◌else◌, Some, None}
use Rattle.wc_read.specs.Options.{◌>>=◌}
use Rattle.wc_read.specs.Imports.{ImportValue}
use Rattle.wc_read.specs.Reading.Reader.{Read, byte_at, number_at, name_at}
use Rattle.wc_read.specs.Reading.Types.{global_at}
use Rattle.wc_read.specs.Reading.Limits.{table_at, memory_at}
use Rattle.wc_read.specs.declared.types.ImportType.{ImportType}
use Rattle.wc_read.specs.declared.types.ImportType.TheVariants.{Func, Table, Memory, Global}

unfoldable pub import_type_at : Read ImportType
import_type_at bytes = do
  kind ← byte_at bytes
  if kind.0 == 0 then number_at 32 kind.1 >>= (λ index. Some (Func index.0, index.1))
      else if kind.0 == 1 then table_at kind.1 >>= (λ t. Some (Table t.0, t.1))
      else if kind.0 == 2 then memory_at kind.1 >>= (λ m. Some (Memory m.0, m.1))
      else if kind.0 == 3 then global_at kind.1 >>= (λ g. Some (Global g.0, g.1)) else None

unfoldable pub import_at : Read ImportValue
import_at bytes = do
  m ← name_at bytes
  n ← name_at m.1
  t ← import_type_at n.1
  Some (record { module_name = m.0; name = n.0; ty = t.0 }, t.1)
