use Rattle.std.proofs.Common.{◌≡◌, map, take}
use Rattle.std.specs.List.{flat_map}
use Rattle.std.specs.Io.KnownBytes.{Appends}
use Rattle.wc_read.specs.Imports.{import_value}
use Rattle.wctrim_command.specs.Scan.{import_line}
use Rattle.wctrim_command.proofs.scan.put_imports.Given as goal

abbrev pub invariant-loop-import : goal.invariant-loop-import
invariant-loop-import g l = record {
  written : Appends (g.S.Sink.written l.fn.out) (g.S.Sink.written l.out) (flat_map import_line (map import_value (take l.import-index l.imports)));
  works : g.S.Sink.is_failed l.out ≡ g.S.Sink.is_failed l.fn.out;
}
