use Rattle.std.proofs.Common.{◌≡◌, map, take}
use Rattle.std.specs.List.{flat_map}
use Rattle.std.specs.Io.KnownBytes.{Appends}
use Rattle.wc_read.specs.Exports.{export_value}
use Rattle.wctrim_command.specs.Scan.{export_line}
use Rattle.wctrim_command.proofs.scan.put_exports.Given as goal

abbrev pub invariant-loop-export : goal.invariant-loop-export
invariant-loop-export g l = record {
  written : Appends (g.S.Sink.written l.fn.out) (g.S.Sink.written l.out) (flat_map export_line (map export_value (take l.export-index l.exports)));
  works : g.S.Sink.is_failed l.out ≡ g.S.Sink.is_failed l.fn.out;
}
