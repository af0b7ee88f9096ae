use Rattle.std.proofs.Common.{◌≡◌, take}
use Rattle.std.specs.Io.KnownBytes.{Appends}
use Rattle.wctrim_command.specs.Lines.{lines_of}
use Rattle.wctrim_command.proofs.lines.put_renames.Given as goal

abbrev pub invariant-loop-index : goal.invariant-loop-index
invariant-loop-index g l = record {
  written : Appends (g.S.Sink.written l.fn.out) (g.S.Sink.written l.out) (lines_of (take l.index l.renames));
  works : g.S.Sink.is_failed l.out ≡ g.S.Sink.is_failed l.fn.out;
}
