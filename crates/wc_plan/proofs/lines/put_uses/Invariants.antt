use Rattle.std.proofs.Common.{◌≡◌, map, take}
use Rattle.std.specs.List.{flat_map}
use Rattle.std.specs.Io.KnownBytes.{Appends}
use Rattle.wc_plan.specs.Lines.{use_line}
use Rattle.wc_plan.specs.PlanViews.{use_view}
use Rattle.wc_plan.proofs.lines.put_uses.Given as goal

abbrev pub invariant-loop-one : goal.invariant-loop-one
invariant-loop-one g l = record {
  written : Appends (g.S.Sink.written l.fn.out) (g.S.Sink.written l.out) (flat_map use_line (map use_view (take l.one-index l.uses)));
  works : g.S.Sink.is_failed l.out ≡ g.S.Sink.is_failed l.fn.out;
}
