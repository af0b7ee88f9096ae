use Rattle.std.proofs.Common.{◌≡◌, map, string_bytes, take}
use Rattle.wc_plan.specs.PlanViews.{use_view}
use Rattle.wcplan.specs.Lines.{lines_text}
use Rattle.wcplan.proofs.lines.lines_of.Given as goal

abbrev pub invariant-loop-one : goal.invariant-loop-one
invariant-loop-one l = string_bytes l.lines ≡ lines_text (map use_view (take l.one-index l.uses))
