use Rattle.std.proofs.Common.{◌≡◌, ◌+◌, drop, option_map}
use Rattle.wc_component_file.specs.Renamed.{mark_start}
use Rattle.wc_component_file.proofs.renamed.mark_start.Given as goal

abbrev pub invariant-loop-start : goal.invariant-loop-start
invariant-loop-start l = mark_start l.name ≡ option_map (λ k. l.start + k) (mark_start (drop l.start l.name))
