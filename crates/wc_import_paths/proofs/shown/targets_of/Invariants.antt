use Rattle.std.proofs.Common.{◌≡◌, map, take}
use Rattle.wc_import_paths.specs.Shown.{end_view, target_of}
use Rattle.wc_import_paths.proofs.shown.targets_of.Given as goal

abbrev pub invariant-loop-end : goal.invariant-loop-end
invariant-loop-end l = l.targets.items ≡ map target_of (map end_view (take l.end-index l.shown))
