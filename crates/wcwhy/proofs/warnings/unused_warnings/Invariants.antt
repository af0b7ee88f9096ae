use Rattle.std.proofs.Common.{◌≡◌, map, string_bytes, take}
use Rattle.std.specs.List.{flat_map}
use Rattle.wcwhy.specs.Allowed.{entry_view}
use Rattle.wcwhy.specs.Warnings.{unused_warning}
use Rattle.wcwhy.proofs.warnings.unused_warnings.Given as goal

abbrev pub invariant-loop-entry : goal.invariant-loop-entry
invariant-loop-entry l = string_bytes l.text ≡ flat_map (unused_warning l.path) (map entry_view (take l.entry-index l.entries))
