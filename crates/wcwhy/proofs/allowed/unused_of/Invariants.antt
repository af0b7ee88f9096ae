use Rattle.std.proofs.Common.{◌≡◌, map, take}
use Rattle.wcwhy.specs.Allowed.{entry_view, module_names, unused}
use Rattle.wcwhy.proofs.allowed.unused_of.Given as goal

abbrev pub invariant-loop-entry : goal.invariant-loop-entry
invariant-loop-entry l = map entry_view l.found.items ≡ unused (map entry_view (take l.entry-index l.entries)) (module_names l.offered)
