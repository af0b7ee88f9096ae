use Rattle.std.proofs.Common.{List, map}
use Rattle.wc_resolve.specs.Futures.{AreFuturesEntries, entry_view}
use Rattle.wc_resolve.specs.Shortcuts.{AreShortcuts}
use Rattle.wc_resolve.specs.Views.{TypeView}
use Rattle.wc_resolve.proofs.shortcuts.shortcuts_along.Given as goal

abbrev pub invariant-loop-index : goal.invariant-loop-index
invariant-loop-index l = (types : List TypeView) → AreFuturesEntries types (map entry_view l.entries) → AreShortcuts types l.shortcuts.items
