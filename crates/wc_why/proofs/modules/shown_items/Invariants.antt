use Rattle.std.proofs.Common.{map, take}
use Rattle.wc_why.specs.Private.Modules.{AreShownBy, shown_view}
use Rattle.wc_why.proofs.modules.shown_items.Given as goal

abbrev pub invariant-loop-position : goal.invariant-loop-position
invariant-loop-position l = AreShownBy l.shown (take l.position-index l.positions) (map shown_view l.items.items)
