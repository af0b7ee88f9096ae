use Rattle.std.proofs.Common.{◌≡◌, map, take}
use Rattle.wc_why.specs.Component.{all_functions}
use Rattle.wc_why.specs.Private.Layout.{indices_of}
use Rattle.wc_why.specs.Private.Modules.{shown_view}
use Rattle.wc_why.proofs.layout.wanted_of.Given as goal

abbrev pub invariant-loop-item : goal.invariant-loop-item
invariant-loop-item l = l.wanted.items ≡ indices_of (all_functions (map shown_view (take l.item-index l.items)))
