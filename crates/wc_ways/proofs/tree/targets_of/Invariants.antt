use Rattle.std.proofs.Common.{◌≡◌, map, take}
use Rattle.wc_ways.specs.WaysTree.{targets_of}
use Rattle.wc_ways.specs.Private.Wanted.{wanted_view}
use Rattle.wc_ways.proofs.tree.targets_of.Given as goal

abbrev pub invariant-loop-one : goal.invariant-loop-one
invariant-loop-one l = l.targets.items ≡ targets_of (map wanted_view (take l.one-index l.wanted))
