use Rattle.std.proofs.Common.{map, take}
use Rattle.wc_why_text.specs.Groups.{IsGrouped}
use Rattle.wc_why.specs.Tree.{tree_way_view}
use Rattle.wc_why_text.proofs.groups.groups_of.Given as goal

abbrev pub invariant-loop-position : goal.invariant-loop-position
invariant-loop-position l = IsGrouped (map tree_way_view (take l.position l.ways)) l.groups.entries
