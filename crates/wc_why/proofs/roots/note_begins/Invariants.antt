use Rattle.std.proofs.Common.{◌≡◌, List, length, map, take}
use Rattle.wc_why.specs.Part.{PartView, begin_view}
use Rattle.wc_why.specs.Private.Numbers.{AreNumbers}
use Rattle.wc_why.specs.Private.Roots.{AreFirstsOf}
use Rattle.wc_why.proofs.roots.note_begins.Given as goal

abbrev pub invariant-loop-position : goal.invariant-loop-position
invariant-loop-position l =
    (length l.firsts.items ≡ length l.fn.firsts.items)
    × ((parts : List PartView) → AreNumbers parts l.numbers
    → AreFirstsOf l.numbers l.part (map begin_view (take l.position l.begins)) l.fn.firsts.items l.firsts.items)
