use Rattle.std.proofs.Common.{◌≡◌, [], List, length, map, take}
use Rattle.wc_why.specs.Part.{PartView, link_view}
use Rattle.wc_why.specs.Private.Graph.{AreLinkedBy}
use Rattle.wc_why.specs.Private.Numbers.{AreNumbers}
use Rattle.wc_why.proofs.links.put_links.Given as goal

abbrev pub invariant-loop-link : goal.invariant-loop-link
invariant-loop-link l =
    (length l.linked.items ≡ length l.fn.linked.items)
    × ((parts : List PartView) → AreNumbers parts l.numbers → AreLinkedBy parts [] l.numbers l.fn.linked.items
    → AreLinkedBy parts (map link_view (take l.link-index l.links)) l.numbers l.linked.items)
