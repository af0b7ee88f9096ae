use Rattle.std.proofs.Common.{◌≡◌, List, map, take, Some}
use Rattle.std.specs.List.{slice_get}
use Rattle.wc_why.specs.Part.{PartView, begin_view}
use Rattle.wc_why.specs.Private.Lists.{PutsNumbers, begins_of}
use Rattle.wc_why.specs.Private.Numbers.{AreNumbers}
use Rattle.wc_why.proofs.lists.put_roots.Given as goal

abbrev pub invariant-loop-begin : goal.invariant-loop-begin
invariant-loop-begin l =
    (parts : List PartView) (view : PartView) → AreNumbers parts l.numbers → slice_get parts l.part ≡ Some view
    → PutsNumbers l.numbers (begins_of l.part view l.list (map begin_view (take l.begin-index l.begins))) l.fn.out.items l.out.items
