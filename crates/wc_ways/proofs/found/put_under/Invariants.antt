use Rattle.std.proofs.Common.{◌≡◌, ◌++◌, map, take}
use Rattle.wc_why.specs.Texts.{text_of}
use Rattle.wc_why.specs.Tree.{tree_import_view}
use Rattle.wc_ways.specs.Found.{found_under}
use Rattle.wc_ways.specs.Private.Wanted.{wanted_view}
use Rattle.wc_ways.proofs.found.put_under.Given as goal

abbrev pub invariant-loop-interface : goal.invariant-loop-interface
invariant-loop-interface l =
    map wanted_view l.wanted.items ≡ map wanted_view l.fn.wanted.items
    ++ map (found_under l.name (tree_import_view l.import) l.fn.place.0 l.fn.place.1) (map text_of (take l.interface-index l.interfaces))
