use Rattle.std.proofs.Common.{ℕ, List, map, take}
use Rattle.wc_maps.specs.Texts.{HasTexts}
use Rattle.wc_why.specs.Texts.{text_of}
use Rattle.wc_module_ways.specs.Private.Imports.{AreWanted}
use Rattle.wc_module_ways.proofs.imports.names_outside.Given as goal

abbrev pub invariant-loop-name : goal.invariant-loop-name
invariant-loop-name l =
    (always : List (List ℕ)) → HasTexts always (map text_of l.set.keys) → AreWanted always (map text_of (take l.name-index l.names)) l.wanted.entries
