use Rattle.std.proofs.Common.{◌≡◌, ℕ, List, map, take}
use Rattle.wc_maps.specs.Texts.{HasTexts}
use Rattle.wc_texts.specs.Names.{first_occurrences}
use Rattle.wc_why.specs.Texts.{text_of}
use Rattle.wc_module_ways.specs.CoreParts.{linked_name}
use Rattle.wc_module_ways.proofs.core_parts.linked_among.Given as goal

abbrev pub invariant-loop-name : goal.invariant-loop-name
invariant-loop-name l =
    (names : List (List ℕ)) → HasTexts names (map text_of l.there.keys)
    → map text_of l.linked.keys ≡ first_occurrences (map (linked_name names) (map text_of (take l.name-index l.imported)))
