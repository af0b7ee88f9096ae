use Rattle.std.proofs.Common.{ℕ, List, map, take}
use Rattle.wc_maps.specs.Texts.{HasTexts, text_of, text_pair}
use Rattle.wc_component_file.specs.Private.Served.{AreLacking}
use Rattle.wc_component_file.proofs.serving.lacking.Given as goal

abbrev pub invariant-loop-pair : goal.invariant-loop-pair
invariant-loop-pair l = (functions : List (List ℕ)) → HasTexts functions (map text_of l.exported.keys)
    → AreLacking functions (map text_pair (take l.pair-index l.asked)) (map text_of l.lacking.keys)
