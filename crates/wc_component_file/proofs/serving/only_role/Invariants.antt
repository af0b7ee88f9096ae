use Rattle.std.proofs.Common.{◌≡◌, ℕ, List, true, map, take}
use Rattle.wc_maps.specs.Texts.{text_of, text_pair}
use Rattle.wc_component_file.specs.Private.Served.{is_left}
use Rattle.wc_component_file.proofs.serving.only_role.Given as goal

abbrev pub invariant-loop-pair : goal.invariant-loop-pair
invariant-loop-pair l = (n : List ℕ) → is_left (map text_pair (take l.pair-index l.asked)) (map text_of l.lacking.keys) n ≡ true → n ≡ l.name
