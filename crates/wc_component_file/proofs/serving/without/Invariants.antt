use Rattle.std.proofs.Common.{◌≡◌, map, take}
use Rattle.wc_maps.specs.Texts.{text_of, text_pair}
use Rattle.wc_component_file.specs.Serving.{without}
use Rattle.wc_component_file.proofs.serving.without.Given as goal

abbrev pub invariant-loop-pair : goal.invariant-loop-pair
invariant-loop-pair l = map text_pair l.left.items ≡ without (map text_of l.names.keys) (map text_pair (take l.pair-index l.pairs))
