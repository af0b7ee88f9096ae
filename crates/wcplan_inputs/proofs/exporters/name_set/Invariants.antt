use Rattle.std.proofs.Common.{map, take}
use Rattle.wc_maps.specs.Texts.{HasTexts, text_of}
use Rattle.wcplan_inputs.proofs.exporters.name_set.Given as goal

abbrev pub invariant-loop-export : goal.invariant-loop-export
invariant-loop-export l = HasTexts (map (λ e. e.name.now) (take l.export-index l.exports)) (map text_of l.names.keys)
