use Rattle.std.proofs.Common.{map, subst, rules}
use Rattle.std.proofs.lemmas.List.{take_all}
use Rattle.wc_maps.specs.Texts.{text_of, text_pair}
use Rattle.wc_component_file.specs.Private.Served.{AreLacking}
use Rattle.wc_component_file.proofs.ServingLemmas.{lacking_more}
use Rattle.wc_component_file.proofs.serving.lacking.Goals as goal

pub loop-pair-preserved : goal.loop-pair-preserved
loop-pair-preserved c = λ functions same.
    lacking_more functions c.args.asked.now c.loop-pair.pair-index _ (map text_of c.loop-pair.lacking.keys) (map text_of c.insert_if.new.names.keys)
    c.gives.result (search rules) (c.loop-pair.invariant functions same) (c.gives.ensures functions same) c.in_ok-insert_if.ensures

pub returns : goal.returns
returns c = λ functions same.
    subst (λ l. AreLacking functions (map text_pair l) (map text_of c.loop-pair.lacking.keys))
    (take_all c.loop-pair.pair-index c.args.asked.now c.loop-pair-test.false) (c.loop-pair.invariant functions same)
