use Rattle.std.proofs.Common.{map, refl, sym, ◌∙◌, rules}
use Rattle.wc_maps.specs.Texts.{text_of}
use Rattle.wc_component_file.specs.Private.Served.{is_left}
use Rattle.wc_component_file.proofs.ServingLemmas.{left_here, none_left}
use Rattle.wc_component_file.proofs.serving.first_left.Goals as goal

pub loop-pair-init : goal.loop-pair-init
unfolding is_left
loop-pair-init c = λ n. refl

pub returns-then-not-is_in_set-clause-left : goal.returns-then-not-is_in_set-clause-left
returns-then-not-is_in_set-clause-left c =
    left_here c.args.asked.now (map text_of c.args.lacking.now.keys) c.loop-pair.pair-index _ (search rules) (sym c.is_in_set.ensures ∙ c.if-not-is_in_set.true)

pub loop-pair-preserved : goal.loop-pair-preserved
loop-pair-preserved c = λ n.
    none_left c.args.asked.now (map text_of c.args.lacking.now.keys) c.loop-pair.pair-index _ n (search rules)
    (sym c.is_in_set.ensures ∙ c.if-not-is_in_set.false) (c.loop-pair.invariant n)
