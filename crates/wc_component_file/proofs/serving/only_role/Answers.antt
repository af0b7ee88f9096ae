use Rattle.std.proofs.Common.{map, sym, ◌∙◌, rules}
use Rattle.std.proofs.lemmas.Bool.{false≢true}
use Rattle.wc_maps.specs.Texts.{text_of}
use Rattle.wc_component_file.specs.Private.Served.{is_left}
use Rattle.wc_component_file.proofs.ServingLemmas.{only_more, other_left}
use Rattle.wc_component_file.proofs.serving.only_role.Goals as goal

pub loop-pair-init : goal.loop-pair-init
unfolding is_left
loop-pair-init c = λ n h. absurd (false≢true h)

pub returns-then-is_another-clause-refused : goal.returns-then-is_another-clause-refused
returns-then-is_another-clause-refused c =
    other_left c.args.asked.now (map text_of c.args.lacking.now.keys) c.loop-pair.pair-index _ c.args.name.now (search rules)
    (sym c.is_another.ensures ∙ c.if-is_another.true)

pub loop-pair-preserved : goal.loop-pair-preserved
loop-pair-preserved c =
    only_more c.args.asked.now (map text_of c.args.lacking.now.keys) c.loop-pair.pair-index _ c.args.name.now (search rules)
    (sym c.is_another.ensures ∙ c.if-is_another.false) c.loop-pair.invariant
