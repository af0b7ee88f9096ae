use Rattle.std.proofs.Common.{◌∙◌, All, map, rules, subst, sym}
use Rattle.std.proofs.lemmas.List.{take_all}
use Rattle.wc_maps.proofs.ListLemmas.{all_more}
use Rattle.wc_maps.specs.Texts.{text_of}
use Rattle.wcplan_inputs.proofs.FileNameLemmas.{IsFit, unfit_at}
use Rattle.wcplan_inputs.proofs.file_names.first_unfit.Goals as goal

pub returns-then-not-is_file_name-clause-unfit : goal.returns-then-not-is_file_name-clause-unfit
returns-then-not-is_file_name-clause-unfit c =
    unfit_at c.args.names.now c.loop-name.name-index _ (search rules) c.loop-name.invariant
    (sym c.is_file_name.ensures ∙ c.if-not-is_file_name.true)

pub loop-name-preserved : goal.loop-name-preserved
loop-name-preserved c =
    all_more text_of IsFit c.args.names.now c.loop-name.name-index _ (search rules) c.loop-name.invariant
    (sym c.is_file_name.ensures ∙ c.if-not-is_file_name.false)

pub returns-clause-none : goal.returns-clause-none
returns-clause-none c =
    subst (λ l. All IsFit (map text_of l)) (take_all c.loop-name.name-index c.args.names.now (search rules)) c.loop-name.invariant
