use Rattle.wc_world.specs.WorldViews.{world_view}
use Rattle.wc_ways.specs.Imports.{IsImportsJson}
use Rattle.wc_component_calls.specs.ImportsCall.{IsImportsCause}
use Rattle.wc_component_calls.proofs.AnswerLemmas.{made_answered}
use Rattle.wc_component_calls.proofs.imports_call.ImportsCallWorldCall.answer.Goals as goal

pub returns : goal.returns
returns c =
    let w = world_view c.args.world.now in
    made_answered (IsImportsJson w) (IsImportsCause w) c.imports_of.result c.answer_text.result c.args.out.now c.answer_text.new.out c.imports_of.ensures.text
    c.imports_of.ensures.fault c.answer_text.ensures
