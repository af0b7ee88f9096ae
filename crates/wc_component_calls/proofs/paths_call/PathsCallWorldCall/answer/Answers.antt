use Rattle.wc_world.specs.WorldViews.{world_view}
use Rattle.wc_component_calls.specs.PathsCall.{IsPathsCause, IsPathsText}
use Rattle.wc_component_calls.proofs.AnswerLemmas.{made_answered}
use Rattle.wc_component_calls.proofs.paths_call.PathsCallWorldCall.answer.Goals as goal

pub returns : goal.returns
returns c =
    let w = world_view c.args.world.now in
    let key = c.args.self.now.key.now in
    made_answered (IsPathsText w key) (IsPathsCause key w) c.paths_of.result c.answer_text.result c.args.out.now c.answer_text.new.out c.paths_of.ensures.text
    c.paths_of.ensures.fault c.answer_text.ensures
