use Rattle.std.proofs.Common.{inl, inr}
use Rattle.wc_world.specs.WorldViews.{world_view}
use Rattle.wc_calls.specs.Private.EncoderAnswers.{IsFaultFor}
use Rattle.wc_calls.specs.Private.OptionTables.{table_options}
use Rattle.wc_calls.proofs.HeapLemmas.{world_there}
use Rattle.wc_calls.proofs.RefusalLemmas.{refusal_answered}
use Rattle.wc_calls.proofs.world_calls.answer_for_input.Goals as goal

pub answer-requires : goal.answer-requires
answer-requires g c =
    let input = c.args.input.now in
    let made =
    world_there (table_options input.options) input.encoder c.in-Ok.world.value c.deref.result.now c.deref.ensures
    c.in-Ok.ensures.world in
    c.worlds_nameable.ensures (table_options input.options) (world_view c.deref.result.now) made

pub returns-in-Ok : goal.returns-in-Ok
returns-in-Ok g c =
    let input = c.args.input.now in
    let made =
    world_there (table_options input.options) input.encoder c.in-Ok.world.value c.deref.result.now c.deref.ensures
    c.in-Ok.ensures.world in
    inl (world_view c.deref.result.now, made, c.answer.ensures)

pub returns-in-Err : goal.returns-in-Err
returns-in-Err g c =
    let e = c.args.input.now.encoder in
    let r = c.answer_refused in
    inr (record {
      fault = λ is.
          refusal_answered e (IsFaultFor e) c.in-Err.refused r.result c.args.out.now r.new.out c.in-Err.ensures.fault c.in-Err.ensures.place (r.ensures.fault is);
      unchanged = r.ensures.unchanged;
      statuses = r.ensures.statuses;
      others = r.ensures.others;
    })
