use Rattle.std.proofs.Common.{inr}
use Rattle.wc_calls.specs.Private.OptionTables.{table_options}
use Rattle.wc_calls.proofs.FaultAnswerLemmas.{message_refused}
use Rattle.wc_calls.proofs.HeapLemmas.{encoder_there, options_there}
use Rattle.wc_calls.proofs.WorldCallLemmas.{answered_for_message}
use Rattle.wc_calls.proofs.world_calls.answer_for_world.Goals as goal

pub returns-in-Ok : goal.returns-in-Ok
returns-in-Ok g c =
    let message = c.args.message.now in
    let modules = c.args.modules.now in
    let input = c.deref.result.now in
    let encodes = encoder_there message modules c.in-Ok.input.value input c.deref.ensures c.in-Ok.ensures.encoder in
    let given = options_there message c.in-Ok.input.value input c.deref.ensures c.in-Ok.ensures.options in
    answered_for_message (g.C.WorldCall.answers c.args.call.now) message modules (table_options input.options) input.encoder c.answer_for_input.result
    c.args.out.now c.answer_for_input.new.out encodes given c.answer_for_input.ensures

pub returns-in-Err : goal.returns-in-Err
returns-in-Err g c =
    let r = c.answer_refused in
    inr (record {
      fault = λ is.
          message_refused c.args.message.now c.args.modules.now c.in-Err.refused r.result c.args.out.now r.new.out c.in-Err.ensures.fault (r.ensures.fault is);
      unchanged = r.ensures.unchanged;
      statuses = r.ensures.statuses;
      others = r.ensures.others;
    })
