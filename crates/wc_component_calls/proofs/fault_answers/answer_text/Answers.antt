use Rattle.std.proofs.Common.{Ok, Err, refl}
use Rattle.wc_component_calls.proofs.AnswerLemmas.{answered_fault, answered_text}
use Rattle.wc_component_calls.proofs.fault_answers.answer_text.Goals as goal

pub returns-in-Ok : goal.returns-in-Ok
returns-in-Ok c =
    let p = c.put_text in
    rw c.in-Ok.is (answered_text (Ok c.in-Ok.text) c.deref.result.now p.result c.args.out.now p.new.out c.deref.ensures.value p.ensures)

pub returns-in-Err : goal.returns-in-Err
returns-in-Err c =
    let a = c.answer_fault in
    rw c.in-Err.is (answered_fault (Err c.in-Err.fault) c.in-Err.fault a.result c.args.out.now a.new.out refl a.ensures)
