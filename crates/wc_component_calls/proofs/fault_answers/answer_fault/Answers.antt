use Rattle.std.proofs.Common.{◌≡◌, ◌∙◌, sym}
use Rattle.wc_component_calls.proofs.AnswerLemmas.{fault_answered, memory_answered}
use Rattle.wc_component_calls.proofs.fault_answers.answer_fault.Goals as goal

pub returns-then-is_memory : goal.returns-then-is_memory
returns-then-is_memory c =
    let a = c.answer_without_bytes in
    memory_answered (λ t. ⊥) (λ f. f ≡ c.args.fault.now) a.result c.args.out.now a.ensures.status a.ensures.no_fault a.ensures.no_bytes

pub returns-in-Ok : goal.returns-in-Ok
returns-in-Ok c =
    fault_answered c.args.fault.now c.put_said.result c.args.out.now c.put_said.new.out (sym c.is_memory.ensures ∙ c.if-is_memory.false) c.put_said.ensures

pub returns-in-Err : goal.returns-in-Err
returns-in-Err c =
    let a = c.answer_without_bytes-in-Err in
    memory_answered (λ t. ⊥) (λ f. f ≡ c.args.fault.now) a.result c.args.out.now a.ensures.status a.ensures.no_fault a.ensures.no_bytes
