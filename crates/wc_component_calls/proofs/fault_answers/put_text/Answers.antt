use Rattle.wc_component_calls.proofs.AnswerLemmas.{text_answered}
use Rattle.wc_component_calls.proofs.fault_answers.put_text.Goals as goal

pub returns : goal.returns
returns c =
    let p = c.put in
    text_answered c.args.text.now (λ f. ⊥) p.result c.args.out.now p.new.out p.ensures.length p.ensures.module_length p.ensures.done p.ensures.too_small
    p.ensures.unchanged p.ensures.statuses p.ensures.no_fault p.ensures.no_bytes
