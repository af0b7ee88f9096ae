use Rattle.std.proofs.Common.{◌^◌, ◌∙◌, ap, refl}
use Rattle.json.specs.Value.{value_view}
use Rattle.std.proofs.lemmas.Bool.{lt-ltb, ltb-true}
use Rattle.wc_json.specs.declared.fault.Problem.TheVariants.{NotAnIndex}
use Rattle.wc_json.proofs.FaultLemmas.{IsFaultOf_refusal}
use Rattle.wc_json.proofs.IdLemmas.{cond-not_true, index-as_u64, index_of_u64}
use Rattle.wc_json.proofs.ids.index.Goals as goal

pub returns-in_default-clause-reads : goal.returns-in_default-clause-reads
returns-in_default-clause-reads c =
    IsFaultOf_refusal c.fault_here.result _ NotAnIndex
    (index-as_u64 (value_view c.args.value.now) c.as_u64.result c.as_u64.ensures ∙ ap index_of_u64 c.in_default.is)
    c.fault_here.ensures.fault

pub returns-in-Ok-clause-reads : goal.returns-in-Ok-clause-reads
returns-in-Ok-clause-reads c =
    index-as_u64 (value_view c.args.value.now) c.as_u64.result c.as_u64.ensures ∙ ap index_of_u64 c.in-Some.is
    ∙ rw (lt-ltb c.in-Some.number (2 ^ 32) c.in-Ok.ensures.0, c.in-Ok.ensures.1) refl

pub returns-in-Err-clause-reads : goal.returns-in-Err-clause-reads
returns-in-Err-clause-reads c =
    IsFaultOf_refusal c.fault_here-in-Err.result _ NotAnIndex
    (index-as_u64 (value_view c.args.value.now) c.as_u64.result c.as_u64.ensures ∙ ap index_of_u64 c.in-Some.is
    ∙ cond-not_true _ _ _ (λ t. c.in-Err.ensures (ltb-true c.in-Some.number (2 ^ 32) t)))
    c.fault_here-in-Err.ensures.fault
