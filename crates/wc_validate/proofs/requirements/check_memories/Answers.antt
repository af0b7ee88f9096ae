use Rattle.std.proofs.Common.{inl}
use Rattle.wc_validate.specs.Private.Explain.{IsRefusedForMemories}
use Rattle.wc_validate.specs.Refused.{IsMemoryRefusal}
use Rattle.wc_validate.proofs.MissingLemmas.{memories_refused}
use Rattle.wc_validate.proofs.RefusedLemmas.{failed_on}
use Rattle.wc_validate.proofs.requirements.check_memories.Goals as goal

pub returns-in_ok-memory_refusal-in-Some-clause-refused : goal.returns-in_ok-memory_refusal-in-Some-clause-refused
returns-in_ok-memory_refusal-in-Some-clause-refused c =
    memories_refused c.args.names.now.entries c.in-Some.name c.in_ok-memory_refusal-in-Some.field-0 c.in-Some.ensures c.in_ok-memory_refusal-in-Some.ensures.fault c.in_ok-memory_refusal-in-Some.ensures.place

pub returns-in_err-memory_refusal-in-Some-clause-refused : goal.returns-in_err-memory_refusal-in-Some-clause-refused
returns-in_err-memory_refusal-in-Some-clause-refused c =
    failed_on IsMemoryRefusal (IsRefusedForMemories c.args.names.now.entries) _ (λ x h. inl h) c.from_residual.ensures.1
