use Rattle.std.proofs.Common.{inl}
use Rattle.wc_world.specs.Private.Refused.{IsInputRefusal}
use Rattle.wc_world.specs.Refused.{IsMemoryRefusal}
use Rattle.wc_world.proofs.RefusedLemmas.{err_given}
use Rattle.wc_world.proofs.adapters.trimmed_bytes.Goals as goal

pub returns-in_err-names-clause-refusal : goal.returns-in_err-names-clause-refusal
returns-in_err-names-clause-refusal c = err_given (IsInputRefusal c.args.input.now) IsMemoryRefusal c.from_residual.result (λ x memory. inl memory) c.from_residual.ensures.1
