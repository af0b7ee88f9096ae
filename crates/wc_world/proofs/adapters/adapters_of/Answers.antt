use Rattle.std.proofs.Common.{◌⊎◌, inl}
use Rattle.wc_validate.specs.Validate.{module_record}
use Rattle.wc_world.specs.Private.Refused.{IsFirstRefusal}
use Rattle.wc_world.specs.Refused.{IsMemoryRefusal, RefusedWorld}
use Rattle.wc_world.proofs.RefusedLemmas.{err_given}
use Rattle.wc_world.proofs.adapters.adapters_of.Goals as goal

pub returns-in_err-interfaces-clause-refusal : goal.returns-in_err-interfaces-clause-refusal
returns-in_err-interfaces-clause-refusal c =
    err_given (λ (x : RefusedWorld). IsMemoryRefusal x ⊎ IsFirstRefusal c.args.encoder.now (module_record c.args.main.now) x) IsMemoryRefusal c.from_residual.result (λ x memory. inl memory) c.from_residual.ensures.1
