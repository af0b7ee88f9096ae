use Rattle.std.proofs.Common.{◌⊎◌}
use Rattle.wc_validate.specs.Validate.{module_record}
use Rattle.wc_world.specs.Causes.{IsComponentWorldCause, IsMemory}
use Rattle.wc_world.specs.Refused.{IsRefusedAt, RefusedWorld}
use Rattle.wc_world.proofs.AdapterLemmas.{first_or_memory, first_placed}
use Rattle.wc_world.proofs.FaultLemmas.{passed_on}
use Rattle.wc_world.proofs.world.ComponentWorld.new_explained.Goals as goal

pub returns-in_err-adapters-clause-fault : goal.returns-in_err-adapters-clause-fault
returns-in_err-adapters-clause-fault g c =
    passed_on (λ (x : RefusedWorld). IsMemory c.args.encoder.now x.fault ⊎ IsComponentWorldCause c.args.encoder.now x.fault) c.from_residual-in_err-adapters.result _ c.from_residual-in_err-adapters.ensures.1
    (first_or_memory c.args.encoder.now (module_record c.in_ok-info.info) _ c.in_ok-info.ensures.recorded c.in_err-adapters.ensures.refusal)

pub returns-in_err-adapters-clause-place : goal.returns-in_err-adapters-clause-place
returns-in_err-adapters-clause-place g c =
    passed_on (IsRefusedAt c.args.encoder.now) c.from_residual-in_err-adapters.result _ c.from_residual-in_err-adapters.ensures.1
    (first_placed c.args.encoder.now (module_record c.in_ok-info.info) _ c.in_ok-info.ensures.recorded c.in_err-adapters.ensures.refusal)

pub returns-clause-no_cause : goal.returns-clause-no_cause
returns-clause-no_cause g c = c.worlds_exclude_faults.ensures _ _ c.in_ok-world_with.ensures
