use Rattle.wc_read.specs.Modules.{module_value}
use Rattle.std.proofs.lemmas.Result.{IfErr-weaker}
use Rattle.wctrim_command.specs.Command.{scan}
use Rattle.wctrim_command.proofs.ExecutionLemmas.{if_scanned}
use Rattle.wctrim_command.proofs.FaultLemmas.{cause_of_read, not_put, place_of_read, refused}
use Rattle.wctrim_command.proofs.execution.scan.Goals as goal

pub returns-in-Ok-clause-done : goal.returns-in-Ok-clause-done
returns-in-Ok-clause-done g c = if_scanned c.scan_module.result _ _ (λ put. (module_value c.in-Ok.module, c.in-Ok.ensures.found, put)) c.scan_module.ensures.put

pub returns-in-Ok-clause-refusal : goal.returns-in-Ok-clause-refusal
returns-in-Ok-clause-refusal g c = IfErr-weaker c.scan_module.result _ _ (λ r h s. not_put (scan s) c.args.input.now r h.0 h.1) c.scan_module.ensures.fault

pub returns-in-Ok-clause-quiet : goal.returns-in-Ok-clause-quiet
returns-in-Ok-clause-quiet g c = IfErr-weaker c.scan_module.result _ _ (λ r h other. absurd (other h.0)) c.scan_module.ensures.fault

pub returns-in-Err-clause-refusal : goal.returns-in-Err-clause-refusal
returns-in-Err-clause-refusal g c = λ s. refused (scan s) c.args.input.now c.read_refusal.result _ _ c.read_refusal.ensures.fault c.read_refusal.ensures.place
    (cause_of_read c.args.input.now c.in-Err.refused.fault c.in-Err.ensures.refused c.in-Err.ensures.component s)
    (place_of_read c.args.input.now c.in-Err.refused.fault c.in-Err.refused.place c.in-Err.ensures.place s)
