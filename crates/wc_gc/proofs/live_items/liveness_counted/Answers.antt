use Rattle.std.proofs.lemmas.Result.{err_from_is_err_and}
use Rattle.wc_read.specs.Modules.{module_value}
use Rattle.wc_gc.specs.LiveItems.{trim_input}
use Rattle.wc_gc.proofs.LivenessLemmas.{read_fault, fault_of, no_cause_of}
use Rattle.wc_gc.proofs.live_items.liveness_counted.Goals as goal

pub returns-in_err-adapter-clause-fault : goal.returns-in_err-adapter-clause-fault
returns-in_err-adapter-clause-fault c =
    let p = err_from_is_err_and c.from_residual.result c.from_residual.ensures.1 in
    rw (p.1, p.2) (read_fault (trim_input c.args.wasm.now c.args.required.now.keys) _ c.in_err-adapter.ensures.refused c.in_err-adapter.ensures.component)

pub returns-clause-fault : goal.returns-clause-fault
returns-clause-fault c =
    fault_of (trim_input c.args.wasm.now c.args.required.now.keys) (module_value c.in_ok-adapter.adapter) c.in_ok-adapter.ensures.found _ c.in-Err.ensures.refusal.0

pub returns-in-Ok-clause-live : goal.returns-in-Ok-clause-live
returns-in-Ok-clause-live c = (module_value c.in_ok-adapter.adapter, c.in_ok-adapter.ensures.found, c.in-Ok.ensures.live)

pub returns-in-Ok-clause-no_cause : goal.returns-in-Ok-clause-no_cause
returns-in-Ok-clause-no_cause c =
    λ ok. no_cause_of (trim_input c.args.wasm.now c.args.required.now.keys) (module_value c.in_ok-adapter.adapter) c.in_ok-adapter.ensures.found
    c.in-Ok.ensures.live.supported c.in-Ok.ensures.live.in_range
