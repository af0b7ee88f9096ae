use Rattle.std.proofs.lemmas.Result.{IfErr-weaker, IfOk-weaker}
use Rattle.wc_read.specs.Modules.{module_value}
use Rattle.wc_gc.specs.LiveItems.{trim_input}
use Rattle.wc_gc.proofs.LivenessLemmas.{fault_of, no_cause_of}
use Rattle.wc_gc.proofs.TrimPlaceLemmas.{explained, unread_explained, unread_fault}
use Rattle.wc_gc.proofs.trim_place.why_imports_explained.Goals as goal

pub returns-in-Ok-clause-chains : goal.returns-in-Ok-clause-chains
returns-in-Ok-clause-chains c =
    IfOk-weaker c.chains_in.result _ _ (λ chains h. (module_value c.in-Ok.adapter, c.in-Ok.ensures.found, h)) c.chains_in.ensures.chains

pub returns-in-Ok-clause-fault : goal.returns-in-Ok-clause-fault
returns-in-Ok-clause-fault c =
    IfErr-weaker c.chains_in.result _ _
    (λ r h. fault_of (trim_input c.args.wasm.now c.args.required.now.keys) (module_value c.in-Ok.adapter) c.in-Ok.ensures.found r.fault h.0) c.chains_in.ensures.refusal

pub returns-in-Ok-clause-place : goal.returns-in-Ok-clause-place
returns-in-Ok-clause-place c =
    IfErr-weaker c.chains_in.result _ _
    (λ r h. explained (trim_input c.args.wasm.now c.args.required.now.keys) (module_value c.in-Ok.adapter) c.in-Ok.ensures.found r.fault r.place h.1)
    c.chains_in.ensures.refusal

pub returns-in-Ok-clause-no_cause : goal.returns-in-Ok-clause-no_cause
returns-in-Ok-clause-no_cause c =
    λ ok. no_cause_of (trim_input c.args.wasm.now c.args.required.now.keys) (module_value c.in-Ok.adapter) c.in-Ok.ensures.found
    (c.chains_in.ensures.supported ok) (c.chains_in.ensures.in_range ok)

pub returns-in-Err-clause-fault : goal.returns-in-Err-clause-fault
returns-in-Err-clause-fault c =
    rw c.unread.ensures.fault (unread_fault (trim_input c.args.wasm.now c.args.required.now.keys) _ c.in-Err.ensures.refused c.in-Err.ensures.component)

pub returns-in-Err-clause-place : goal.returns-in-Err-clause-place
returns-in-Err-clause-place c =
    rw (c.unread.ensures.fault, c.unread.ensures.place)
    (unread_explained (trim_input c.args.wasm.now c.args.required.now.keys) _ _ c.in-Err.ensures.refused c.in-Err.ensures.component c.in-Err.ensures.place)
