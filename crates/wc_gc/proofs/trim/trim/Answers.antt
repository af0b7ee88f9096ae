use Rattle.wc_read.specs.Modules.{module_value}
use Rattle.wc_gc.specs.LiveItems.{trim_input}
use Rattle.wc_gc.specs.Parts.{settings_view}
use Rattle.wc_gc.specs.TrimmedText.{IsTrimmed}
use Rattle.wc_gc.specs.Trim.{IsTrimFault}
use Rattle.wc_gc.specs.TrimPlace.{IsExplained}
use Rattle.wc_gc.proofs.TrimPlaceLemmas.{unread_explained, unread_fault}
use Rattle.wc_gc.proofs.TrimLemmas.{fault_trims, bounded_items}
use Rattle.wc_gc.proofs.TrimmedLemmas.{answer_for, fault_for}
use Rattle.wc_gc.proofs.trim.trim.Goals as goal

pub returns-in-Err-clause-fault : goal.returns-in-Err-clause-fault
returns-in-Err-clause-fault g c =
    let w = trim_input c.args.wasm.now c.args.required.now.keys in
    rw c.unread.ensures.fault (fault_trims (settings_view c.args.settings) w _ (unread_fault w _ c.in-Err.ensures.refused c.in-Err.ensures.component))

pub returns-in-Err-clause-place : goal.returns-in-Err-clause-place
returns-in-Err-clause-place g c =
    let w = trim_input c.args.wasm.now c.args.required.now.keys in
    rw (c.unread.ensures.fault, c.unread.ensures.place) (unread_explained w _ _ c.in-Err.ensures.refused c.in-Err.ensures.component c.in-Err.ensures.place)

pub trim_module-requires-clause-bounded : goal.trim_module-requires-clause-bounded
trim_module-requires-clause-bounded g c =
    bounded_items c.args.wasm.now c.in-Ok.adapter c.slices_are_bytes.ensures c.in-Ok.ensures.found

pub returns-in-Ok-clause-trimmed : goal.returns-in-Ok-clause-trimmed
returns-in-Ok-clause-trimmed g c =
    answer_for (module_value c.in-Ok.adapter) c.args.wasm.now c.in-Ok.ensures.found
    (λ bytes v. IsTrimmed (settings_view c.args.settings) (trim_input bytes c.args.required.now.keys) v.items)
    c.trim_module.result c.slices_are_bytes.ensures c.trim_module.ensures.trimmed

pub returns-in-Ok-clause-fault : goal.returns-in-Ok-clause-fault
returns-in-Ok-clause-fault g c =
    fault_for (module_value c.in-Ok.adapter) c.args.wasm.now c.in-Ok.ensures.found
    (λ bytes r. IsTrimFault (settings_view c.args.settings) (trim_input bytes c.args.required.now.keys) r.fault)
    c.trim_module.result c.trim_module.ensures.fault

pub returns-in-Ok-clause-place : goal.returns-in-Ok-clause-place
returns-in-Ok-clause-place g c =
    fault_for (module_value c.in-Ok.adapter) c.args.wasm.now c.in-Ok.ensures.found
    (λ bytes r. IsExplained (trim_input bytes c.args.required.now.keys) r.fault r.place)
    c.trim_module.result c.trim_module.ensures.place
