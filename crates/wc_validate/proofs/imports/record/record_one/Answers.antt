use Rattle.std.proofs.Common.{◌∙◌, None, sym, subst}
use Rattle.wc_read.specs.Imports.{import_value}
use Rattle.wc_names.specs.Views.{library_item}
use Rattle.wc_validate.specs.Private.Imports.Contexts.{import_scope}
use Rattle.wc_validate.specs.Imports.Entries.{single}
use Rattle.wc_validate.specs.Imports.Record.{IsEntry}
use Rattle.wc_validate.proofs.ImportRecordLemmas.{by_library, by_name, failed_import, recorded_as, refused_single, refused_whole}
use Rattle.wc_validate.proofs.imports.record.record_one.Goals as goal

pub returns-in-Some-Whole-clause-fault : goal.returns-in-Some-Whole-clause-fault
returns-in-Some-Whole-clause-fault c = λ library before has is.
    refused_whole c.record_whole.result (import_scope c.args.context.now library) before (import_value c.args.import.now) _ _
    (by_library (import_scope c.args.context.now library) (import_value c.args.import.now) _ _ (rw c.in-Some-Whole.field-0-is at c.in-Some-Whole.ensures)
    (has _ _)) (c.record_whole.ensures.fault before is)

pub returns-in_err-clone-in-Some-Item-clause-fault : goal.returns-in_err-clone-in-Some-Item-clause-fault
returns-in_err-clone-in-Some-Item-clause-fault c = λ library before has is.
    failed_import _ (import_scope c.args.context.now library) before (import_value c.args.import.now) c.from_residual.ensures.1

pub returns-in_ok-clone-in-Some-Item-clause-recorded : goal.returns-in_ok-clone-in-Some-Item-clause-recorded
returns-in_ok-clone-in-Some-Item-clause-recorded c = λ library before has is.
    recorded_as c.record_single.result (import_scope c.args.context.now library) before (import_value c.args.import.now) _ c.record_single.new.self
    (subst (λ z. IsEntry (import_scope c.args.context.now library) (import_value c.args.import.now)
    (single c.args.import.now.module.now c.args.import.now.name.now (library_item z))) (sym c.in_ok-clone-in-Some-Item.ensures)
    (by_library (import_scope c.args.context.now library) (import_value c.args.import.now) _ _ (rw c.in-Some-Item.field-0-is at c.in-Some-Item.ensures)
    (has _ _)))
    (c.record_single.ensures.recorded before is)

pub returns-in_ok-clone-in-Some-Item-clause-fault : goal.returns-in_ok-clone-in-Some-Item-clause-fault
returns-in_ok-clone-in-Some-Item-clause-fault c = λ library before has is.
    refused_single c.record_single.result (import_scope c.args.context.now library) before (import_value c.args.import.now) _
    (subst (λ z. IsEntry (import_scope c.args.context.now library) (import_value c.args.import.now)
    (single c.args.import.now.module.now c.args.import.now.name.now (library_item z))) (sym c.in_ok-clone-in-Some-Item.ensures)
    (by_library (import_scope c.args.context.now library) (import_value c.args.import.now) _ _ (rw c.in-Some-Item.field-0-is at c.in-Some-Item.ensures)
    (has _ _)))
    (c.record_single.ensures.fault before is)

pub returns-in-Ok-clause-recorded : goal.returns-in-Ok-clause-recorded
returns-in-Ok-clause-recorded c = λ library before has is.
    let k = c.in-Ok.ensures library in
    recorded_as c.record_single-in-Ok.result (import_scope c.args.context.now library) before (import_value c.args.import.now)
    _ c.record_single-in-Ok.new.self
    (by_name (import_scope c.args.context.now library) (import_value c.args.import.now) c.in-Ok.own _ c.in-None.ensures (has _ _) k.0 k.1 k.2)
    (c.record_single-in-Ok.ensures.recorded before is)

pub returns-in-Ok-clause-fault : goal.returns-in-Ok-clause-fault
returns-in-Ok-clause-fault c = λ library before has is.
    let k = c.in-Ok.ensures library in
    refused_single c.record_single-in-Ok.result (import_scope c.args.context.now library) before (import_value c.args.import.now) _
    (by_name (import_scope c.args.context.now library) (import_value c.args.import.now) c.in-Ok.own _ c.in-None.ensures (has _ _) k.0 k.1 k.2)
    (c.record_single-in-Ok.ensures.fault before is)

pub returns-in_ok-name_refusal-in-Err-clause-fault : goal.returns-in_ok-name_refusal-in-Err-clause-fault
returns-in_ok-name_refusal-in-Err-clause-fault c = λ library before has is.
    c.in_ok-name_refusal-in-Err.ensures library before (sym (c.in-None.ensures ∙ has _ _)) (c.in-Err.ensures library)

pub name_refusal-requires-clause-refused : goal.name_refusal-requires-clause-refused
name_refusal-requires-clause-refused c = (None, c.in-Err.ensures None)
