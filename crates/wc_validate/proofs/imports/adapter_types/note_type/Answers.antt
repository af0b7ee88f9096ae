use Rattle.std.proofs.Common.{IfOk, None, map, refl, subst, sym}
use Rattle.wc_read.specs.Types.{func_type_value}
use Rattle.wc_validate.specs.Imports.AdapterTypes.{type_entry}
use Rattle.wc_validate.specs.Private.Imports.Recorder.{IsDifference}
use Rattle.wc_validate.proofs.AdapterTypeLemmas.{noted_is, noted_kept, noted_new, on_any}
use Rattle.wc_validate.proofs.imports.adapter_types.note_type.Goals as goal

pub returns-in-Some-clause-differs : goal.returns-in-Some-clause-differs
returns-in-Some-clause-differs c =
    subst (λ o. IfOk c.difference_from.result (IsDifference o (func_type_value c.args.ty.now)))
    (sym (noted_is c.args.types.now.entries (c.in_ok-from_str.field-0, c.in_ok-from_str-2.field-0)
    c.args.adapter.now c.args.function.now _ c.in-Some.ensures.value c.in_ok-from_str.ensures.ok c.in_ok-from_str-2.ensures.ok))
    c.difference_from.ensures

pub returns-in-Some-clause-noted : goal.returns-in-Some-clause-noted
returns-in-Some-clause-noted c =
    on_any c.difference_from.result _
    (noted_kept (map type_entry c.args.types.now.entries) c.args.adapter.now c.args.function.now (func_type_value c.args.ty.now)
    (func_type_value c.in-Some.first.now)
    (noted_is c.args.types.now.entries (c.in_ok-from_str.field-0, c.in_ok-from_str-2.field-0)
    c.args.adapter.now c.args.function.now _ c.in-Some.ensures.value c.in_ok-from_str.ensures.ok c.in_ok-from_str-2.ensures.ok))

pub returns-clause-differs : goal.returns-clause-differs
returns-clause-differs c =
    subst (λ o. IsDifference o (func_type_value c.args.ty.now) None)
    (sym (noted_is c.args.types.now.entries (c.in_ok-from_str.field-0, c.in_ok-from_str-2.field-0)
    c.args.adapter.now c.args.function.now _ c.in_default.ensures.value c.in_ok-from_str.ensures.ok c.in_ok-from_str-2.ensures.ok)) refl

pub returns-clause-noted : goal.returns-clause-noted
returns-clause-noted c =
    noted_new c.args.types.now.entries c.insert.new.self.entries (c.in_ok-from_str.field-0, c.in_ok-from_str-2.field-0)
    c.in_ok-clone.field-0 c.args.adapter.now c.args.function.now (func_type_value c.args.ty.now)
    c.in_ok-insert.ensures.entries c.in_default.ensures.value c.in_ok-from_str.ensures.ok c.in_ok-from_str-2.ensures.ok c.in_ok-clone.ensures
