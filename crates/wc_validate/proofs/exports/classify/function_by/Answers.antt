use Rattle.std.proofs.Common.{[], ◌∷◌, ◌++◌, ◌∙◌, sym}
use Rattle.wc_read.specs.Types.{func_type_value}
use Rattle.wc_names.specs.Exports.{IsExportKind, function_table, memory}
use Rattle.wc_names.specs.Imports.{func_type}
use Rattle.wc_validate.specs.Private.Exports.Classify.{fixed_kinds, named_kinds}
use Rattle.wc_validate.specs.NameScope.{name_scope_of}
use Rattle.wc_validate.proofs.ExportKindLemmas.{no_other}
use Rattle.wc_validate.proofs.ClassificationLemmas.{group_passed, group_skipped, group_none, group_some}
use Rattle.wc_validate.specs.Classifications.{of_exports}
use Rattle.wc_validate.specs.Fault.{fault_kind}
use Rattle.wc_validate.proofs.exports.classify.function_by.Goals as goal

pub returns-in_err-fixed : goal.returns-in_err-fixed
returns-in_err-fixed g c =
    let s = g.N.NameMangling.scheme c.args.scheme.now in
    let e = name_scope_of c.args.lookup.names.now in
    let keys = c.args.lookup.exports.now.keys in
    let t = func_type_value c.args.ty.now in
    let H = IsExportKind s e keys c.args.name.now (func_type t) in
    group_skipped of_exports fault_kind H (memory ∷ function_table ∷ []) (fixed_kinds ++ named_kinds) (func_type t) _ (no_other s e keys c.args.name.now t)
    (group_passed of_exports fault_kind H fixed_kinds named_kinds (func_type t) _ _ c.from_residual.ensures.1 (c.in_err-fixed.ensures e keys))

pub returns-then-is_some : goal.returns-then-is_some
returns-then-is_some g c =
    let s = g.N.NameMangling.scheme c.args.scheme.now in
    let e = name_scope_of c.args.lookup.names.now in
    let keys = c.args.lookup.exports.now.keys in
    let t = func_type_value c.args.ty.now in
    let H = IsExportKind s e keys c.args.name.now (func_type t) in
    group_skipped of_exports fault_kind H (memory ∷ function_table ∷ []) (fixed_kinds ++ named_kinds) (func_type t) _ (no_other s e keys c.args.name.now t)
    (group_some of_exports fault_kind H fixed_kinds named_kinds (func_type t) _ (c.in_ok-fixed.ensures e keys) (sym c.is_some.ensures ∙ c.if-is_some.true))

pub returns : goal.returns
returns g c =
    let s = g.N.NameMangling.scheme c.args.scheme.now in
    let e = name_scope_of c.args.lookup.names.now in
    let keys = c.args.lookup.exports.now.keys in
    let t = func_type_value c.args.ty.now in
    let H = IsExportKind s e keys c.args.name.now (func_type t) in
    group_skipped of_exports fault_kind H (memory ∷ function_table ∷ []) (fixed_kinds ++ named_kinds) (func_type t) _ (no_other s e keys c.args.name.now t)
    (group_none of_exports fault_kind H fixed_kinds named_kinds (func_type t) _ _ (c.in_ok-fixed.ensures e keys) (sym c.is_some.ensures ∙ c.if-is_some.false)
    c.named_export.ensures)
