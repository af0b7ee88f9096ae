use Rattle.std.proofs.Common.{refl}
use Rattle.wc_read.specs.Types.{func_type_value}
use Rattle.wc_names.specs.Exports.{function_export}
use Rattle.wc_names.specs.ExportViews.{export_target}
use Rattle.wc_names.specs.Imports.{function_type}
use Rattle.wc_validate.specs.NameScope.{name_scope_of}
use Rattle.wc_validate.proofs.BuiltinLemmas.{not_so}
use Rattle.wc_validate.proofs.ExportKindLemmas.{is_function_of, no_function_of, target_usable}
use Rattle.wc_validate.proofs.ClassificationLemmas.{classified_failed, export_made, export_mismatch, classified_nothing}
use Rattle.wc_validate.specs.Classifications.{of_exports}
use Rattle.wc_validate.specs.Fault.{fault_kind}
use Rattle.wc_validate.proofs.exports.classify.named_function.Goals as goal

pub returns-in_err-target : goal.returns-in_err-target
returns-in_err-target g c = classified_failed of_exports fault_kind _ _ _ _ c.from_residual.ensures.1 refl

pub returns-in_default : goal.returns-in_default
returns-in_default g c =
    classified_nothing of_exports fault_kind _ _ (no_function_of (g.N.NameMangling.scheme c.args.scheme.now) (name_scope_of c.args.lookup.names.now)
    c.args.lookup.exports.now c.requires.named c.args.name.now (func_type_value c.args.ty.now)
    c.lifted-abi.result.0 c.lifted-abi.result.1.now c.lifted-abi.ensures (rw c.in_default.is at c.in_ok-target.ensures))

pub has_function_type-requires : goal.has_function_type-requires
has_function_type-requires g c =
    target_usable (name_scope_of c.args.lookup.names.now) c.well_formedness.ensures c.requires.world (g.N.NameMangling.scheme c.args.scheme.now)
    c.args.lookup.exports.now c.requires.named c.lifted-abi.result.1.now (export_target c.in-Some.target) (rw c.in-Some.is at c.in_ok-target.ensures)

pub returns-in_err-has_function_type : goal.returns-in_err-has_function_type
returns-in_err-has_function_type g c = classified_failed of_exports fault_kind _ _ _ _ c.from_residual-in_err-has_function_type.ensures.1 refl

pub returns-then-not-branch : goal.returns-then-not-branch
returns-then-not-branch g c =
    let t = func_type_value c.args.ty.now in
    let f = export_target c.in-Some.target in
    export_mismatch fault_kind _ t _ (function_export c.lifted-abi.result.0 f)
    (function_type c.args.lookup.names.now.resolve.now c.lifted-abi.result.0 f.function) c.in_ok-function_mismatch.ensures
    (is_function_of (g.N.NameMangling.scheme c.args.scheme.now) (name_scope_of c.args.lookup.names.now)
    c.args.lookup.exports.now c.requires.named c.args.name.now t c.lifted-abi.result.0 c.lifted-abi.result.1.now c.lifted-abi.ensures f
    (rw c.in-Some.is at c.in_ok-target.ensures))
    (not_so _ _ c.in_ok-has_function_type.ensures c.if-not-branch.true)

pub returns-in_err-function_mismatch : goal.returns-in_err-function_mismatch
returns-in_err-function_mismatch g c =
    classified_failed of_exports fault_kind _ _ _ _ c.from_residual-in_err-function_mismatch.ensures.1 refl

pub function_mismatch-requires : goal.function_mismatch-requires
function_mismatch-requires g c =
    target_usable (name_scope_of c.args.lookup.names.now) c.well_formedness.ensures c.requires.world (g.N.NameMangling.scheme c.args.scheme.now)
    c.args.lookup.exports.now c.requires.named c.lifted-abi.result.1.now (export_target c.in-Some.target) (rw c.in-Some.is at c.in_ok-target.ensures)

pub returns-in_err-function_of : goal.returns-in_err-function_of
returns-in_err-function_of g c = classified_failed of_exports fault_kind _ _ _ _ c.from_residual-in_err-function_of.ensures.1 refl

pub returns : goal.returns
returns g c =
    let t = func_type_value c.args.ty.now in
    let f = export_target c.in-Some.target in
    let required_type = function_type c.args.lookup.names.now.resolve.now c.lifted-abi.result.0 f.function in
    export_made fault_kind _ _ c.in_ok-function_of.field-0 t required_type _
    (refl, c.in_ok-has_function_type.ensures.0 c.if-not-branch.false) c.in_ok-function_of.ensures
    (is_function_of (g.N.NameMangling.scheme c.args.scheme.now) (name_scope_of c.args.lookup.names.now)
    c.args.lookup.exports.now c.requires.named c.args.name.now t c.lifted-abi.result.0 c.lifted-abi.result.1.now c.lifted-abi.ensures f
    (rw c.in-Some.is at c.in_ok-target.ensures))
