use Rattle.std.proofs.Common.{refl}
use Rattle.wc_read.specs.Types.{func_type_value}
use Rattle.wc_names.specs.Exports.{post_return_export, post_return_type}
use Rattle.wc_names.specs.ExportViews.{export_target}
use Rattle.wc_validate.specs.NameScope.{name_scope_of}
use Rattle.wc_validate.proofs.BuiltinLemmas.{not_so}
use Rattle.wc_validate.proofs.ExportKindLemmas.{is_post_return_of, no_post_return, no_post_return_of, target_usable}
use Rattle.wc_validate.proofs.ClassificationLemmas.{classified_failed, export_made, export_mismatch, classified_nothing}
use Rattle.wc_validate.specs.Classifications.{of_exports}
use Rattle.wc_validate.specs.Fault.{fault_kind}
use Rattle.wc_validate.proofs.exports.classify.named_post_return.Goals as goal

pub returns-in_default : goal.returns-in_default
returns-in_default g c =
    classified_nothing of_exports fault_kind _ _ (no_post_return (g.N.NameMangling.scheme c.args.scheme.now) (name_scope_of c.args.lookup.names.now)
    c.args.lookup.exports.now c.requires.named c.args.name.now (func_type_value c.args.ty.now)
    c.lifted-abi.result.0 c.lifted-abi.result.1.now c.lifted-abi.ensures c.in_default.ensures)

pub returns-in_err-target : goal.returns-in_err-target
returns-in_err-target g c = classified_failed of_exports fault_kind _ _ _ _ c.from_residual.ensures.1 refl

pub returns-in_default-2 : goal.returns-in_default-2
returns-in_default-2 g c =
    classified_nothing of_exports fault_kind _ _ (no_post_return_of (g.N.NameMangling.scheme c.args.scheme.now) (name_scope_of c.args.lookup.names.now)
    c.args.lookup.exports.now c.requires.named c.args.name.now (func_type_value c.args.ty.now)
    c.lifted-abi.result.0 c.lifted-abi.result.1.now c.lifted-abi.ensures
    c.in-Some.returned.now c.in-Some.ensures (rw c.in_default-2.is at c.in_ok-target.ensures))

pub has_post_return_type-requires : goal.has_post_return_type-requires
has_post_return_type-requires g c =
    target_usable (name_scope_of c.args.lookup.names.now) c.well_formedness.ensures c.requires.world (g.N.NameMangling.scheme c.args.scheme.now)
    c.args.lookup.exports.now c.requires.named c.in-Some.returned.now (export_target c.in-Some-2.target) (rw c.in-Some-2.is at c.in_ok-target.ensures)

pub returns-in_err-has_post_return_type : goal.returns-in_err-has_post_return_type
returns-in_err-has_post_return_type g c = classified_failed of_exports fault_kind _ _ _ _ c.from_residual-in_err-has_post_return_type.ensures.1 refl

pub returns-then-not-branch : goal.returns-then-not-branch
returns-then-not-branch g c =
    let t = func_type_value c.args.ty.now in
    let f = export_target c.in-Some-2.target in
    export_mismatch fault_kind _ t _ (post_return_export f) (post_return_type c.args.lookup.names.now.resolve.now f.function)
    c.in_ok-post_return_mismatch.ensures
    (is_post_return_of (g.N.NameMangling.scheme c.args.scheme.now) (name_scope_of c.args.lookup.names.now)
    c.args.lookup.exports.now c.requires.named c.args.name.now t c.lifted-abi.result.0 c.lifted-abi.result.1.now c.lifted-abi.ensures c.in-Some.returned.now f
    c.in-Some.ensures (rw c.in-Some-2.is at c.in_ok-target.ensures))
    (not_so _ _ c.in_ok-has_post_return_type.ensures c.if-not-branch.true)

pub returns-in_err-post_return_mismatch : goal.returns-in_err-post_return_mismatch
returns-in_err-post_return_mismatch g c =
    classified_failed of_exports fault_kind _ _ _ _ c.from_residual-in_err-post_return_mismatch.ensures.1 refl

pub post_return_mismatch-requires : goal.post_return_mismatch-requires
post_return_mismatch-requires g c =
    target_usable (name_scope_of c.args.lookup.names.now) c.well_formedness.ensures c.requires.world (g.N.NameMangling.scheme c.args.scheme.now)
    c.args.lookup.exports.now c.requires.named c.in-Some.returned.now (export_target c.in-Some-2.target) (rw c.in-Some-2.is at c.in_ok-target.ensures)

pub returns-in_err-post_return_of : goal.returns-in_err-post_return_of
returns-in_err-post_return_of g c = classified_failed of_exports fault_kind _ _ _ _ c.from_residual-in_err-post_return_of.ensures.1 refl

pub returns : goal.returns
returns g c =
    let t = func_type_value c.args.ty.now in
    let f = export_target c.in-Some-2.target in
    let required_type = post_return_type c.args.lookup.names.now.resolve.now f.function in
    export_made fault_kind _ _ c.in_ok-post_return_of.field-0 t required_type _ (refl, c.in_ok-has_post_return_type.ensures.0 c.if-not-branch.false)
    c.in_ok-post_return_of.ensures
    (is_post_return_of (g.N.NameMangling.scheme c.args.scheme.now) (name_scope_of c.args.lookup.names.now)
    c.args.lookup.exports.now c.requires.named c.args.name.now t c.lifted-abi.result.0 c.lifted-abi.result.1.now c.lifted-abi.ensures c.in-Some.returned.now f
    c.in-Some.ensures (rw c.in-Some-2.is at c.in_ok-target.ensures))
