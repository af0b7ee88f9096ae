use Rattle.std.proofs.Common.{Some, refl, sym, ap}
use Rattle.wc_resolve.specs.Views.{world_view}
use Rattle.wc_names.specs.Contexts.{context_scope}
use Rattle.wc_names.specs.Imports.{function_type}
use Rattle.wc_names.specs.Meanings.{means}
use Rattle.wc_names.specs.Places.{named_view}
use Rattle.wc_validate.proofs.ClassificationLemmas.{classified_import, classified_mismatch, classified_nothing}
use Rattle.wc_validate.specs.Fault.{fault_kind}
use Rattle.wc_validate.specs.Private.Imports.Kinds.{function_import}
use Rattle.wc_validate.proofs.BuiltinLemmas.{not_so}
use Rattle.wc_validate.proofs.IntrinsicLemmas.{not_found}
use Rattle.wc_validate.proofs.ScopeLemmas.{function_usable}
use Rattle.wc_validate.proofs.StageLemmas.{failed}
use Rattle.wc_validate.specs.Classifications.{of_imports}
use Rattle.wc_validate.proofs.imports.intrinsics.lowered_function.Goals as goal

pub returns-in_err-named : goal.returns-in_err-named
returns-in_err-named c = failed _ _ _ c.from_residual.ensures.1

pub returns-in_default : goal.returns-in_default
returns-in_default c = classified_nothing of_imports fault_kind _ _ (λ m h. not_found h.0 (rw c.in_default.is at c.in_ok-named.ensures.function) h.1)

pub has_named_type-requires-clause-usable : goal.has_named_type-requires-clause-usable
has_named_type-requires-clause-usable c =
    function_usable c.args.context.now.lookup.resolve.now (world_view c.args.context.now.lookup.world.now) c.requires.index c.args.context.now.lookup.imported
    (context_scope c.args.context.now.lookup).interface c.args.name.now
    (named_view c.in-Some.named) c.well_formedness.ensures c.requires.is_world (sym (rw c.in-Some.is at c.in_ok-named.ensures.function))

pub returns-in_err-has_named_type : goal.returns-in_err-has_named_type
returns-in_err-has_named_type c = failed _ _ _ c.from_residual-in_err-has_named_type.ensures.1

pub returns-then-not-branch : goal.returns-then-not-branch
returns-then-not-branch c =
    let f = named_view c.in-Some.named in
    classified_mismatch of_imports fault_kind _ _ _ (function_import (context_scope c.args.context.now.lookup) c.args.name.now f.name c.args.abi)
    (function_type c.args.context.now.lookup.resolve.now c.args.abi f) c.in_ok-function_mismatch.ensures
    (f, sym (rw c.in-Some.is at c.in_ok-named.ensures.function), refl) (not_so _ _ c.in_ok-has_named_type.ensures c.if-not-branch.true)

pub returns-in_err-function_mismatch : goal.returns-in_err-function_mismatch
returns-in_err-function_mismatch c = failed _ _ _ c.from_residual-in_err-function_mismatch.ensures.1

pub function_mismatch-requires : goal.function_mismatch-requires
function_mismatch-requires c =
    function_usable c.args.context.now.lookup.resolve.now (world_view c.args.context.now.lookup.world.now) c.requires.index c.args.context.now.lookup.imported
    (context_scope c.args.context.now.lookup).interface c.args.name.now
    (named_view c.in-Some.named) c.well_formedness.ensures c.requires.is_world (sym (rw c.in-Some.is at c.in_ok-named.ensures.function))

pub returns-in_err-function_import : goal.returns-in_err-function_import
returns-in_err-function_import c = failed _ _ _ c.from_residual-in_err-function_import.ensures.1

pub returns : goal.returns
returns c =
    let f = named_view c.in-Some.named in
    let required_type = function_type c.args.context.now.lookup.resolve.now c.args.abi f in
    classified_import fault_kind _ _ c.in_ok-function_import.field-0 _ required_type (refl, c.in_ok-has_named_type.ensures.0 c.if-not-branch.false)
    (f, sym (rw c.in-Some.is at c.in_ok-named.ensures.function), ap (λ i. means i (Some required_type)) c.in_ok-function_import.ensures)
