use Rattle.std.proofs.Common.{[], ◌∷◌, ◌∙◌, sym}
use Rattle.wc_read.specs.Types.{func_type_value}
use Rattle.wc_names.specs.Exports.{IsExportKind, callback, destructor, function, post_return}
use Rattle.wc_names.specs.Imports.{func_type}
use Rattle.wc_validate.specs.NameScope.{name_scope_of}
use Rattle.wc_validate.proofs.ClassificationLemmas.{group_passed, group_none, group_some, classified_alone}
use Rattle.wc_validate.specs.Classifications.{of_exports}
use Rattle.wc_validate.specs.Fault.{fault_kind}
use Rattle.wc_validate.proofs.exports.classify.named_export.Goals as goal

pub returns-in_err-function : goal.returns-in_err-function
returns-in_err-function g c =
    let s = g.N.NameMangling.scheme c.args.scheme.now in
    let e = name_scope_of c.args.lookup.names.now in
    let t = func_type_value c.args.ty.now in
    let H = IsExportKind s e c.args.lookup.exports.now.keys c.args.name.now (func_type t) in
    group_passed of_exports fault_kind H (function ∷ []) (post_return ∷ callback ∷ destructor ∷ []) (func_type t) _ _ c.from_residual.ensures.1
    (classified_alone of_exports fault_kind H function (func_type t) _ c.in_err-function.ensures)

pub returns-then-is_some : goal.returns-then-is_some
returns-then-is_some g c =
    let s = g.N.NameMangling.scheme c.args.scheme.now in
    let e = name_scope_of c.args.lookup.names.now in
    let t = func_type_value c.args.ty.now in
    let H = IsExportKind s e c.args.lookup.exports.now.keys c.args.name.now (func_type t) in
    group_some of_exports fault_kind H (function ∷ []) (post_return ∷ callback ∷ destructor ∷ []) (func_type t) _
    (classified_alone of_exports fault_kind H function (func_type t) _ c.in_ok-function.ensures)
    (sym c.is_some.ensures ∙ c.if-is_some.true)

pub returns-in_err-post_return : goal.returns-in_err-post_return
returns-in_err-post_return g c =
    let s = g.N.NameMangling.scheme c.args.scheme.now in
    let e = name_scope_of c.args.lookup.names.now in
    let t = func_type_value c.args.ty.now in
    let H = IsExportKind s e c.args.lookup.exports.now.keys c.args.name.now (func_type t) in
    group_none of_exports fault_kind H (function ∷ []) (post_return ∷ callback ∷ destructor ∷ []) (func_type t) _ _
    (classified_alone of_exports fault_kind H function (func_type t) _ c.in_ok-function.ensures)
    (sym c.is_some.ensures ∙ c.if-is_some.false)
    (group_passed of_exports fault_kind H (post_return ∷ []) (callback ∷ destructor ∷ []) (func_type t) _ _ c.from_residual-in_err-post_return.ensures.1
    (classified_alone of_exports fault_kind H post_return (func_type t) _ c.in_err-post_return.ensures))

pub returns-then-is_some-2 : goal.returns-then-is_some-2
returns-then-is_some-2 g c =
    let s = g.N.NameMangling.scheme c.args.scheme.now in
    let e = name_scope_of c.args.lookup.names.now in
    let t = func_type_value c.args.ty.now in
    let H = IsExportKind s e c.args.lookup.exports.now.keys c.args.name.now (func_type t) in
    group_none of_exports fault_kind H (function ∷ []) (post_return ∷ callback ∷ destructor ∷ []) (func_type t) _ _
    (classified_alone of_exports fault_kind H function (func_type t) _ c.in_ok-function.ensures)
    (sym c.is_some.ensures ∙ c.if-is_some.false)
    (group_some of_exports fault_kind H (post_return ∷ []) (callback ∷ destructor ∷ []) (func_type t) _
    (classified_alone of_exports fault_kind H post_return (func_type t) _ c.in_ok-post_return.ensures)
    (sym c.is_some-2.ensures ∙ c.if-is_some-2.true))

pub returns-in_err-callback : goal.returns-in_err-callback
returns-in_err-callback g c =
    let s = g.N.NameMangling.scheme c.args.scheme.now in
    let e = name_scope_of c.args.lookup.names.now in
    let t = func_type_value c.args.ty.now in
    let H = IsExportKind s e c.args.lookup.exports.now.keys c.args.name.now (func_type t) in
    group_none of_exports fault_kind H (function ∷ []) (post_return ∷ callback ∷ destructor ∷ []) (func_type t) _ _
    (classified_alone of_exports fault_kind H function (func_type t) _ c.in_ok-function.ensures)
    (sym c.is_some.ensures ∙ c.if-is_some.false)
    (group_none of_exports fault_kind H (post_return ∷ []) (callback ∷ destructor ∷ []) (func_type t) _ _
    (classified_alone of_exports fault_kind H post_return (func_type t) _ c.in_ok-post_return.ensures)
    (sym c.is_some-2.ensures ∙ c.if-is_some-2.false)
    (group_passed of_exports fault_kind H (callback ∷ []) (destructor ∷ []) (func_type t) _ _ c.from_residual-in_err-callback.ensures.1
    (classified_alone of_exports fault_kind H callback (func_type t) _ (c.in_err-callback.ensures e c.requires.named))))

pub returns-then-is_some-3 : goal.returns-then-is_some-3
returns-then-is_some-3 g c =
    let s = g.N.NameMangling.scheme c.args.scheme.now in
    let e = name_scope_of c.args.lookup.names.now in
    let t = func_type_value c.args.ty.now in
    let H = IsExportKind s e c.args.lookup.exports.now.keys c.args.name.now (func_type t) in
    group_none of_exports fault_kind H (function ∷ []) (post_return ∷ callback ∷ destructor ∷ []) (func_type t) _ _
    (classified_alone of_exports fault_kind H function (func_type t) _ c.in_ok-function.ensures)
    (sym c.is_some.ensures ∙ c.if-is_some.false)
    (group_none of_exports fault_kind H (post_return ∷ []) (callback ∷ destructor ∷ []) (func_type t) _ _
    (classified_alone of_exports fault_kind H post_return (func_type t) _ c.in_ok-post_return.ensures)
    (sym c.is_some-2.ensures ∙ c.if-is_some-2.false)
    (group_some of_exports fault_kind H (callback ∷ []) (destructor ∷ []) (func_type t) _
    (classified_alone of_exports fault_kind H callback (func_type t) _ (c.in_ok-callback.ensures e c.requires.named))
    (sym c.is_some-3.ensures ∙ c.if-is_some-3.true)))

pub returns : goal.returns
returns g c =
    let s = g.N.NameMangling.scheme c.args.scheme.now in
    let e = name_scope_of c.args.lookup.names.now in
    let t = func_type_value c.args.ty.now in
    let H = IsExportKind s e c.args.lookup.exports.now.keys c.args.name.now (func_type t) in
    group_none of_exports fault_kind H (function ∷ []) (post_return ∷ callback ∷ destructor ∷ []) (func_type t) _ _
    (classified_alone of_exports fault_kind H function (func_type t) _ c.in_ok-function.ensures)
    (sym c.is_some.ensures ∙ c.if-is_some.false)
    (group_none of_exports fault_kind H (post_return ∷ []) (callback ∷ destructor ∷ []) (func_type t) _ _
    (classified_alone of_exports fault_kind H post_return (func_type t) _ c.in_ok-post_return.ensures)
    (sym c.is_some-2.ensures ∙ c.if-is_some-2.false)
    (group_none of_exports fault_kind H (callback ∷ []) (destructor ∷ []) (func_type t) _ _
    (classified_alone of_exports fault_kind H callback (func_type t) _ (c.in_ok-callback.ensures e c.requires.named))
    (sym c.is_some-3.ensures ∙ c.if-is_some-3.false)
    (classified_alone of_exports fault_kind H destructor (func_type t) _ (c.named_destructor.ensures e c.requires.named))))
