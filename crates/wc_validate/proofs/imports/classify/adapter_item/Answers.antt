use Rattle.std.proofs.Common.{refl, sym, ◌∙◌}
use Rattle.wc_read.specs.Types.{func_type_value}
use Rattle.wc_validate.proofs.ImportClassifyLemmas.{no_memory, plain_function, typed_function}
use Rattle.wc_validate.proofs.imports.classify.adapter_item.Goals as goal

pub returns-then-names_types : goal.returns-then-names_types
returns-then-names_types c =
    typed_function c.args.adapter.now c.args.name.now (func_type_value c.args.ty.now) (sym c.names_types.ensures ∙ c.if-names_types.true)

pub returns-in_err-adapter : goal.returns-in_err-adapter
returns-in_err-adapter c = no_memory c.args.adapter.now c.args.name.now (func_type_value c.args.ty.now) _ c.from_residual.ensures.1

pub returns-in_err-func : goal.returns-in_err-func
returns-in_err-func c = no_memory c.args.adapter.now c.args.name.now (func_type_value c.args.ty.now) _ c.from_residual-in_err-func.ensures.1

pub returns-in_err-own_ty : goal.returns-in_err-own_ty
returns-in_err-own_ty c = no_memory c.args.adapter.now c.args.name.now (func_type_value c.args.ty.now) _ c.from_residual-in_err-own_ty.ensures.1

pub returns : goal.returns
returns c =
    plain_function c.args.adapter.now c.args.name.now (func_type_value c.args.ty.now) _ (sym c.names_types.ensures ∙ c.if-names_types.false)
    (rw (c.in_ok-adapter.ensures.ok, c.in_ok-func.ensures.ok, c.in_ok-own_ty.ensures) refl)
