use Rattle.std.proofs.Common.{[], ◌∷◌, ◌∙◌, Some, None, subst, sym}
use Rattle.std.specs.List.{filter_map}
use Rattle.wc_read.specs.Types.{func_type_value}
use Rattle.wc_validate.specs.Requirements.{IsUnmetFault, typed_function, typed_name}
use Rattle.wc_validate.proofs.BuiltinLemmas.{not_so}
use Rattle.wc_validate.proofs.ExportedFunctionLemmas.{typed_found}
use Rattle.wc_validate.proofs.RequirementLemmas.{function_absent, function_differs, function_same, function_typed}
use Rattle.wc_validate.proofs.SignatureLemmas.{both_from}
use Rattle.wc_validate.proofs.requirements.exported_functions.check_function.Goals as goal

pub returns-then-names_types-clause-fault : goal.returns-then-names_types-clause-fault
returns-then-names_types-clause-fault c = λ r xs recorded same.
    function_typed r xs recorded c.args.name.now (func_type_value c.args.ty.now) (sym c.names_types.ensures ∙ c.if-names_types.true)

pub returns-in_default-clause-fault : goal.returns-in_default-clause-fault
returns-in_default-clause-fault c = λ r xs recorded same.
    subst (IsUnmetFault r xs recorded (typed_function c.args.name.now (func_type_value c.args.ty.now) ∷ [])) (sym c.in_ok-not_exported.ensures.1)
    (function_absent r xs recorded c.args.name.now (func_type_value c.args.ty.now) c.in_ok-not_exported.ensures.0
    (sym c.names_types.ensures ∙ c.if-names_types.false) (typed_found c.args.index.now.entries c.args.name.now None (filter_map typed_name xs)
    c.in_default.ensures.value same) c.in_ok-not_exported.ensures.2)

pub returns-then-has_type-clause-met : goal.returns-then-has_type-clause-met
returns-then-has_type-clause-met c = λ r xs recorded same.
    function_same r xs recorded c.args.name.now (func_type_value c.args.ty.now) (func_type_value c.in-Some.own.now.now)
    (sym c.names_types.ensures ∙ c.if-names_types.false) (typed_found c.args.index.now.entries c.args.name.now (Some c.in-Some.own.now)
    (filter_map typed_name xs) c.in-Some.ensures.value same)
    (both_from (func_type_value c.args.ty.now) c.params.result.now c.results.result.now (sym c.params.ensures) (sym c.results.ensures)
    ∙ sym (c.has_type.ensures.0 c.if-has_type.true))

pub returns-else-has_type-clause-fault : goal.returns-else-has_type-clause-fault
returns-else-has_type-clause-fault c = λ r xs recorded same.
    function_differs r xs recorded c.args.name.now (func_type_value c.args.ty.now) (func_type_value c.in-Some.own.now.now)
    (sym c.names_types.ensures ∙ c.if-names_types.false) (typed_found c.args.index.now.entries c.args.name.now (Some c.in-Some.own.now)
    (filter_map typed_name xs) c.in-Some.ensures.value same)
    (λ e. not_so _ _ c.has_type.ensures c.if-has_type.false (e ∙ both_from (func_type_value c.args.ty.now) c.params.result.now c.results.result.now
    (sym c.params.ensures) (sym c.results.ensures)))
