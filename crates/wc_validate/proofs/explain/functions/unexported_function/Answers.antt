use Rattle.std.proofs.Common.{None, Some, ap, refl}
use Rattle.std.specs.List.{filter_map}
use Rattle.wc_read.specs.Types.{func_type_value}
use Rattle.wc_validate.specs.Explain.{an_export, missing_export}
use Rattle.wc_validate.specs.Requirements.{typed_name}
use Rattle.wc_validate.proofs.ExportedFunctionLemmas.{typed_found}
use Rattle.wc_validate.proofs.MissingLemmas.{difference_is, lack_missing, lack_retyped}
use Rattle.wc_validate.proofs.explain.functions.unexported_function.Goals as goal

pub returns : goal.returns
returns c = λ xs same.
    lack_retyped xs c.args.name.now (func_type_value c.args.ty.now) _ (func_type_value c.in-Some.own.now.now)
    (typed_found c.args.index.now.entries c.args.name.now (Some c.in-Some.own.now) (filter_map typed_name xs) c.in-Some.ensures.value same)
    (ap an_export c.in_ok-from_str.ensures.ok)
    (difference_is c.in_ok-wanted.wanted c.in_ok-found.found (func_type_value c.args.ty.now) (func_type_value c.in-Some.own.now.now)
    c.in_ok-wanted.ensures c.in_ok-found.ensures)

pub returns-in_default : goal.returns-in_default
returns-in_default c = λ xs same.
    lack_missing xs c.args.name.now (func_type_value c.args.ty.now) _
    (typed_found c.args.index.now.entries c.args.name.now None (filter_map typed_name xs) c.in_default.ensures.value same)
    (ap missing_export c.in_ok-missing.ensures.ok) refl
