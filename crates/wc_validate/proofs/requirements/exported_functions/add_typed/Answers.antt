use Rattle.std.proofs.Common.{map, subst, sym, ◌++◌}
use Rattle.std.specs.Option.{option_to_list}
use Rattle.wc_read.specs.Types.{func_type_value}
use Rattle.wc_validate.specs.Private.Imports.Arguments.{IsIndexOf}
use Rattle.wc_validate.specs.Exports.Contexts.{core_export}
use Rattle.wc_validate.specs.Private.ExportedFunctions.{typed_entry}
use Rattle.wc_validate.specs.Private.Externs.{extern_view}
use Rattle.wc_validate.specs.Requirements.{typed_name}
use Rattle.wc_validate.proofs.ExportedFunctionLemmas.{typed_added, typed_passed}
use Rattle.wc_validate.proofs.requirements.exported_functions.add_typed.Goals as goal

pub returns-then-contains_key : goal.returns-then-contains_key
returns-then-contains_key c = λ passed same.
    subst (λ z. IsIndexOf (map typed_entry c.args.index.now.entries) (passed ++ option_to_list (typed_name (core_export c.args.name.now (extern_view z)))))
    (sym c.in-Func.is)
    (typed_passed c.args.index.now.entries c.args.name.now (func_type_value c.in-Func.own.now)
    c.contains_key.result passed c.contains_key.ensures c.if-contains_key.true same)

pub returns : goal.returns
returns c = λ passed same.
    subst (λ z. IsIndexOf (map typed_entry c.insert.new.self.entries) (passed ++ option_to_list (typed_name (core_export c.args.name.now (extern_view z)))))
    (sym c.in-Func.is)
    (typed_added c.args.index.now.entries c.insert.new.self.entries c.args.name c.in-Func.own c.contains_key.result passed c.in_ok-insert.ensures.entries
    c.contains_key.ensures c.if-contains_key.false same)
