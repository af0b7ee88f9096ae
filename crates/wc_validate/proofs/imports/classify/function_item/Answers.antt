use Rattle.std.proofs.Common.{refl, sym, ◌∙◌}
use Rattle.wc_read.specs.Types.{func_type_value}
use Rattle.wc_names.specs.Imports.{func_type}
use Rattle.wc_validate.specs.NameScope.{name_scope_of}
use Rattle.wc_validate.proofs.BuiltinLemmas.{not_so}
use Rattle.wc_validate.proofs.ImportClassifyLemmas.{adapter_absent, adapter_there, failed_import, of_adapter, of_function, of_main_item}
use Rattle.wc_validate.proofs.imports.classify.function_item.Goals as goal

pub returns-in_err-main_item : goal.returns-in_err-main_item
returns-in_err-main_item c = failed_import _ _ _ _ _ c.from_residual.ensures.1

pub returns-then-is_main_module : goal.returns-then-is_main_module
returns-then-is_main_module c =
    of_main_item (name_scope_of c.args.names.now) c.args.function.module_name.now c.args.function.name.now (func_type (func_type_value c.args.function.ty.now))
    _ _
    (c.is_main_module.ensures.0 c.if-is_main_module.true) c.in_ok-main_item.ensures refl

pub returns-then-contains_key : goal.returns-then-contains_key
returns-then-contains_key c =
    of_adapter (name_scope_of c.args.names.now) c.args.function.module_name.now c.args.function.name.now (func_type_value c.args.function.ty.now)
    (not_so _ _ c.is_main_module.ensures c.if-is_main_module.false) _
    (adapter_there c.args.function.module_name.now c.args.names.now.adapters.now.entries (sym c.contains_key.ensures ∙ c.if-contains_key.true))
    c.adapter_item.ensures

pub returns : goal.returns
returns c =
    of_function (name_scope_of c.args.names.now) c.args.function.module_name.now c.args.function.name.now (func_type_value c.args.function.ty.now)
    (not_so _ _ c.is_main_module.ensures c.if-is_main_module.false) _
    (adapter_absent c.args.function.module_name.now c.args.names.now.adapters.now.entries (sym c.contains_key.ensures ∙ c.if-contains_key.false))
    c.scheme_import.ensures
