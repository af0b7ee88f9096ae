use Rattle.std.proofs.Common.{refl, sym, subst}
use Rattle.wc_names.specs.Imports.{table_type, global_type}
use Rattle.wc_validate.specs.Private.Externs.{extern_view}
use Rattle.wc_validate.specs.Imports.Classify.{IsClassified, core_import}
use Rattle.wc_validate.specs.NameScope.{name_scope_of}
use Rattle.wc_validate.proofs.imports.classify.classify.Goals as goal

pub returns-in-Func : goal.returns-in-Func
returns-in-Func c =
    subst (λ z. IsClassified (name_scope_of c.args.names.now) (core_import c.args.item.module_name.now c.args.item.name.now (extern_view z))
    c.function_item.result) (sym c.in-Func.is)
    (c.function_item.ensures)

pub returns-in-Memory : goal.returns-in-Memory
returns-in-Memory c =
    subst (λ z. IsClassified (name_scope_of c.args.names.now) (core_import c.args.item.module_name.now c.args.item.name.now (extern_view z))
    c.memory_item.result)
    (sym c.in-Memory.is)
    (c.memory_item.ensures (name_scope_of c.args.names.now))

pub returns-in-Table : goal.returns-in-Table
returns-in-Table c =
    subst (λ z. IsClassified (name_scope_of c.args.names.now) (core_import c.args.item.module_name.now c.args.item.name.now (extern_view z))
    c.other_item.result)
    (sym c.in-Table.is)
    (c.other_item.ensures (name_scope_of c.args.names.now) (table_type c.in-Table.field-0) (λ h. let bad : ⊥ = cc h.1 in bad) refl
    (λ m h. let bad : ⊥ = cc h.3 in bad))

pub returns-in-Global : goal.returns-in-Global
returns-in-Global c =
    subst (λ z. IsClassified (name_scope_of c.args.names.now) (core_import c.args.item.module_name.now c.args.item.name.now (extern_view z))
    c.other_item-in-Global.result) (sym c.in-Global.is)
    (c.other_item-in-Global.ensures (name_scope_of c.args.names.now) (global_type c.in-Global.field-0) (λ h. let bad : ⊥ = cc h.1 in bad) refl
    (λ m h. let bad : ⊥ = cc h.3 in bad))
