use Rattle.std.proofs.Common.{refl}
use Rattle.wc_names.specs.Imports.{memory_type}
use Rattle.wc_validate.proofs.BuiltinLemmas.{not_so}
use Rattle.wc_validate.proofs.ImportClassifyLemmas.{not_main_memory, of_main_memory}
use Rattle.wc_validate.proofs.imports.classify.memory_item.Goals as goal

pub returns-then-is_main_memory : goal.returns-then-is_main_memory
returns-then-is_main_memory c = λ e.
    let named = c.is_main_memory.ensures.0 c.if-is_main_memory.true in
    of_main_memory e c.args.module_name.now c.args.name.now c.args.ty _ named.0 named.1 refl

pub returns : goal.returns
returns c = λ e.
    c.other_item.ensures e (memory_type c.args.ty) (λ h. let bad : ⊥ = cc h.1 in bad) refl
    (not_main_memory e c.args.module_name.now c.args.name.now (memory_type c.args.ty) (not_so _ _ c.is_main_memory.ensures c.if-is_main_memory.false))
