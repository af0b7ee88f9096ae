use Rattle.wc_validate.proofs.BuiltinLemmas.{not_so}
use Rattle.wc_validate.proofs.ImportClassifyLemmas.{failed_import, of_main_item, of_no_function}
use Rattle.wc_validate.proofs.imports.classify.other_item.Goals as goal

pub returns-in_err-main_item : goal.returns-in_err-main_item
returns-in_err-main_item c = λ e ty other kind no_memory. failed_import e _ _ ty _ c.from_residual.ensures.1

pub returns-then-is_main_module : goal.returns-then-is_main_module
returns-then-is_main_module c = λ e ty other kind no_memory.
    of_main_item e _ _ ty _ c.args.kind (c.is_main_module.ensures.0 c.if-is_main_module.true) c.in_ok-main_item.ensures kind

pub returns : goal.returns
returns c = λ e ty other kind no_memory. of_no_function e _ _ ty other no_memory (not_so _ _ c.is_main_module.ensures c.if-is_main_module.false)
