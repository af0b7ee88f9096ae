use Rattle.std.proofs.Common.{sym, ◌∙◌}
use Rattle.wc_validate.specs.Validate.{module_record}
use Rattle.wc_world.proofs.FaultLemmas.{page_refused}
use Rattle.wc_world.proofs.adapters.check_pages.Goals as goal

pub returns-clause-refusal : goal.returns-clause-refusal
returns-clause-refusal c =
    page_refused c.args.input.now (module_record c.args.info.now) c.in-Some.memory c.page_size-own.result c.main_page_size-main.result c.page_refusal.result (sym c.imported_memory.ensures ∙ c.in-Some.is) c.page_size-own.ensures
    c.main_page_size-main.ensures c.if-own-main.false c.page_refusal.ensures
