use Rattle.std.proofs.Common.{◌∙◌, sym}
use Rattle.wc_validate.specs.Validate.{module_record}
use Rattle.wc_plan.proofs.MemoryLemmas.{memory_else}
use Rattle.wc_plan.proofs.planner.has_memory.Goals as goal

pub returns-else-is_some : goal.returns-else-is_some
returns-else-is_some c =
    c.is_some-else-is_some.ensures
    ∙ memory_else (module_record c.args.main.now) c.imported_memory.result c.memory.result c.imported_memory.ensures (sym c.is_some.ensures ∙ c.if-is_some.false) c.memory.ensures
