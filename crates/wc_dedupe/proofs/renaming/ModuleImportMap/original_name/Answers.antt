use Rattle.std.proofs.Common.{sym}
use Rattle.wc_dedupe.specs.Renaming.{ImportName}
use Rattle.wc_dedupe.proofs.OrderLemmas.{leads_nowhere}
use Rattle.wc_dedupe.proofs.renaming.ModuleImportMap.original_name.Goals as goal

pub returns-in-None : goal.returns-in-None
returns-in-None c =
    let x : ImportName = record { module_name = c.args.import.now.module.now; name = c.args.import.now.name.now } in
    rw (← c.self.view_is) (sym (leads_nowhere c.self.inside.renames x c.in-None.ensures))
