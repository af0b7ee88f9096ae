use Rattle.std.proofs.Common.{◌∙◌}
use Rattle.wc_import_paths.proofs.FunctionLemmas.{name_is}
use Rattle.wc_import_paths.proofs.functions.name_at.Goals as goal

pub returns-in-Ok : goal.returns-in-Ok
returns-in-Ok c =
    name_is c.args.names.now.entries c.args.index c.in-Ok.index c.copied.result c.in-Ok.ensures.1 c.in-Ok.ensures.0 (c.copied.ensures ∙ c.get.ensures)
