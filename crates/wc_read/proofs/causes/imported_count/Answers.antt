use Rattle.std.proofs.Common.{◌∙◌}
use Rattle.wc_read.proofs.CausesLemmas.{imported_viewed}
use Rattle.wc_read.proofs.causes.imported_count.Goals as goal

pub returns-clause-exact : goal.returns-clause-exact
returns-clause-exact c = c.imported.ensures.exact ∙ imported_viewed c.args.kind c.args.imports.now
