use Rattle.std.proofs.Common.{◌∙◌, Some, None}
use Rattle.wc_gc.proofs.FoundLemmas.{named}
use Rattle.wc_gc.proofs.found.has_name.Goals as goal

pub returns-in-Some : goal.returns-in-Some
returns-in-Some c = c.eq.ensures ∙ named c.args.adapter.now c.args.name.now c.args.index (Some c.in-Some.found.now) c.in-Some.ensures

pub returns-in-None : goal.returns-in-None
returns-in-None c = named c.args.adapter.now c.args.name.now c.args.index None c.in-None.ensures
