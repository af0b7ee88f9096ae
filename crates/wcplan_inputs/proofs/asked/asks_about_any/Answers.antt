use Rattle.std.proofs.Common.{◌∙◌}
use Rattle.wcplan_inputs.proofs.AskedLemmas.{asked_in}
use Rattle.wcplan_inputs.proofs.asked.asks_about_any.Goals as goal

pub returns : goal.returns
returns c = c.has_asked.ensures ∙ asked_in c.args.key.now c.args.keys.now
