use Rattle.std.proofs.Common.{◌∙◌}
use Rattle.wc_maps.proofs.SetLemmas.{set_in}
use Rattle.wcplan_inputs.proofs.exporters.has_name.Goals as goal

pub returns : goal.returns
returns c = c.contains.ensures ∙ set_in c.args.names.now.keys c.args.name.now
