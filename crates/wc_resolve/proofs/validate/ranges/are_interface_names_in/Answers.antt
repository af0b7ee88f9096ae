use Rattle.std.proofs.Common.{◌<◌, rules}
use Rattle.wc_resolve.specs.Views.{interface_entry}
use Rattle.wc_resolve.proofs.ViewedLemmas.{viewed}
use Rattle.wc_resolve.proofs.validate.ranges.are_interface_names_in.Goals as goal

pub returns : goal.returns
returns c = viewed interface_entry (λ e. e.1 < c.args.count) c.args.interfaces.now.entries c.all.result (search rules)
