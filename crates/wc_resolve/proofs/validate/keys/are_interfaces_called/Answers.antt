use Rattle.std.proofs.Common.{◌≡◌, Some, rules}
use Rattle.wc_resolve.specs.Views.{interface_entry}
use Rattle.wc_resolve.specs.WellFormed.{interface_name}
use Rattle.wc_resolve.specs.ResolveParts.{parts_view}
use Rattle.wc_resolve.proofs.ViewedLemmas.{viewed}
use Rattle.wc_resolve.proofs.validate.keys.are_interfaces_called.Goals as goal

pub returns : goal.returns
returns c = viewed interface_entry (λ e. interface_name (parts_view c.args.parts.now) e.1 ≡ Some e.0) c.args.interfaces.now.entries c.all.result (search rules)
