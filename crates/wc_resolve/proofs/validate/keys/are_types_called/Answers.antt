use Rattle.std.proofs.Common.{◌≡◌, Some, rules}
use Rattle.wc_resolve.specs.Views.{type_entry}
use Rattle.wc_resolve.specs.WellFormed.{type_name}
use Rattle.wc_resolve.specs.ResolveParts.{parts_view}
use Rattle.wc_resolve.proofs.ViewedLemmas.{viewed}
use Rattle.wc_resolve.proofs.validate.keys.are_types_called.Goals as goal

pub returns : goal.returns
returns c = viewed type_entry (λ e. type_name (parts_view c.args.parts.now) e.1 ≡ Some e.0) c.args.types.now.entries c.all.result (search rules)
