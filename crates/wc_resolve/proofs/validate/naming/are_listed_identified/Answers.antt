use Rattle.std.proofs.Common.{rules}
use Rattle.wc_resolve.specs.Views.{interface_entry}
use Rattle.wc_resolve.specs.WellFormed.{IsIdentified}
use Rattle.wc_resolve.specs.ResolveParts.{parts_view}
use Rattle.wc_resolve.proofs.ViewedLemmas.{viewed}
use Rattle.wc_resolve.proofs.validate.naming.are_listed_identified.Goals as goal

pub returns : goal.returns
returns c = viewed interface_entry (λ e. IsIdentified (parts_view c.args.parts.now) e.1) c.args.interfaces.now.entries c.all.result (search rules)
