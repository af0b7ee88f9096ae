use Rattle.std.proofs.Common.{rules}
use Rattle.wc_resolve.specs.Views.{world_entry}
use Rattle.wc_resolve.specs.WellFormed.{IsKeyIdentified}
use Rattle.wc_resolve.specs.ResolveParts.{parts_view}
use Rattle.wc_resolve.proofs.ViewedLemmas.{viewed}
use Rattle.wc_resolve.proofs.validate.naming.are_entries_identified.Goals as goal

pub returns : goal.returns
returns c = viewed world_entry (λ e. IsKeyIdentified (parts_view c.args.parts.now) e.0) c.args.entries.now.entries c.all.result (search rules)
