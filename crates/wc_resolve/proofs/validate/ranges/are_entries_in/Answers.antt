use Rattle.std.proofs.Common.{rules}
use Rattle.wc_resolve.specs.Views.{world_entry}
use Rattle.wc_resolve.specs.Ranges.{IsEntryIn}
use Rattle.wc_resolve.specs.ResolveParts.{parts_view}
use Rattle.wc_resolve.proofs.ViewedLemmas.{viewed}
use Rattle.wc_resolve.proofs.validate.ranges.are_entries_in.Goals as goal

pub returns : goal.returns
returns c = viewed world_entry (IsEntryIn (parts_view c.args.parts.now)) c.args.entries.now.entries c.all.result (search rules)
