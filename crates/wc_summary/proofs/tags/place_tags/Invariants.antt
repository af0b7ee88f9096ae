use Rattle.std.proofs.Common.{take}
use Rattle.wc_summary.specs.Entries.{entries_view}
use Rattle.wc_summary.specs.Private.Tags.{AreTagsPlaced}
use Rattle.wc_summary.specs.Leads.{tags_view}
use Rattle.wc_summary.proofs.tags.place_tags.Given as goal

abbrev pub invariant-loop-tag : goal.invariant-loop-tag
invariant-loop-tag l = AreTagsPlaced (take l.tag-index (tags_view l.tags)) l.places.items (entries_view l.initial.entries.entries) (entries_view l.entries.entries)
