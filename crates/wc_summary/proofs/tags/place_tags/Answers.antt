use Rattle.std.proofs.Common.{◌<◌, length, sym, subst, List, Option, ℕ, take, ◌+◌, arith}
use Rattle.wc_summary.specs.Entries.{entries_view}
use Rattle.wc_summary.specs.Private.Tags.{AreTagsPlaced}
use Rattle.wc_summary.specs.Leads.{tags_view}
use Rattle.wc_summary.proofs.TagLemmas.{placed_more}
use Rattle.wc_summary.proofs.tags.place_tags.Goals as goal

pub loop-tag-preserved : goal.loop-tag-preserved
loop-tag-preserved c =
    let within : c.loop-tag.tag-index < length c.args.tags.now = omega arith in
    subst (λ (z : List (Option ℕ)). AreTagsPlaced (take (c.loop-tag.tag-index + 1) (tags_view c.args.tags.now)) z (entries_view c.args.entries.now.entries) (entries_view c.place_tag.new.entries.entries))
    (sym c.in_ok-push.ensures.items)
    (placed_more c.args.tags.now c.loop-tag.tag-index c.tag-item.result c.in_ok-place_tag.field-0 c.loop-tag.places.items (entries_view c.args.entries.now.entries)
    (entries_view c.loop-tag.entries.entries) (entries_view c.place_tag.new.entries.entries) within (sym c.tag-item.is) c.loop-tag.invariant c.in_ok-place_tag.ensures)
