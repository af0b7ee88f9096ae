use Rattle.wc_validate.specs.Imports.Iter.{imports_left}
use Rattle.wc_ways.specs.Tags.{recorded_tag}
use Rattle.wc_summary.proofs.TagLemmas.{tags_all, tags_more}
use Rattle.wc_ways.proofs.tags.library_tags.Goals as goal

pub loop-from-preserved : goal.loop-from-preserved
loop-from-preserved c w h =
    tags_more (recorded_tag w) c.loop-from.tags.items c.push.new.self.items c.in_ok-recorded_tag.field-0 (imports_left c.loop-from._from-iterator)
    (imports_left c.next.new.self) _ _ c.in-Some.ensures.steps (c.in_ok-recorded_tag.ensures w h) c.in_ok-push.ensures.items (c.loop-from.invariant w h)

pub returns : goal.returns
returns c w h = tags_all (recorded_tag w) c.loop-from.tags.items (imports_left c.loop-from._from-iterator) _ c.in-None.ensures.steps.0 (c.loop-from.invariant w h)
