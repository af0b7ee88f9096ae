use Rattle.std.proofs.Common.{refl, rules}
use Rattle.wc_ways.proofs.MainNoteLemmas.{tags_next}
use Rattle.wc_ways.proofs.tags.tags_of.Goals as goal

pub loop-import-preserved : goal.loop-import-preserved
loop-import-preserved c w h =
    tags_next w c.args.records.now c.args.imports.now c.loop-import.import-index _ _ c.loop-import.tags.items c.push.new.self.items c.in_ok-tag_of.field-0 (search rules) refl
    (c.in_ok-tag_of.ensures w h) c.in_ok-push.ensures.items (c.loop-import.invariant w h)
