use Rattle.std.proofs.Common.{◌∙◌, ap, sym, ◌++◌, ◌∷◌, [], get_or}
use Rattle.std.specs.List.{filter_map, slice_get}
use Rattle.wc_gc.proofs.ImageLemmas.{picked_more}
use Rattle.wc_gc.proofs.assemble.items_at.Goals as goal

pub loop-index-preserved : goal.loop-index-preserved
loop-index-preserved g c =
    c.in_ok-append_item_at.ensures
    ∙ (ap (λ z. z ++ filter_map (slice_get c.args.items.now) (get_or c.args.indices.now c.loop-index.index-index 0 ∷ [])) c.loop-index.invariant
    ∙ sym (picked_more (slice_get c.args.items.now) c.args.indices.now c.loop-index.index-index c.loop-index-test.true))
