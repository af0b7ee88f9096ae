use Rattle.std.proofs.Common.{◌∙◌, ap, sym, ◌++◌, ◌∷◌, [], map, take, get_or}
use Rattle.std.specs.List.{filter_map, slice_get}
use Rattle.std.proofs.lemmas.List.{map-append}
use Rattle.wc_read.specs.Renumbering.{renumber_func_type}
use Rattle.wc_read.specs.Types.{func_type_value}
use Rattle.wc_gc.specs.NewIndices.{new_of}
use Rattle.wc_gc.proofs.ImageLemmas.{picked_more}
use Rattle.wc_gc.proofs.assemble.types_at.Goals as goal

pub loop-index-preserved : goal.loop-index-preserved
loop-index-preserved c =
    let pick = slice_get (map func_type_value c.args.types.now) in
    let under = map (renumber_func_type (new_of c.args.new.now)) in
    let one = get_or c.args.indices.now c.loop-index.index-index 0 ∷ [] in
    c.in_ok-append_type_at.ensures
    ∙ (ap (λ z. z ++ under (filter_map pick one)) c.loop-index.invariant
    ∙ (sym (map-append (renumber_func_type (new_of c.args.new.now)) (filter_map pick (take c.loop-index.index-index c.args.indices.now)) (filter_map pick one))
    ∙ sym (ap under (picked_more pick c.args.indices.now c.loop-index.index-index c.loop-index-test.true))))
