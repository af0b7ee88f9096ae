use Rattle.std.proofs.Common.{◌∙◌, ap, sym, ◌++◌, ◌∷◌, [], map, take, get_or, append_assoc}
use Rattle.std.specs.List.{enumerate_from, filter_map, slice_get}
use Rattle.wc_gc.specs.Bits.{bit_of}
use Rattle.wc_gc.specs.Private.Edit.{edited_at, written_funcs}
use Rattle.wc_gc.proofs.ImageLemmas.{picked_more}
use Rattle.wc_gc.proofs.assemble.append_funcs_at.Goals as goal

pub append_func_at-requires-clause-coded : goal.append_func_at-requires-clause-coded
append_func_at-requires-clause-coded c = c.requires.coded c.loop-index.index-index 0 c.loop-index-test.true

pub loop-index-preserved : goal.loop-index-preserved
loop-index-preserved c =
    let exported = bit_of c.args.exported.now.words.items in
    let pick = slice_get (map (edited_at c.args.edit exported) (enumerate_from 0 c.args.funcs.now)) in
    let one = get_or c.args.indices.now c.loop-index.index-index 0 ∷ [] in
    let front = take c.loop-index.index-index c.args.indices.now in
    c.in_ok-append_func_at.ensures
    ∙ (ap (λ z. z ++ filter_map pick one) c.loop-index.invariant
    ∙ (append_assoc (written_funcs c.args.items.now.items) (filter_map pick front) (filter_map pick one)
    ∙ ap (λ z. written_funcs c.args.items.now.items ++ z) (sym (picked_more pick c.args.indices.now c.loop-index.index-index c.loop-index-test.true))))
