use Rattle.std.proofs.Common.{◌≡◌, ◌∙◌, ap, codes, map, true}
use Rattle.wc_texts.specs.Shapes.{object_of}
use Rattle.wc_why.specs.Tree.{tree_module_view, tree_view, tree_way_view}
use Rattle.wc_why_text.specs.PathsJson.{path_json}
use Rattle.wc_why_text.specs.Ways.{chosen_ways}
use Rattle.wc_why_text.proofs.StepLemmas.{array_as}
use Rattle.wc_why_text.proofs.TokenLemmas.{closed, then}
use Rattle.wc_why_text.proofs.paths_json.put_paths.Goals as goal

pub returns : goal.returns
unfolding object_of
returns c =
    let t = tree_view c.args.tree.now in
    let modules : map tree_module_view c.deref-2.result.now ≡ t.modules = ap (map tree_module_view) c.deref-2.ensures.value in
    let ways : map tree_way_view c.deref-3.result.now ≡ chosen_ways true t.ways =
    ap (map tree_way_view) c.deref-3.ensures.value ∙ c.in_ok-ways.ensures ∙ ap (λ l. chosen_ways true (map tree_way_view l)) c.deref.ensures.value in
    then _ _ _ c.in_ok-begin_object.ensures
    (closed _ _ (array_as (codes "ways") _ _ (λ i. map (path_json (modules i)) (ways i)) c.in_ok-put_path_list.ensures) c.end_object.ensures)
