use Rattle.std.proofs.Common.{◌≡◌, ◌∙◌, ap, codes, false, map}
use Rattle.wc_texts.specs.Shapes.{object_of}
use Rattle.wc_why.specs.Tree.{tree_module_view, tree_view, tree_way_view}
use Rattle.wc_why_text.specs.TreeJson.{module_json, way_json}
use Rattle.wc_why_text.specs.Ways.{chosen_ways}
use Rattle.wc_why_text.proofs.TokenLemmas.{closed, then}
use Rattle.wc_why_text.proofs.TreeTokenLemmas.{list_as, views_as}
use Rattle.wc_why_text.proofs.tree_json.put_tree.Goals as goal

pub returns : goal.returns
unfolding object_of
returns c =
    let ways : map tree_way_view c.deref-3.result.now ≡ chosen_ways false (tree_view c.args.tree.now).ways =
    ap (map tree_way_view) c.deref-3.ensures.value ∙ c.in_ok-ways.ensures ∙ ap (λ l. chosen_ways false (map tree_way_view l)) c.deref-2.ensures.value in
    then _ _ _ c.in_ok-begin_object.ensures
    (then _ _ _ (list_as (codes "modules") module_json tree_module_view _ _ c.deref.ensures.value c.in_ok-put_modules.ensures)
    (closed _ _ (views_as (codes "ways") way_json _ _ ways c.in_ok-put_ways.ensures) c.end_object.ensures))
