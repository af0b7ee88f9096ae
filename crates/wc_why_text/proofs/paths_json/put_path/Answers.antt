use Rattle.std.proofs.Common.{◌≡◌, ◌∙◌, ap, codes, map, reverse}
use Rattle.wc_texts.specs.Shapes.{object_of}
use Rattle.wc_why.specs.Tree.{tree_module_view, tree_way_view}
use Rattle.wc_why_text.specs.PathsJson.{steps_of}
use Rattle.wc_why_text.specs.TreeLines.{items_after, way_path}
use Rattle.wc_why_text.proofs.StepLemmas.{array_as, new_none}
use Rattle.wc_why_text.proofs.TokenLemmas.{closed, then}
use Rattle.wc_why_text.proofs.paths_json.put_path.Goals as goal

pub returns : goal.returns
unfolding object_of
returns c =
    let modules = map tree_module_view c.args.modules.now in
    let way = tree_way_view c.args.way.now in
    let items : c.deref.result.now ≡ reverse (way_path modules way) =
    c.deref.ensures.value ∙ c.in_ok-path.ensures.items ∙ ap (λ k. items_after modules k way) c.with_hasher-none.ensures.empty
    ∙ ap reverse (new_none (way_path modules way)) in
    then _ _ _ c.in_ok-begin_object.ensures
    (then _ _ _ c.in_ok-put_text_or_null.ensures
    (then _ _ _ c.in_ok-put_text_or_null-2.ensures
    (closed _ _ (array_as (codes "steps") _ _ (ap (steps_of modules) items) c.in_ok-put_steps.ensures) c.end_object.ensures)))
