use Rattle.std.proofs.Common.{codes}
use Rattle.wc_texts.specs.Shapes.{object_of}
use Rattle.wc_why_text.proofs.TokenLemmas.{closed, then}
use Rattle.wc_why.specs.Tree.{tree_root_view}
use Rattle.wc_why_text.specs.TreeJson.{root_json}
use Rattle.wc_why_text.proofs.TreeTokenLemmas.{items_as, list_as}
use Rattle.wc_why_text.proofs.tree_json.put_module.Goals as goal

pub returns : goal.returns
unfolding object_of
returns c =
    then _ _ _ c.in_ok-begin_object.ensures
    (then _ _ _ c.in_ok-put_text_or_null.ensures
    (then _ _ _ (list_as (codes "roots") root_json tree_root_view _ _ c.deref.ensures.value c.in_ok-put_roots.ensures)
    (closed _ _ (items_as _ _ _ _ c.deref-2.ensures.value c.deref-3.ensures.value c.in_ok-put_items.ensures) c.end_object.ensures)))
