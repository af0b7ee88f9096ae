use Rattle.wc_texts.specs.Shapes.{object_of}
use Rattle.wc_why_text.proofs.TokenLemmas.{then}
use Rattle.wc_why_text.proofs.TreeTokenLemmas.{ended}
use Rattle.wc_why_text.proofs.tree_json.put_item.Goals as goal

pub returns : goal.returns
unfolding object_of
returns c =
    then _ _ _ c.in_ok-begin_object.ensures
    (then _ _ _ c.in_ok-put_place.ensures
    (then _ _ _ c.in_ok-put_text_or_null.ensures
    (then _ _ _ c.in_ok-put_number_or_null.ensures
    (then _ _ _ c.in_ok-put_number_or_null-2.ensures
    (ended _ _ c.args.item.now.only c.in_ok-put_callers.ensures c.put_only.ensures)))))
