use Rattle.wc_texts.specs.Shapes.{object_of}
use Rattle.wc_why_text.proofs.TokenLemmas.{then}
use Rattle.wc_why_text.proofs.TreeTokenLemmas.{ended}
use Rattle.wc_why_text.proofs.paths_json.put_item_step.Goals as goal

pub returns : goal.returns
unfolding object_of
returns c =
    then _ _ _ c.in_ok-begin_object.ensures
    (then _ _ _ c.in_ok-put_text.ensures
    (then _ _ _ c.in_ok-put_place.ensures
    (ended _ _ c.args.item.now.only c.in_ok-put_text_or_null.ensures c.put_only.ensures)))
