use Rattle.wc_texts.specs.Shapes.{object_of}
use Rattle.wc_why_text.proofs.TokenLemmas.{closed, then, wrote}
use Rattle.wc_why_text.proofs.tree_json.put_some_callers.Goals as goal

pub returns : goal.returns
unfolding object_of
returns c =
    then _ _ _ (wrote c.in_ok-key.ensures)
    (then _ _ _ c.in_ok-begin_object.ensures
    (then _ _ _ c.in_ok-put_caller_list.ensures
    (closed _ _ c.in_ok-put_number.ensures c.end_object.ensures)))
