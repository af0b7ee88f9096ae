use Rattle.wc_texts.specs.Shapes.{object_of}
use Rattle.wc_why_text.proofs.TokenLemmas.{closed, then}
use Rattle.wc_why_text.proofs.tree_json.put_way.Goals as goal

pub returns : goal.returns
unfolding object_of
returns c =
    then _ _ _ c.in_ok-begin_object.ensures
    (then _ _ _ c.in_ok-put_text_or_null.ensures
    (then _ _ _ c.in_ok-put_text_or_null-2.ensures
    (then _ _ _ c.in_ok-put_number_or_null.ensures
    (then _ _ _ c.in_ok-put_number_or_null-2.ensures
    (then _ _ _ c.in_ok-put_import.ensures
    (closed _ _ c.in_ok-put_text_or_null-3.ensures c.end_object.ensures))))))
