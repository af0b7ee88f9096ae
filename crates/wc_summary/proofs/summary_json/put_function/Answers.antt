use Rattle.wc_texts.specs.Shapes.{object_of}
use Rattle.wc_why_text.proofs.TokenLemmas.{closed, then}
use Rattle.wc_summary.proofs.SummaryTextLemmas.{name_as}
use Rattle.wc_summary.proofs.summary_json.put_function.Goals as goal

pub returns : goal.returns
unfolding object_of
returns c =
    then _ _ _ c.in_ok-begin_object.ensures
    (then _ _ _ c.in_ok-put_number.ensures
    (closed _ _ (name_as _ _ c.function_name.ensures c.in_ok-put_text_or_null.ensures) c.end_object.ensures))
