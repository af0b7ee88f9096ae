use Rattle.wc_texts.specs.Shapes.{object_of}
use Rattle.wc_why_text.proofs.TokenLemmas.{closed, then}
use Rattle.wc_read.specs.Names.{name_entries}
use Rattle.wc_summary.specs.SummaryJson.{function_json}
use Rattle.wc_summary.proofs.SummaryTextLemmas.{values_as}
use Rattle.wc_summary.proofs.summary_json.put_main.Goals as goal

pub returns : goal.returns
unfolding object_of
returns c =
    then _ _ _ c.in_ok-begin_object.ensures
    (then _ _ _ c.in_ok-put_text_or_null.ensures
    (then _ _ _ c.in_ok-put_number.ensures
    (closed _ _ (values_as (function_json (name_entries c.args.names.now)) _ _ c.deref.ensures.value c.in_ok-put_functions.ensures) c.end_object.ensures)))
