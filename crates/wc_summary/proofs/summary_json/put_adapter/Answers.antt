use Rattle.std.proofs.Common.{codes}
use Rattle.wc_texts.specs.Shapes.{object_of}
use Rattle.wc_why_text.proofs.TokenLemmas.{closed, then}
use Rattle.wc_summary.proofs.SummaryTextLemmas.{names_as, stays_as}
use Rattle.wc_summary.proofs.summary_json.put_adapter.Goals as goal

pub returns : goal.returns
unfolding object_of
returns c =
    then _ _ _ c.in_ok-begin_object.ensures
    (then _ _ _ c.in_ok-put_text.ensures
    (then _ _ _ c.in_ok-put_number.ensures
    (then _ _ _ (names_as (codes "exports") _ _ c.deref.ensures.value c.in_ok-put_names.ensures)
    (then _ _ _ (stays_as _ _ _ _ c.deref-2.ensures.value c.deref-3.ensures.value c.in_ok-put_stays.ensures)
    (then _ _ _ c.in_ok-put_number-2.ensures
    (closed _ _ c.in_ok-put_number-3.ensures c.end_object.ensures))))))
