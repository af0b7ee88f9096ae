use Rattle.std.proofs.Common.{◌∙◌, ap, codes}
use Rattle.wc_texts.specs.Shapes.{object_of}
use Rattle.wc_why_text.proofs.TokenLemmas.{closed, then}
use Rattle.wc_summary.specs.Summary.{kind_name}
use Rattle.wc_summary.proofs.SummaryTextLemmas.{text_as}
use Rattle.wc_summary.proofs.summary_json.put_entry.Goals as goal

pub returns : goal.returns
unfolding object_of
returns c =
    then _ _ _ c.in_ok-begin_object.ensures
    (then _ _ _ (text_as (codes "interface") _ _ c.deref.ensures c.in_ok-put_text.ensures)
    (then _ _ _ (text_as (codes "kind") _ _ (c.name.ensures ∙ ap kind_name c.kind.ensures) c.in_ok-put_text-2.ensures)
    (closed _ _ c.in_ok-put_modules.ensures c.end_object.ensures)))
