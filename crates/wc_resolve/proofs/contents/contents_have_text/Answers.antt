use Rattle.std.proofs.Common.{◌∙◌, ap, sym, false}
use Rattle.std.specs.List.{list_any}
use Rattle.std.specs.Option.{option_map_or}
use Rattle.wc_resolve.specs.Contents.{has_text, text_flag}
use Rattle.wc_resolve.specs.Futures.{carried_types}
use Rattle.wc_resolve.specs.Views.{kind_view}
use Rattle.wc_resolve.proofs.ContentLemmas.{any_case, any_field}
use Rattle.wc_resolve.proofs.contents.contents_have_text.Goals as goal

pub returns-in-Record : goal.returns-in-Record
returns-in-Record c =
    c.fields_have_text.ensures ∙ (ap (list_any (λ f. has_text (text_flag c.args.flags.now) f.1)) c.deref.ensures.value ∙ any_field (has_text (text_flag c.args.flags.now)) c.in-Record.fields.items
    ∙ ap (λ k. list_any (has_text (text_flag c.args.flags.now)) (carried_types (kind_view k))) (sym c.in-Record.is))

pub returns-in-Variant : goal.returns-in-Variant
returns-in-Variant c =
    c.cases_have_text.ensures ∙ (ap (list_any (λ f. option_map_or (has_text (text_flag c.args.flags.now)) f.1 false)) c.deref-in-Variant.ensures.value ∙ any_case (has_text (text_flag c.args.flags.now)) c.in-Variant.cases.items
    ∙ ap (λ k. list_any (has_text (text_flag c.args.flags.now)) (carried_types (kind_view k))) (sym c.in-Variant.is))
