use Rattle.std.proofs.Common.{ap, option_map, refl, subst, sym, ◌∙◌}
use Rattle.std.proofs.lemmas.Result.{on_ok_weaker}
use Rattle.wc_why.specs.Texts.{text_of}
use Rattle.wc_summary.specs.Entries.{entries_view}
use Rattle.wc_ways.specs.Tags.{all_key}
use Rattle.wc_ways.specs.Private.SummaryShared.{SharesFirst}
use Rattle.wc_ways.proofs.summary_shared.share_under.Goals as goal

pub returns-in-Some : goal.returns-in-Some
returns-in-Some c w h =
    let old = entries_view c.args.entries.now.entries in
    let new = entries_view c.share_entry.new.entries.entries in
    on_ok_weaker c.share_entry.result
    (λ s. subst (λ o. SharesFirst o c.args.name.now old new) (sym (ap (option_map text_of) c.in-Some.is) ∙ c.first_of.ensures w all_key h) s) c.share_entry.ensures

pub returns-in-None : goal.returns-in-None
returns-in-None c w h =
    let old = entries_view c.args.entries.now.entries in
    subst (λ o. SharesFirst o c.args.name.now old old) (sym (ap (option_map text_of) c.in-None.is) ∙ c.first_of.ensures w all_key h) refl
