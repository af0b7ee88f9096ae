use Rattle.std.proofs.Common.{◌≡◌, ◌∙◌, IfOk, ap, option_map, subst, sym}
use Rattle.std.specs.Option.{option_and_then}
use Rattle.wc_names.specs.Views.{import_view}
use Rattle.wc_summary.specs.Leads.{tag_view}
use Rattle.wc_ways.specs.Tags.{interface_of}
use Rattle.wc_ways.proofs.tags.tag_of.Goals as goal

pub returns-in-Some : goal.returns-in-Some
returns-in-Some c w h =
    subst (λ o. IfOk c.recorded_tag.result (λ t. tag_view t ≡ option_and_then (interface_of w) o))
    (sym (ap (option_map (λ i. import_view i.now)) c.in-Some.is) ∙ c.recorded_at.ensures) (c.recorded_tag.ensures w h)

pub returns-in-None : goal.returns-in-None
returns-in-None c w h = ap (option_and_then (interface_of w)) (sym (ap (option_map (λ i. import_view i.now)) c.in-None.is) ∙ c.recorded_at.ensures)
