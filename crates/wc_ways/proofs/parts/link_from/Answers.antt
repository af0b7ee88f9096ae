use Rattle.std.proofs.Common.{◌∙◌, ap, option_map, sym}
use Rattle.std.specs.Option.{option_and_then}
use Rattle.wc_names.specs.Views.{import_view}
use Rattle.wc_paths.specs.Counts.{counts_value}
use Rattle.wc_summary.specs.Leads.{as_number}
use Rattle.wc_world.specs.WorldViews.{world_view}
use Rattle.wc_ways.specs.Parts.{link_from, linked_by}
use Rattle.wc_ways.specs.Private.Modules.{codes_in}
use Rattle.wc_ways.specs.Private.Parts.{linked_view}
use Rattle.wc_ways.proofs.parts.link_from.Goals as goal

pub returns-in-Some-linked_by : goal.returns-in-Some-linked_by
returns-in-Some-linked_by c =
    let l = c.args.linking.now in
    let made = link_from (as_number (counts_value l.rows.now.counts) c.args.item) in
    let linked = linked_by (world_view l.world.now) (codes_in l.modules.now) in
    c.link_to.ensures
    ∙ ap (option_and_then made)
    (sym (ap (option_map linked_view) c.in-Some-linked_by.is) ∙ c.linked_by.ensures
    ∙ ap (option_and_then linked) (sym (ap (option_map (λ i. import_view i.now)) c.in-Some.is) ∙ c.recorded_at.ensures))

pub returns-in-None-linked_by : goal.returns-in-None-linked_by
returns-in-None-linked_by c =
    let l = c.args.linking.now in
    let made = link_from (as_number (counts_value l.rows.now.counts) c.args.item) in
    let linked = linked_by (world_view l.world.now) (codes_in l.modules.now) in
    ap (option_and_then made)
    (sym (ap (option_map linked_view) c.in-None-linked_by.is) ∙ c.linked_by.ensures
    ∙ ap (option_and_then linked) (sym (ap (option_map (λ i. import_view i.now)) c.in-Some.is) ∙ c.recorded_at.ensures))

pub returns-in-None : goal.returns-in-None
returns-in-None c =
    let l = c.args.linking.now in
    let made = link_from (as_number (counts_value l.rows.now.counts) c.args.item) in
    let linked = linked_by (world_view l.world.now) (codes_in l.modules.now) in
    ap (option_and_then made)
    (ap (option_and_then linked) (sym (ap (option_map (λ i. import_view i.now)) c.in-None.is) ∙ c.recorded_at.ensures))
