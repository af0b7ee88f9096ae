use Rattle.std.proofs.Common.{◌∙◌, [], OnOk, Option, ap, subst}
use Rattle.std.specs.Option.{option_map, option_map_or}
use Rattle.wc_names.proofs.KeyLemmas.{item_viewed}
use Rattle.wc_resolve.specs.Roots.{item_roots}
use Rattle.wc_resolve.specs.Views.{ItemView, item_view}
use Rattle.wc_ways.specs.Private.Needs.{Finds}
use Rattle.wc_ways.proofs.NeedLemmas.{finds_none}
use Rattle.wc_ways.proofs.needs.note_under.Goals as goal

pub returns-in-Some : goal.returns-in-Some
returns-in-Some c =
    let g = c.args.needing.now in
    subst (λ (o : Option ItemView). OnOk c.note_item.result (Finds g c.args.found.now c.note_item.new.found (option_map_or (item_roots g.resolve.now) o [])))
    (ap (option_map item_view) c.in-Some.ensures.value ∙ item_viewed c.args.key.now c.args.imports.now.entries) c.note_item.ensures

pub returns-in-None : goal.returns-in-None
returns-in-None c =
    let g = c.args.needing.now in
    subst (λ (o : Option ItemView). Finds g c.args.found.now c.args.found.now (option_map_or (item_roots g.resolve.now) o []))
    (ap (option_map item_view) c.in-None.ensures.value ∙ item_viewed c.args.key.now c.args.imports.now.entries) (finds_none g c.args.found.now)
