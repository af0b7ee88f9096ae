use Rattle.std.proofs.Common.{◌∙◌, [], IfSome, OnOk, Option, ap, refl, sym, subst}
use Rattle.std.specs.Option.{option_map, option_map_or}
use Rattle.wc_resolve.specs.Live.{AddsListings}
use Rattle.wc_resolve.specs.Ranges.{IsItemIn}
use Rattle.wc_resolve.specs.Roots.{item_roots}
use Rattle.wc_resolve.specs.Views.{ItemView, item_view}
use Rattle.wc_names.proofs.KeyLemmas.{item_viewed}
use Rattle.wc_world.proofs.live.add_item.Goals as goal

pub add_world_item-requires : goal.add_world_item-requires
add_world_item-requires c =
    subst (λ (o : Option ItemView). IfSome o (IsItemIn c.args.resolve.now))
    (sym (item_viewed c.args.key.now c.args.imports.now.entries) ∙ ap (option_map item_view) (sym c.in-Some.ensures.value)) c.requires

pub returns-in-Some : goal.returns-in-Some
returns-in-Some c =
    subst (λ (o : Option ItemView). OnOk c.add_world_item.result (AddsListings c.args.resolve.now c.args.live.now c.add_world_item.new.self (option_map_or (item_roots c.args.resolve.now) o [])))
    (ap (option_map item_view) c.in-Some.ensures.value ∙ item_viewed c.args.key.now c.args.imports.now.entries) c.add_world_item.ensures.added

pub returns-in-None : goal.returns-in-None
returns-in-None c =
    subst (λ (o : Option ItemView). AddsListings c.args.resolve.now c.args.live.now c.args.live.now (option_map_or (item_roots c.args.resolve.now) o []))
    (ap (option_map item_view) c.in-None.ensures.value ∙ item_viewed c.args.key.now c.args.imports.now.entries) (λ complete. (complete, refl))
