use Rattle.std.proofs.Common.{OnOk, sym, subst}
use Rattle.std.specs.Option.{option_to_list}
use Rattle.wc_resolve.specs.Live.{AddsListings}
use Rattle.wc_resolve.specs.Views.{item_view}
use Rattle.wc_names.specs.Keys.{as_type}
use Rattle.wc_world.proofs.live.add_type_item.Goals as goal

pub returns-in-TypeItem : goal.returns-in-TypeItem
returns-in-TypeItem c =
    subst (λ z. OnOk c.add_type_id.result (AddsListings c.args.resolve.now c.args.live.now c.add_type_id.new.self (option_to_list (as_type (item_view z)))))
    (sym c.in-TypeItem.is) c.add_type_id.ensures.added
