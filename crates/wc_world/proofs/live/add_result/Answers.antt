use Rattle.std.proofs.Common.{[], OnOk, sym, subst}
use Rattle.std.specs.Option.{option_map_or}
use Rattle.wc_resolve.specs.Live.{AddsListings}
use Rattle.wc_resolve.specs.Roots.{type_roots}
use Rattle.wc_world.proofs.live.add_result.Goals as goal

pub returns-in-Some : goal.returns-in-Some
returns-in-Some c =
    subst (λ o. OnOk c.add_type.result (AddsListings c.args.resolve.now c.args.live.now c.add_type.new.self (option_map_or type_roots o [])))
    (sym c.in-Some.is) c.add_type.ensures.added
