use Rattle.std.proofs.Common.{OnOk, sym, subst}
use Rattle.wc_resolve.specs.Live.{AddsListings}
use Rattle.wc_names.specs.Views.{payload_type_view}
use Rattle.wc_world.specs.Live.{payload_roots}
use Rattle.wc_world.proofs.live.add_payload.Goals as goal

pub returns-in-Typed : goal.returns-in-Typed
returns-in-Typed c =
    subst (λ z. OnOk c.add_type_id.result (AddsListings c.args.resolve.now c.args.live.now c.add_type_id.new.self (payload_roots (payload_type_view z))))
    (sym c.in-Typed.is) c.add_type_id.ensures.added
