use Rattle.std.proofs.Common.{◌≡◌, sym, subst, IfOk}
use Rattle.wc_encoder.specs.Distinct.{exported_interfaces}
use Rattle.wc_resolve.specs.Dependencies.{interface_ids}
use Rattle.wc_resolve.specs.Views.{world_view}
use Rattle.wc_world.proofs.UsedWalkLemmas.{exports_are}
use Rattle.wc_record.proofs.used.exported_interfaces.Goals as goal

pub returns : goal.returns
returns c =
    let exports = exports_are c.args.encoder.now c.metadata-metadata.result.now.resolve c.metadata-metadata.result.now.world.0 (world_view c.world.result.now)
    c.metadata-metadata.ensures.resolve c.metadata-metadata.ensures.world c.world.ensures in
    subst (λ es. IfOk c.interfaces_among.result (λ ids. interface_ids ids.items ≡ exported_interfaces es)) (sym exports) c.interfaces_among.ensures
