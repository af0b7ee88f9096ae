use Rattle.std.proofs.Common.{◌≡◌, sym, subst, IfOk, map}
use Rattle.wc_adapters.specs.Entries.{Entries}
use Rattle.wc_encoder.specs.EncoderParts.{world_exports}
use Rattle.wc_resolve.specs.Kinds.{ResolveView}
use Rattle.wc_resolve.specs.Views.{ItemView, KeyView, world_entry, world_view}
use Rattle.wc_resolve.proofs.ViewedLemmas.{all_unviewed}
use Rattle.wc_world.proofs.UsedWalkLemmas.{exports_are}
use Rattle.wc_record.specs.ExportOptions.{lifted_exports}
use Rattle.wc_record.specs.Private.ExportOptions.{IsLiftable, lifted_view}
use Rattle.wc_record.proofs.ExportOptionLemmas.{all_liftable}
use Rattle.wc_record.proofs.export_options.lifted_exports.Goals as goal

pub lifted_among-requires : goal.lifted_among-requires
lifted_among-requires c =
    let r = c.metadata-metadata.result.now.resolve in
    all_unviewed world_entry (λ (e : KeyView × ItemView). IsLiftable r e.1) c.world.result.now.exports.entries
    (all_liftable r c.well_formedness-2.ensures c.metadata-metadata.result.now.world.0 (world_view c.world.result.now) c.world.ensures)

pub returns : goal.returns
returns c =
    let r = c.metadata-metadata.result.now.resolve in
    let w = world_view c.world.result.now in
    let exports : world_exports c.args.encoder.now ≡ w.exports = exports_are c.args.encoder.now r c.metadata-metadata.result.now.world.0 w
    c.metadata-metadata.ensures.resolve c.metadata-metadata.ensures.world c.world.ensures in
    subst (λ (es : Entries). IfOk c.lifted_among.result (λ list. map lifted_view list.items ≡ lifted_exports c.args.encoder.now.resolve es)) (sym exports)
    (subst (λ (z : ResolveView). IfOk c.lifted_among.result (λ list. map lifted_view list.items ≡ lifted_exports z w.exports))
    c.metadata-metadata.ensures.resolve c.lifted_among.ensures)
