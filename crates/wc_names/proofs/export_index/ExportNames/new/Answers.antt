use Rattle.std.proofs.Common.{◌<◌, length, map, subst, sym}
use Rattle.std.specs.List.{All}
use Rattle.wc_resolve.specs.Views.{key_view, world_view}
use Rattle.wc_resolve.proofs.WellFormedLemmas.{export_items_in, export_keys_in}
use Rattle.wc_names.specs.Interfaces.{FoundInterface}
use Rattle.wc_names.proofs.ExportIndexLemmas.{interfaces_in_range}
use Rattle.wc_names.proofs.export_index.ExportNames.new.Goals as goal

pub interfaces_by_text-requires : goal.interfaces_by_text-requires
interfaces_by_text-requires c = export_keys_in c.args.resolve.now c.well_formedness.ensures c.args.world.0 (world_view c.world.result.now) c.world.ensures

pub members_by_text-requires : goal.members_by_text-requires
members_by_text-requires c = λ text.
    subst (λ z. All (λ (f : FoundInterface). f.1 < length c.args.resolve.now.interfaces) z) (sym (c.in_ok-interfaces.ensures text))
    (interfaces_in_range c.args.syntax c.args.resolve.now _ (map key_view c.args.keys.now.keys) text
    (export_items_in c.args.resolve.now c.well_formedness.ensures c.args.world.0 (world_view c.world.result.now) c.world.ensures))

pub invariant_of-result : goal.invariant_of-result
invariant_of-result c = (
  record {
    are_listed = c.in_ok-interfaces.ensures;
    are_items_in = export_items_in c.args.resolve.now c.well_formedness.ensures c.args.world.0 (world_view c.world.result.now) c.world.ensures;
  },
  c.in_ok-members.ensures,
)
