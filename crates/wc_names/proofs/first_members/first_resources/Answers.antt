use Rattle.std.proofs.Common.{refl}
use Rattle.wc_resolve.specs.declared.ids.TypeId.{TypeId}
use Rattle.wc_resolve.specs.Views.{interface_view, key_view}
use Rattle.wc_names.specs.ExportIndex.{exported_interface_view}
use Rattle.wc_names.specs.ExportNames.{HasResource, interface_resource}
use Rattle.wc_resolve.specs.Roots.{id_index}
use Rattle.wc_names.specs.FirstMembers.{among}
use Rattle.wc_names.proofs.FirstMemberLemmas.{all_kept, keeps_more, own_resources}
use Rattle.wc_names.proofs.first_members.first_resources.Goals as goal

pub loop-exported-preserved : goal.loop-exported-preserved
loop-exported-preserved c =
    keeps_more (HasResource c.args.resolve.now) id_index exported_interface_view c.args.interfaces.now c.loop-exported.exported-index c.exported-item.result
    (among c.interface.result.now.types.entries (interface_resource c.args.resolve.now c.exported-item.result.id.0))
    c.loop-exported.kept.entries c.keep_resources.new.kept.entries c.loop-exported-test.true c.exported-item.is
    (own_resources c.args.resolve.now c.exported-item.result.id.0 (interface_view c.interface.result.now) c.interface.ensures
    c.interface.result.now.types.entries (λ (t : TypeId). t.0) (key_view c.exported-item.result.key.now) refl)
    c.in_ok-keep_resources.ensures c.loop-exported.invariant

pub returns : goal.returns
returns c =
    all_kept (HasResource c.args.resolve.now) id_index exported_interface_view c.args.interfaces.now c.loop-exported.exported-index
    c.loop-exported.kept.entries c.loop-exported-test.false c.loop-exported.invariant
