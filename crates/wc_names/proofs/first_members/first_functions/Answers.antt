use Rattle.std.proofs.Common.{refl}
use Rattle.wc_resolve.specs.Views.{function_view, interface_view, key_view}
use Rattle.wc_names.specs.ExportIndex.{exported_interface_view}
use Rattle.wc_names.specs.ExportNames.{HasFunction}
use Rattle.wc_names.specs.ExportViews.{export_target}
use Rattle.wc_names.specs.FirstMembers.{among, own_function}
use Rattle.wc_names.proofs.FirstMemberLemmas.{all_kept, keeps_more, own_functions}
use Rattle.wc_names.proofs.first_members.first_functions.Goals as goal

pub loop-exported-preserved : goal.loop-exported-preserved
loop-exported-preserved c =
    keeps_more (HasFunction c.args.resolve.now) export_target exported_interface_view c.args.interfaces.now c.loop-exported.exported-index c.exported-item.result
    (among c.interface.result.now.functions.entries (own_function c.args.resolve.now (exported_interface_view c.exported-item.result)))
    c.loop-exported.kept.entries c.keep_functions.new.kept.entries c.loop-exported-test.true c.exported-item.is
    (own_functions c.args.resolve.now c.exported-item.result.id.0 (interface_view c.interface.result.now) c.interface.ensures
    c.interface.result.now.functions.entries function_view (key_view c.exported-item.result.key.now) refl)
    c.in_ok-keep_functions.ensures c.loop-exported.invariant

pub returns : goal.returns
returns c =
    all_kept (HasFunction c.args.resolve.now) export_target exported_interface_view c.args.interfaces.now c.loop-exported.exported-index
    c.loop-exported.kept.entries c.loop-exported-test.false c.loop-exported.invariant
