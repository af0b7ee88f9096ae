use Rattle.std.proofs.Common.{◌∙◌, Some, ap, sym}
use Rattle.std.specs.Option.{option_map}
use Rattle.wc_resolve.specs.Views.{key_view}
use Rattle.wc_names.specs.ExportIndex.{exported_interface_view}
use Rattle.wc_names.specs.ExportNames.{target}
use Rattle.wc_names.specs.ExportViews.{export_target}
use Rattle.wc_names.specs.FirstMembers.{own_function}
use Rattle.wc_names.proofs.FirstMemberLemmas.{own_kept}
use Rattle.wc_names.proofs.first_members.keep_functions.Goals as goal

pub loop-name-preserved-in-Continue-branch-2 : goal.loop-name-preserved-in-Continue-branch-2
loop-name-preserved-in-Continue-branch-2 c =
    own_kept export_target (own_function c.args.resolve.now (exported_interface_view c.args.exported)) c.args.names.now.entries c.args.kept.now.entries
    c.loop-name.name-iterator c.next.new.self c.in-Some.name.now c.in-Some._function.now c.in-Some.ensures.steps c.loop-name.kept.entries c.loop-name.invariant
    c.keep_first.new.kept.entries c.in_ok-own_name.own_name (c.args.exported.key, Some c.args.exported.id, c.in-Some-interface_function.function)
    c.deref.result.now c.deref.ensures (c.in_ok-own_name.ensures.ok ∙ (c.deref-in-Some-interface_function.ensures ∙ sym c.deref.ensures))
    (sym (ap (option_map (target (key_view c.args.exported.key.now) (Some c.args.exported.id.0))) c.in-Some-interface_function.ensures))
    c.in_ok-keep_first.ensures
