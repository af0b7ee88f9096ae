use Rattle.std.proofs.Common.{◌∙◌, sym}
use Rattle.wc_resolve.specs.Roots.{id_index}
use Rattle.wc_names.specs.ExportNames.{interface_resource}
use Rattle.wc_names.proofs.FirstMemberLemmas.{own_kept}
use Rattle.wc_names.proofs.first_members.keep_resources.Goals as goal

pub loop-name-preserved-in-Continue-branch-2 : goal.loop-name-preserved-in-Continue-branch-2
loop-name-preserved-in-Continue-branch-2 c =
    own_kept id_index (interface_resource c.args.resolve.now c.args.id.0) c.args.names.now.entries c.args.kept.now.entries
    c.loop-name.name-iterator c.next.new.self c.in-Some.name.now c.in-Some._ty.now c.in-Some.ensures.steps c.loop-name.kept.entries c.loop-name.invariant
    c.keep_first.new.kept.entries c.in_ok-own_name.own_name c.in-Some-interface_resource.resource
    c.deref.result.now c.deref.ensures (c.in_ok-own_name.ensures.ok ∙ (c.deref-in-Some-interface_resource.ensures ∙ sym c.deref.ensures))
    (sym c.in-Some-interface_resource.ensures) c.in_ok-keep_first.ensures
