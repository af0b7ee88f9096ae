use Rattle.wc_names.specs.ExportIndex.{exported_interface_view}
use Rattle.wc_names.specs.ExportViews.{export_target}
use Rattle.wc_names.specs.FirstMembers.{own_function}
use Rattle.wc_names.proofs.FirstMemberLemmas.{KeepsOwn}
use Rattle.wc_names.proofs.first_members.keep_functions.Given as goal

abbrev pub invariant-loop-name : goal.invariant-loop-name
invariant-loop-name l =
    KeepsOwn export_target (own_function l.resolve (exported_interface_view l.exported)) l.names.entries l.fn.kept.entries l.name-iterator l.kept.entries
