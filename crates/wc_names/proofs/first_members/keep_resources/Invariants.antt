use Rattle.wc_resolve.specs.Roots.{id_index}
use Rattle.wc_names.specs.ExportNames.{interface_resource}
use Rattle.wc_names.proofs.FirstMemberLemmas.{KeepsOwn}
use Rattle.wc_names.proofs.first_members.keep_resources.Given as goal

abbrev pub invariant-loop-name : goal.invariant-loop-name
invariant-loop-name l =
    KeepsOwn id_index (interface_resource l.resolve l.id.0) l.names.entries l.fn.kept.entries l.name-iterator l.kept.entries
