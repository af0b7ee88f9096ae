use Rattle.wc_names.specs.ExportIndex.{listed}
use Rattle.wc_names.specs.FirstMembers.{AreMembersOf}
use Rattle.wc_names.proofs.first_members.members_by_text.Given as goal

abbrev pub invariant-loop-text : goal.invariant-loop-text
invariant-loop-text l = AreMembersOf l.fn.syntax l.resolve (listed l.interfaces.entries) l.members.entries
