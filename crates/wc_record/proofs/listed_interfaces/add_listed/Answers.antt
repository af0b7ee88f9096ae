use Rattle.std.proofs.Common.{◌∙◌, sym}
use Rattle.wc_selection.proofs.TextListLemmas.{extended}
use Rattle.wc_record.proofs.ListedInterfaceLemmas.{listed_there}
use Rattle.wc_record.proofs.listed_interfaces.add_listed.Goals as goal

pub returns-in-Some : goal.returns-in-Some
returns-in-Some c =
    extended c.extend_from_slice.result c.args.found.now.items c.deref.result.now c.extend_from_slice.new.self.items _ c.extend_from_slice.ensures.items
    (listed_there c.args.positions.now.entries c.args.id c.in-Some.list.now (sym c.in-Some.ensures.value) ∙ sym c.deref.ensures.value)
