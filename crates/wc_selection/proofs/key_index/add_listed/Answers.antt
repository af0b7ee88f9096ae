use Rattle.std.proofs.Common.{◌∙◌, sym}
use Rattle.wc_selection.proofs.TextListLemmas.{extended, listed_there}
use Rattle.wc_selection.proofs.key_index.add_listed.Goals as goal

pub returns-in-Some : goal.returns-in-Some
returns-in-Some c =
    extended c.extend_from_slice.result c.args.found.now.items c.deref.result.now c.extend_from_slice.new.self.items _ c.extend_from_slice.ensures.items
    (listed_there c.args.positions.now.entries c.args.text.now c.in-Some.list.now (sym c.in-Some.ensures.value) ∙ sym c.deref.ensures.value)
