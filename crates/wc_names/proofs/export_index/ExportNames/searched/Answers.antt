use Rattle.std.proofs.Common.{map}
use Rattle.wc_resolve.specs.Views.{key_view, world_entry}
use Rattle.wc_names.proofs.ExportIndexLemmas.{all_searched, first_searched}
use Rattle.wc_names.proofs.export_index.ExportNames.searched.Goals as goal

pub returns-in-Standard : goal.returns-in-Standard
returns-in-Standard c =
    rw (← c.self.view_is) (first_searched c.self.inside.syntax c.self.inside.resolve.now (map world_entry c.self.inside.exports.now.entries)
    (map key_view c.self.inside.keys.now.keys)
    c.self.inside.interfaces.entries c.self.invariant.0 c.args.text.now c.in_ok-interfaces.interfaces.now c.deref.result.now c.in_ok-interfaces.ensures.value
    c.deref.ensures.value
    c.first_alone.result.now c.in-Standard.is c.first_alone.ensures)

pub returns-in-Legacy : goal.returns-in-Legacy
returns-in-Legacy c =
    rw (← c.self.view_is) (all_searched c.self.inside.syntax c.self.inside.resolve.now (map world_entry c.self.inside.exports.now.entries)
    (map key_view c.self.inside.keys.now.keys)
    c.self.inside.interfaces.entries c.self.invariant.0 c.args.text.now c.in_ok-interfaces.interfaces.now c.deref-in-Legacy.result.now
    c.in_ok-interfaces.ensures.value c.deref-in-Legacy.ensures.value
    c.in-Legacy.is)
