use Rattle.std.specs.Prelude.{IfOk}
use Rattle.std.proofs.Common.{map, sym, subst}
use Rattle.std.specs.Option.{option_map}
use Rattle.wc_resolve.specs.Views.{world_entry}
use Rattle.wc_names.specs.declared.interface_index.InterfaceIndex.{InterfaceIndex}
use Rattle.wc_names.specs.Finds.{Finds}
use Rattle.wc_names.specs.InterfaceIndex.{IsInterfaceIndex, index_texts}
use Rattle.wc_names.specs.Interfaces.{IsAbout, found_interface}
use Rattle.wc_names.proofs.InterfaceIndexLemmas.{canonical_looked_up}
use Rattle.wc_names.proofs.interface_index.InterfaceNames.interface.Goals as goal

pub returns-in-CanonicalIds : goal.returns-in-CanonicalIds
returns-in-CanonicalIds c =
    rw (← c.self.view_is) (subst (λ (z : InterfaceIndex). IfOk c.canonical_interface.result (λ found. Finds (option_map found_interface found)
    (IsAbout (index_texts z) c.self.inside.resolve.now (map world_entry c.self.inside.items.now.entries) c.args.text.now))) (sym c.in-CanonicalIds.is)
    (canonical_looked_up c.self.inside.resolve.now
    (map world_entry c.self.inside.items.now.entries) c.in-CanonicalIds.first.entries c.args.text.now c.canonical_interface.result
    (subst (IsInterfaceIndex c.self.inside.resolve.now
    (map world_entry c.self.inside.items.now.entries)) c.in-CanonicalIds.is c.self.invariant) c.canonical_interface.ensures))

pub returns-in-FullIds : goal.returns-in-FullIds
returns-in-FullIds c =
    rw (← c.self.view_is) (subst (λ (z : InterfaceIndex). IfOk c.interface_of_text.result (λ found. Finds (option_map found_interface found)
    (IsAbout (index_texts z) c.self.inside.resolve.now (map world_entry c.self.inside.items.now.entries) c.args.text.now)))
    (sym c.in-FullIds.is) c.interface_of_text.ensures)
