use Rattle.std.proofs.Common.{map}
use Rattle.wc_resolve.specs.Views.{package_name_view, world_entry}
use Rattle.wc_names.proofs.InterfaceLemmas.{id_not_found}
use Rattle.wc_names.proofs.interface_index.interface_of_text.Goals as goal

pub returns : goal.returns
returns c =
    id_not_found c.args.resolve.now (map world_entry c.args.items.now.entries) c.args.text.now
    (package_name_view c.in-Some-2.id.«package») c.in-Some-2.id.interface.now
    (rw c.in_default.is at c.in_ok-id.ensures) (rw c.in-Some-2.is at c.in_ok-id-2.ensures) (rw c.in-None.is at c.in_ok-interface.ensures)
