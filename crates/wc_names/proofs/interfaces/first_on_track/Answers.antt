use Rattle.std.proofs.Common.{ap, map}
use Rattle.std.specs.Option.{option_map}
use Rattle.semver.specs.Identifiers.{parts_of}
use Rattle.wc_resolve.specs.Views.{package_name_view, world_entry}
use Rattle.wc_names.proofs.InterfaceLemmas.{without_version}
use Rattle.wc_names.proofs.interfaces.first_on_track.Goals as goal

pub returns-in-None : goal.returns-in-None
returns-in-None c =
    without_version c.args.resolve.now (package_name_view c.args.id.now.«package») c.args.id.now.interface.now (map world_entry c.args.items.now.entries)
    (ap (option_map parts_of) c.in-None.is)
