use Rattle.std.proofs.Common.{map}
use Rattle.wc_resolve.specs.Views.{package_name_view, world_entry}
use Rattle.wc_names.specs.Interfaces.{under_own_key}
use Rattle.wc_names.proofs.InterfaceLemmas.{clone_found, track_found, track_found_alone}
use Rattle.wc_names.proofs.interface_index.interface_of_id.Goals as goal
use Rattle.wc_names.proofs.interface_index.interface_of_id.Goals.{in-Some+else-is_key+in_default-clone_of_interface, in_default}

pub returns-in-Some-clone_of_interface : goal.returns-in-Some-clone_of_interface
returns-in-Some-clone_of_interface c =
    clone_found c.args.resolve.now (map world_entry c.args.items.now.entries)
    (package_name_view c.args.id.now.«package») c.args.id.now.interface.now c.in-Some.exact.0 c.is_key.result (under_own_key c.in-Some-clone_of_interface.clone)
    c.well_formedness.ensures.distinct c.in-Some.ensures c.is_key.ensures c.if-is_key.false
    (c.in-Some-clone_of_interface.ensures c.args.resolve.now (map world_entry c.args.items.now.entries) c.requires.clones)

pub returns : goal.returns
returns c = elim c.match-member_of.branch [
  | in-Some+else-is_key+in_default-clone_of_interface w ↦
      track_found c.args.resolve.now (map world_entry c.args.items.now.entries)
      (package_name_view c.args.id.now.«package») c.args.id.now.interface.now w.in-Some.exact.0 w.is_key.result c.interface_on_track.result
      c.well_formedness.ensures.distinct w.in-Some.ensures w.is_key.ensures w.if-is_key.false
      (w.in_default-clone_of_interface.ensures c.args.resolve.now (map world_entry c.args.items.now.entries) c.requires.clones)
      (c.interface_on_track.ensures c.args.resolve.now (map world_entry c.args.items.now.entries) c.requires.tracks)
  | in_default w ↦
      track_found_alone c.args.resolve.now (map world_entry c.args.items.now.entries)
      (package_name_view c.args.id.now.«package») c.args.id.now.interface.now c.interface_on_track.result w.in_default.ensures
      (c.interface_on_track.ensures c.args.resolve.now (map world_entry c.args.items.now.entries) c.requires.tracks)
]
