use Rattle.std.proofs.Common.{map}
use Rattle.wc_resolve.specs.Views.{package_name_view, world_entry}
use Rattle.wc_names.specs.Interfaces.{under_own_key}
use Rattle.wc_names.proofs.InterfaceLemmas.{clone_found, track_found, track_found_alone}
use Rattle.wc_names.proofs.interfaces.interface_of_id.Goals as goal
use Rattle.wc_names.proofs.interfaces.interface_of_id.Goals.{in-Some+else-is_key+in_default-first_clone, in_default}

pub returns-in-Some-first_clone : goal.returns-in-Some-first_clone
returns-in-Some-first_clone c =
    clone_found c.args.resolve.now (map world_entry c.args.items.now.entries)
    (package_name_view c.args.id.now.«package») c.args.id.now.interface.now c.in-Some.exact.0 c.is_key.result (under_own_key c.in-Some-first_clone.clone)
    c.well_formedness.ensures.distinct c.in-Some.ensures c.is_key.ensures c.if-is_key.false c.in-Some-first_clone.ensures

pub returns : goal.returns
returns c = elim c.match-member_of.branch [
  | in-Some+else-is_key+in_default-first_clone w ↦
      track_found c.args.resolve.now (map world_entry c.args.items.now.entries)
      (package_name_view c.args.id.now.«package») c.args.id.now.interface.now w.in-Some.exact.0 w.is_key.result c.first_on_track.result
      c.well_formedness.ensures.distinct w.in-Some.ensures w.is_key.ensures w.if-is_key.false w.in_default-first_clone.ensures c.first_on_track.ensures
  | in_default w ↦
      track_found_alone c.args.resolve.now (map world_entry c.args.items.now.entries)
      (package_name_view c.args.id.now.«package») c.args.id.now.interface.now c.first_on_track.result w.in_default.ensures c.first_on_track.ensures
]
