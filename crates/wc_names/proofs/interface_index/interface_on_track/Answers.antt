use Rattle.std.proofs.Common.{◌∙◌, None, ap}
use Rattle.std.specs.Map.{lookup}
use Rattle.std.specs.Option.{option_and_then}
use Rattle.wc_resolve.specs.Views.{package_name_view}
use Rattle.wc_names.specs.InterfaceIndex.{TrackNameView, is_track_name}
use Rattle.wc_names.proofs.InterfaceIndexLemmas.{track_looked_up}
use Rattle.wc_names.proofs.interface_index.interface_on_track.Goals as goal

pub returns-in-Some : goal.returns-in-Some
returns-in-Some c = λ r entries kept.
    track_looked_up r entries c.args.tracks.now.entries kept (package_name_view c.args.id.now.«package») c.args.id.now.interface.now c.copied.result
    (c.copied.ensures ∙ (c.get.ensures.value ∙ ap (option_and_then (λ (t : TrackNameView). lookup (is_track_name t) c.args.tracks.now.entries))
    (rw c.in-Some.is at c.in_ok-name.ensures)))

pub returns-in-None : goal.returns-in-None
returns-in-None c = λ r entries kept.
    track_looked_up r entries c.args.tracks.now.entries kept (package_name_view c.args.id.now.«package») c.args.id.now.interface.now None
    (ap (option_and_then (λ (t : TrackNameView). lookup (is_track_name t) c.args.tracks.now.entries)) (rw c.in-None.is at c.in_ok-name.ensures))
