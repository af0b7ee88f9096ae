use Rattle.std.proofs.Common.{refl}
use Rattle.std.specs.Option.{option_map}
use Rattle.wc_resolve.specs.Views.{package_view, world_view}
use Rattle.wc_resolve.specs.declared.ids.PackageId.{PackageId}
use Rattle.wc_json.specs.Packages.{world_entries}
use Rattle.wc_json.proofs.PairLemmas.{first-map, second-map}
use Rattle.wc_json.proofs.document.document_of.Goals as goal

pub returns : goal.returns
returns c =
    let ws = c.in_ok-worlds.worlds.items in
    let ps = c.in_ok-packages.packages.items in
    rw (
      c.in_ok-worlds.ensures.reads,
      c.in_ok-interfaces.ensures.reads,
      c.in_ok-types.ensures.reads,
      c.in_ok-packages.ensures.reads,
      c.in_ok-worlds-2.ensures.first,
      c.in_ok-worlds-2.ensures.second,
      c.in_ok-packages-2.ensures.first,
      c.in_ok-packages-2.ensures.second,
      first-map world_view (option_map (λ (id : PackageId). id.0)) ws,
      second-map world_view (option_map (λ (id : PackageId). id.0)) ws,
      first-map package_view world_entries ps,
      second-map package_view world_entries ps,
    ) refl
