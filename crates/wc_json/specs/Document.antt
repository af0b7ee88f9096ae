-- What a whole text is read as.
use Rattle.std.specs.Prelude.{ℕ, List, map, Option, Ok, codes}
use Rattle.std.specs.Option.{option_map}
use Rattle.json.specs.Json.{Json}
use Rattle.wc_resolve.specs.Kinds.{ResolveView}
use Rattle.wc_resolve.specs.ResolveParts.{parts_view}
use Rattle.wc_resolve.specs.declared.ids.PackageId.{PackageId}
use Rattle.wc_json.specs.Fault.{Reading, ◌>>=◌}
use Rattle.wc_json.specs.FromJson.{IsCauseOf, IsReadFrom, list}
use Rattle.wc_json.specs.Interfaces.{interface}
use Rattle.wc_json.specs.Members.{required_member}
use Rattle.wc_json.specs.Packages.{package_and_worlds, world_entries}
use Rattle.wc_json.specs.Types.{defined_type}
use Rattle.wc_json.specs.Worlds.{world}
use Rattle.wc_json.specs.declared.document.Document.{Document}
use Rattle.wc_json.specs.declared.fault.JsonFault.{JsonFault}

-- the parts, the package of each world, and the worlds of each package by their names
pub record DocumentView : Type 0 where
  pub parts : ResolveView
  pub world_packages : List (Option ℕ)
  pub package_worlds : List (List (List ℕ × ℕ))

abbrev pub document_view : Document → DocumentView
document_view d = record {
  parts = parts_view d.parts;
  world_packages = map (option_map (λ (id : PackageId). id.0)) d.world_packages.items;
  package_worlds = map world_entries d.package_worlds.items;
}

abbrev pub document_of : Json → Reading DocumentView
document_of j = do
  worlds ← required_member (codes "worlds") (list world) j
  interfaces ← required_member (codes "interfaces") (list interface) j
  types ← required_member (codes "types") (list defined_type) j
  packages ← required_member (codes "packages") (list package_and_worlds) j
  Ok (record {
    parts = record { worlds = map (λ w. w.0) worlds; interfaces = interfaces; types = types; packages = map (λ p. p.0) packages };
    world_packages = map (λ w. w.1) worlds;
    package_worlds = map (λ p. p.1) packages;
  })

-- the text's value has no object that repeats a member, and is read as this document
abbrev pub IsDocument : Option Json → Document → Type 0
IsDocument = IsReadFrom document_view document_of

-- memory ran out; or the text is not JSON; or its value has an object that repeats a member; or the value is without
-- these, and this is its first fault
abbrev pub IsJsonCause : Option Json → JsonFault → Type 0
IsJsonCause = IsCauseOf document_of
