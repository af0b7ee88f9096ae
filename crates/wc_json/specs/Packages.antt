-- How packages and their names are read.
use Rattle.std.specs.Prelude.{ℕ, List, map, Option, Some, None, Result, Ok, Err, codes, String, string_bytes}
use Rattle.std.specs.declared.alloc.Global.{Global}
use Rattle.indexmap.specs.IndexMap.{IndexMap}
use Rattle.json.specs.Json.{Json, string}
use Rattle.semver.specs.Parse.{Parts, version_parts}
use Rattle.semver.specs.declared.error.Error.{Error}
use Rattle.wc_texts.specs.Splits.{split_once}
use Rattle.wc_resolve.specs.Views.{PackageNameView, PackageView}
use Rattle.wc_resolve.specs.declared.ids.WorldId.{WorldId}
use Rattle.wc_json.specs.Fault.{Reading, refusal, ◌>>=◌}
use Rattle.wc_json.specs.Ids.{index}
use Rattle.wc_json.specs.Maps.{name_map}
use Rattle.wc_json.specs.Members.{required_member}
use Rattle.wc_json.specs.declared.fault.Problem.TheVariants.{NotAPackageName, NotAText}

abbrev pub parts_or_refusal : Result Parts Error → Reading Parts
parts_or_refusal (Ok parts) = Ok parts
parts_or_refusal (Err e) = refusal NotAPackageName

-- a version, as `semver` reads it
abbrev pub version : List ℕ → Reading Parts
version text = parts_or_refusal (version_parts text)

-- the name of a package of this namespace, from what is after the colon, whole or cut at the first `@`
abbrev pub name_in_namespace : List ℕ → List ℕ → Option (List ℕ × List ℕ) → Reading PackageNameView
name_in_namespace namespace rest None = Ok (record { namespace = namespace; name = rest; version = None })
name_in_namespace namespace rest (Some p) = do
  v ← version p.1
  Ok (record { namespace = namespace; name = p.0; version = Some v })

-- 64 is `@`
abbrev pub name_from_parts : Option (List ℕ × List ℕ) → Reading PackageNameView
name_from_parts None = refusal NotAPackageName
name_from_parts (Some p) = name_in_namespace p.0 p.1 (split_once 64 p.1)

-- `namespace:name` or `namespace:name@version`; 58 is the colon
abbrev pub package_name : List ℕ → Reading PackageNameView
package_name text = name_from_parts (split_once 58 text)

abbrev pub package_name_in : Json → Reading PackageNameView
package_name_in (string s) = package_name s
package_name_in j = refusal NotAText

abbrev pub world_entries : {S : Type 0} → IndexMap (String Global) WorldId S → List (List ℕ × ℕ)
world_entries m = map (λ e. (string_bytes e.0, e.1.0)) m.entries

-- a package, and its worlds by their names
abbrev pub package_and_worlds : Json → Reading (PackageView × List (List ℕ × ℕ))
package_and_worlds j = do
  name ← required_member (codes "name") package_name_in j
  interfaces ← required_member (codes "interfaces") (name_map index) j
  worlds ← required_member (codes "worlds") (name_map index) j
  Ok (record { name = name; interfaces = interfaces }, worlds)
