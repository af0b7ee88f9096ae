-- How worlds are read.
use Rattle.std.specs.Prelude.{ℕ, List, Option, None, Ok, cond, codes}
use Rattle.std.specs.Option.{option_map}
use Rattle.std.specs.Str.{bytes_eq}
use Rattle.json.specs.Json.{Json, object}
use Rattle.wc_resolve.specs.Views.{KeyView, ItemView, interface_item, function_item, type_item, WorldView, world_view}
use Rattle.wc_resolve.specs.declared.ids.PackageId.{PackageId}
use Rattle.wc_resolve.specs.declared.worlds.World.{World}
use Rattle.wc_resolve.proofs.KeyLemmas.{key_view_eq}
use Rattle.wc_json.specs.Fault.{Reading, refusal, ◌>>=◌}
use Rattle.wc_json.specs.FromJson.{text}
use Rattle.wc_json.specs.Functions.{function}
use Rattle.wc_json.specs.Ids.{index}
use Rattle.wc_json.specs.Keys.{item_key}
use Rattle.wc_json.specs.Maps.{entries}
use Rattle.wc_json.specs.Members.{only_member, required_member, optional_member}
use Rattle.wc_json.specs.Paths.{at_step, variant_step}
use Rattle.wc_json.specs.declared.fault.Problem.TheVariants.{Unknown}

abbrev pub interface_by_id : Json → Reading ItemView
interface_by_id j = do
  n ← index j
  Ok (interface_item n None)

abbrev pub interface_by_member : Json → Reading ItemView
interface_by_member j = do
  n ← required_member (codes "id") index j
  external_id ← optional_member (codes "external_id") text j
  Ok (interface_item n external_id)

-- an interface as an item: its id, alone or as a member of an object
abbrev pub interface_item_of : Json → Reading ItemView
interface_item_of (object ms) = interface_by_member (object ms)
interface_item_of j = interface_by_id j

abbrev pub type_by_id : Json → Reading ItemView
type_by_id j = do
  n ← index j
  Ok (type_item n)

abbrev pub type_by_member : Json → Reading ItemView
type_by_member j = do
  n ← required_member (codes "id") index j
  Ok (type_item n)

-- a type as an item: its id, alone or as a member of an object
abbrev pub type_item_of : Json → Reading ItemView
type_item_of (object ms) = type_by_member (object ms)
type_item_of j = type_by_id j

-- the item of this kind, made of what the value has
abbrev pub item_of : List ℕ → Json → Reading ItemView
item_of name j =
    cond (bytes_eq name (codes "interface")) (interface_item_of j)
    (cond (bytes_eq name (codes "function")) (function j >>= (λ f. Ok (function_item f)))
    (cond (bytes_eq name (codes "type")) (type_item_of j)
    (refusal Unknown)))

abbrev pub item : Json → Reading ItemView
item j = do
  m ← only_member j
  at_step (variant_step m.0) (item_of m.0 m.1)

-- what a world imports or exports, by its keys
abbrev pub items : Json → Reading (List (KeyView × ItemView))
items j = entries key_view_eq item_key item j

-- a world, and the package that it says to be of
abbrev pub world_and_package_view : World × Option PackageId → WorldView × Option ℕ
world_and_package_view p = (world_view p.0, option_map (λ (id : PackageId). id.0) p.1)

abbrev pub world : Json → Reading (WorldView × Option ℕ)
world j = do
  name ← required_member (codes "name") text j
  imports ← required_member (codes "imports") items j
  exports ← required_member (codes "exports") items j
  in_package ← optional_member (codes "package") index j
  Ok (record { name = name; imports = imports; exports = exports }, in_package)
