-- How interfaces are read.
use Rattle.std.specs.Prelude.{Ok, codes}
use Rattle.json.specs.Json.{Json}
use Rattle.wc_resolve.specs.Views.{InterfaceView}
use Rattle.wc_json.specs.Fault.{Reading, ◌>>=◌}
use Rattle.wc_json.specs.FromJson.{text}
use Rattle.wc_json.specs.Functions.{function}
use Rattle.wc_json.specs.Ids.{index}
use Rattle.wc_json.specs.Maps.{name_map}
use Rattle.wc_json.specs.Members.{required_member, optional_member}

abbrev pub interface : Json → Reading InterfaceView
interface j = do
  name ← optional_member (codes "name") text j
  types ← required_member (codes "types") (name_map index) j
  functions ← required_member (codes "functions") (name_map function) j
  in_package ← optional_member (codes "package") index j
  clone_of ← optional_member (codes "clone_of") index j
  Ok (record { name = name; types = types; functions = functions; in_package = in_package; clone_of = clone_of })
