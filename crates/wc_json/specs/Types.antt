-- How defined types are read.
use Rattle.std.specs.Prelude.{ℕ, List, Ok, cond, codes}
use Rattle.std.specs.Option.{unwrap_or}
use Rattle.std.specs.Str.{bytes_eq}
use Rattle.json.specs.Json.{Json}
use Rattle.wc_resolve.specs.Views.{TypeView}
use Rattle.wc_resolve.specs.declared.types.TypeOwner.{TypeOwner}
use Rattle.wc_resolve.specs.declared.types.TypeOwner.TheVariants.{World, Interface, None as no_owner}
use Rattle.wc_json.specs.Fault.{Reading, refusal, ◌>>=◌}
use Rattle.wc_json.specs.FromJson.{text}
use Rattle.wc_json.specs.Ids.{index}
use Rattle.wc_json.specs.Kinds.{kind}
use Rattle.wc_json.specs.Members.{only_member, required_member, optional_member}
use Rattle.wc_json.specs.Paths.{at_step, variant_step}
use Rattle.wc_json.specs.declared.fault.Problem.TheVariants.{Unknown}

abbrev pub world_owner : Json → Reading TypeOwner
world_owner j = do
  n ← index j
  Ok (World (record { 0 = n }))

abbrev pub interface_owner : Json → Reading TypeOwner
interface_owner j = do
  n ← index j
  Ok (Interface (record { 0 = n }))

abbrev pub owner_of : List ℕ → Json → Reading TypeOwner
owner_of name j =
    cond (bytes_eq name (codes "world")) (world_owner j)
    (cond (bytes_eq name (codes "interface")) (interface_owner j)
    (refusal Unknown))

abbrev pub owner : Json → Reading TypeOwner
owner j = do
  m ← only_member j
  at_step (variant_step m.0) (owner_of m.0 m.1)

abbrev pub defined_type : Json → Reading TypeView
defined_type j = do
  name ← optional_member (codes "name") text j
  k ← required_member (codes "kind") kind j
  o ← optional_member (codes "owner") owner j
  Ok (record { name = name; kind = k; owner = unwrap_or o no_owner })
