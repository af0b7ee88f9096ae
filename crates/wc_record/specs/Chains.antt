-- The chains by which required exports of an adapter reach its imports, as JSON: the tree that all of them are in.
use Rattle.std.specs.Prelude.{ℕ, List, [], ◌∷◌, map, codes}
use Rattle.std.specs.Borrow.{Bor}
use Rattle.json.specs.Json.{Json, string}
use Rattle.wc_read.specs.Decoded.{ItemIndex}
use Rattle.wc_gc.specs.declared.import_chains.ImportChains.{ImportChains}
use Rattle.wc_texts.specs.Shapes.{array_of, nullable_json, number_json, object_of}
use Rattle.wc_read.specs.declared.operators.Space.{Space}
use Rattle.wc_read.specs.declared.operators.Space.TheVariants.{Types, Funcs, Tables, Memories, Globals}

abbrev pub space_text : Space → List ℕ
space_text Types = codes "type"
space_text Funcs = codes "func"
space_text Tables = codes "table"
space_text Memories = codes "memory"
space_text Globals = codes "global"

abbrev pub space_json : Space → Json
space_json s = string (space_text s)

-- an item by its space and its index
abbrev pub item_json : ItemIndex → Json
item_json x = object_of ((codes "space", space_json x.0) ∷ (codes "index", number_json x.1) ∷ [])

abbrev pub name_json : Bor (List ℕ) → Json
name_json name = string name.now

-- the items in order, the position of each one's finder, the names of the exports that the first items have, and of each import
-- the position of its item, or null
abbrev pub chains_json : ImportChains → Json
chains_json c =
    object_of (
    (codes "items", array_of (map item_json c.order.items)) ∷ (codes "finders", array_of (map number_json c.finder.items))
    ∷ (codes "exports", array_of (map name_json c.exports.items))
    ∷ (codes "imports", array_of (map (nullable_json number_json) c.imports.items)) ∷ []
    )
