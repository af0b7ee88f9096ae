-- The paths to what a component imports, from its main module and through its adapters, as lines.
use Rattle.std.specs.Prelude.{◌≡◌, ◌&&◌, ℕ, Bool, true, false, List, [], ◌∷◌, ◌++◌, codes, cond}
use Rattle.std.specs.List.{list_any}
use Rattle.wc_texts.specs.Escape.{escaped}
use Rattle.wc_why.specs.Keys.{asks_about}
use Rattle.wc_why.specs.Tree.{TreeView, TreeWayView}
use Rattle.wc_encoder.specs.EncoderParts.{world_imports}
use Rattle.wc_resolve.specs.Views.{ItemView, KeyView, interface_key, plain_key, type_item, function_item, interface_item}
use Rattle.wc_why_text.specs.TreeLines.{tree_lines}
use Rattle.wc_world.specs.Views.{ComponentWorldView}
use Rattle.wc_ways.specs.WaysTree.{IsWaysTree}

-- a key asks about a type that the world itself imports
abbrev pub is_type : ItemView → Bool
is_type (type_item t) = true
is_type (function_item f) = false
is_type (interface_item i external) = false

abbrev pub asks_about_key : List ℕ → KeyView → Bool
asks_about_key key (plain_key name) = asks_about key name
asks_about_key key (interface_key i) = false

abbrev pub is_asked_type : List ℕ → KeyView × ItemView → Bool
is_asked_type key x = is_type x.1 && asks_about_key key x.0

abbrev pub is_own_type : ComponentWorldView → List ℕ → Bool
is_own_type w key = list_any (is_asked_type key) (world_imports w.encoder)

-- where there is no path, what is said instead
abbrev pub none_text : ComponentWorldView → List ℕ → List ℕ
none_text w key = escaped key ++ cond (is_own_type w key) (codes ": imported by the world itself\n") (codes ": in the world but not imported\n")

abbrev pub ways_text : ComponentWorldView → List ℕ → TreeView → List TreeWayView → List ℕ
ways_text w key t [] = none_text w key
ways_text w key t (way ∷ ways) = tree_lines true t

abbrev pub IsWaysText : ComponentWorldView → List ℕ → List ℕ → Type 0
IsWaysText w key text = (t : TreeView) × IsWaysTree w key t × (text ≡ ways_text w key t t.ways)
