-- Items of a module by their numbers, as the code has them.
use Rattle.std.specs.Prelude.{◌≡◌, ◌⊎◌, ◌≢◌, ℕ, Bool, cond, List, [], ◌∷◌, length, Option, Some, None}
use Rattle.std.specs.Borrow.{Bor}
use Rattle.std.specs.Map.{lookup}
use Rattle.std.specs.Option.{option_map, option_or}
use Rattle.std.specs.Str.{bytes_eq}
use Rattle.wc_gc.specs.LiveChains.{item_named}
use Rattle.wc_paths.specs.Items.{GraphValue, counts_of, space_item}
use Rattle.wc_paths.specs.Roots.{export_item}
use Rattle.wc_paths.specs.declared.items.PathItem.{PathItem}
use Rattle.wc_read.specs.Exports.{ExportValue}
use Rattle.wc_read.specs.Items.{DefValue, imported, local}
use Rattle.wc_graph.specs.Positions.{IsAt}
use Rattle.wc_summary.specs.Leads.{source_by}

-- the place of an item was noted
pub record IsOwned (item place : Option ℕ) (old new : List (Option ℕ)) : Type 0 where
  pub sized : length new ≡ length old
  pub at : (n u : ℕ) → IsAt new n u → (IsAt old n u ⊎ ((item ≡ Some n) × (place ≡ Some u)))
  pub noted : (n u : ℕ) → item ≡ Some n → place ≡ Some u → IsAt new n u
  pub kept : (n u : ℕ) → IsAt old n u → item ≢ Some n → IsAt new n u

abbrev pub source_in : GraphValue → List ℕ → Option ℕ
source_in g name = source_by (counts_of g) g.code.exports name

-- items by the names of exports
abbrev pub Named : Type 0
Named = List (Bor (List ℕ) × PathItem)

abbrev pub is_name : Bor (List ℕ) → Bor (List ℕ) → Bool
is_name name k = bytes_eq name.now k.now

abbrev pub HasNamed : List ExportValue → Named → Type 0
HasNamed exports named = (name : Bor (List ℕ)) → lookup (is_name name) named ≡ option_map space_item (item_named exports name.now)

abbrev pub AddsNamed : ExportValue → Named → Named → Type 0
AddsNamed e old new = (name : Bor (List ℕ)) → lookup (is_name name) new ≡ option_or (lookup (is_name name) old) (cond (bytes_eq name.now e.name) (Some (export_item e)) None)

-- a function as an item, with the length of its body, if it is the module's own
abbrev pub sized_in : ℕ → DefValue (List ℕ) → List (ℕ × ℕ)
sized_in number (imported from name) = []
sized_in number (local body) = (number, length body) ∷ []
