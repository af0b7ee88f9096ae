-- Which sources lead to which owners of items.
use Rattle.std.specs.Prelude.{◌≡◌, ℕ, List, length, Option, Some}
use Rattle.std.specs.List.{slice_get}
use Rattle.wc_graph.specs.Reached.{IsPath}
use Rattle.wc_graph.specs.Positions.{AreAscending, IsAt}

-- a path leads from one item to another
abbrev pub HasPath : (ℕ → List ℕ) → ℕ → ℕ → Type 0
HasPath names x y = (path : List ℕ) × IsPath names x path y

-- the source at a position leads to an item of this owner
abbrev pub Leads : (ℕ → List ℕ) → List (Option ℕ) → List (Option ℕ) → ℕ → ℕ → Type 0
Leads names sources owners owner position = (x y : ℕ) × IsAt sources position x × IsAt owners y owner × HasPath names x y

-- for each owner the positions of the sources that lead there
pub record AreLeads (names : ℕ → List ℕ) (sources owners : List (Option ℕ)) (count : ℕ) (leads : List (List ℕ)) : Type 0 where
  pub each : length leads ≡ count
  pub at : (owner : ℕ) (positions : List ℕ) → slice_get leads owner ≡ Some positions → AreAscending (Leads names sources owners owner) positions
