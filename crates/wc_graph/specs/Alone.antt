-- What is reached from sources of a set alone.
use Rattle.std.specs.Prelude.{◌≡◌, ◌↔◌, ℕ, ◌-◌, ◌^◌, min, Bool, true, List, Contains, filter, length, Option, Some}
use Rattle.std.specs.List.{slice_get, sum_by}
use Rattle.wc_graph.specs.Leads.{HasPath}
use Rattle.wc_graph.specs.Positions.{IsAt}
use Rattle.wc_graph.specs.declared.alone.Alone.{Alone}

-- an item is reached from sources, but from no item that is none of these
pub record IsAlone (names : ℕ → List ℕ) (sources : List (Option ℕ)) (positions : List ℕ) (x : ℕ) : Type 0 where
  pub reached : (p y : ℕ) × IsAt sources p y × HasPath names y x
  pub alone : (p y : ℕ) → IsAt sources p y → HasPath names y x → (q : ℕ) × Contains positions q × IsAt sources q y

-- exactly these of some things, in their order
abbrev pub ArePicked : {X : Type 0} → (X → Type 0) → List X → List X → Type 0
ArePicked {X} Is xs picked = (test : X → Bool) × ((x : X) → Contains xs x → (test x ≡ true) ↔ Is x) × (picked ≡ filter test xs)

-- how many of some items are, each with its size, and their size, as far as a number of 64 bits counts
pub record AreCounted (names : ℕ → List ℕ) (sources : List (Option ℕ)) (all : List (ℕ × ℕ)) (positions : List ℕ) (a : Alone) : Type 0 where
  pub picked : List (ℕ × ℕ)
  pub are_picked : ArePicked (λ (i : ℕ × ℕ). IsAlone names sources positions i.0) all picked
  pub items : a.items ≡ length picked
  pub size : a.size ≡ min (sum_by (λ (i : ℕ × ℕ). i.1) picked) (2 ^ 64 - 1)

pub record AreAlone (names : ℕ → List ℕ) (sources : List (Option ℕ)) (items : List (ℕ × ℕ)) (sets : List (List ℕ)) (found : List Alone) : Type 0 where
  pub each : length found ≡ length sets
  pub at : (u : ℕ) (positions : List ℕ) (a : Alone) → slice_get sets u ≡ Some positions → slice_get found u ≡ Some a → AreCounted names sources items positions a
