-- Words of labels as the code makes them.
use Rattle.std.specs.Prelude.{◌≡◌, ◌↔◌, ◌⊎◌, ℕ, ◌+◌, ◌<◌, List, Contains, length, Option, Some}
use Rattle.std.specs.Int.{bit_at}
use Rattle.std.specs.List.{slice_get}
use Rattle.wc_graph.specs.Labels.{HasLabel}
use Rattle.wc_graph.specs.Positions.{IsAt}

-- the labels of a word were added to those of an item, if there is one
pub record IsJoined (item : Option ℕ) (word : ℕ) (old new : List ℕ) : Type 0 where
  pub sized : length new ≡ length old
  pub joined : (x label : ℕ) → HasLabel new x label ↔ (HasLabel old x label ⊎ ((item ≡ Some x) × (bit_at word label ≡ 1)))

-- the items of the sources from a position on have their labels
pub record AreLabelsAt (sources : List (Option ℕ)) (start size : ℕ) (labels : List ℕ) : Type 0 where
  pub sized : length labels ≡ size
  pub labelled : (x label : ℕ) → label < 64 → HasLabel labels x label ↔ IsAt sources (start + label) x

-- an owner has the labels of its items
pub record AreGathered (words : List ℕ) (owners : List (Option ℕ)) (count : ℕ) (gathered : List ℕ) : Type 0 where
  pub sized : length gathered ≡ count
  pub labelled : (u label : ℕ) → HasLabel gathered u label ↔ ((y : ℕ) × IsAt owners y u × HasLabel words y label)

-- the items of sources at some positions were labelled
pub record AreLabelsOf (sources : List (Option ℕ)) (positions : List ℕ) (bit : ℕ) (old new : List ℕ) : Type 0 where
  pub sized : length new ≡ length old
  pub labelled : (x label : ℕ) → HasLabel new x label ↔ (HasLabel old x label ⊎ ((label ≡ bit) × (p : ℕ) × Contains positions p × IsAt sources p x))

-- the labels of sets from a position on are at the items of their sources
abbrev pub IsInSet : List (Option ℕ) → List (List ℕ) → ℕ → ℕ → Type 0
IsInSet sources sets u x = (ps : List ℕ) × (p : ℕ) × (slice_get sets u ≡ Some ps) × Contains ps p × IsAt sources p x

pub record AreSetLabels (sources : List (Option ℕ)) (sets : List (List ℕ)) (start size : ℕ) (labels : List ℕ) : Type 0 where
  pub sized : length labels ≡ size
  pub labelled : (x label : ℕ) → HasLabel labels x label ↔ ((label < 63) × IsInSet sources sets (start + label) x)

-- the items of sources have the labels that they had not
pub record AreOthers (sources : List (Option ℕ)) (labels others : List ℕ) : Type 0 where
  pub sized : length others ≡ length labels
  pub labelled : (x label : ℕ) → label < 64 → HasLabel others x label ↔ (((p : ℕ) × IsAt sources p x) × ¬ (HasLabel labels x label))
