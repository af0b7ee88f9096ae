-- Runs over 63 sets, as the code goes through them.
use Rattle.std.specs.Prelude.{◌≡◌, ℕ, ◌+◌, ◌-◌, ◌^◌, ◌<◌, ◌⊎◌, ◌==◌, min, Bool, ◌&&◌, not, false, List, filter, length, Some}
use Rattle.std.specs.Int.{bit_at}
use Rattle.std.specs.List.{slice_get, sum_by}
use Rattle.std.specs.Option.{option_map_or}
use Rattle.wc_graph.specs.declared.alone.Alone.{Alone}

-- an item has the label that all sources outside of any set have, and not this one
abbrev pub is_alone : List ℕ → ℕ → ℕ → Bool
is_alone words bit item = option_map_or (λ (word : ℕ). (bit_at word 63 == 1) && not (bit_at word bit == 1)) (slice_get words item) false

abbrev pub alone_among : List ℕ → ℕ → List (ℕ × ℕ) → List (ℕ × ℕ)
alone_among words bit items = filter (λ (i : ℕ × ℕ). is_alone words bit i.0) items

abbrev pub IsAloneBy : List ℕ → List (ℕ × ℕ) → ℕ → Alone → Type 0
IsAloneBy words items bit a =
    (a.items ≡ length (alone_among words bit items)) × (a.size ≡ min (sum_by (λ (i : ℕ × ℕ). i.1) (alone_among words bit items)) (2 ^ 64 - 1))

-- some more were appended, by the labels of one run
pub record AreAppended (words : List ℕ) (items : List (ℕ × ℕ)) (next : ℕ) (old new : List Alone) : Type 0 where
  pub each : length new ≡ next
  pub at : (u : ℕ) (a : Alone) → slice_get new u ≡ Some a
      → (slice_get old u ≡ Some a) ⊎ ((bit : ℕ) × (bit < 63) × (u ≡ length old + bit) × IsAloneBy words items bit a)
