-- Blocks of 64 sources, and of 63 sets, as the code goes through them.
use Rattle.std.specs.Prelude.{◌≡◌, ◌↔◌, ℕ, ◌+◌, ◌*◌, ◌/◌, ◌%◌, ◌<◌, ◌==◌, Bool, false, List, length, Option, Some}
use Rattle.std.specs.Int.{bit_at}
use Rattle.std.specs.List.{slice_get}
use Rattle.std.specs.Option.{option_and_then, option_map_or}
use Rattle.wc_graph.specs.Labels.{HasLabel}
use Rattle.wc_graph.specs.Leads.{Leads}

-- the words of owners: which of 64 sources lead to each
pub record IsBlock (names : ℕ → List ℕ) (sources owners : List (Option ℕ)) (count start : ℕ) (words : List ℕ) : Type 0 where
  pub sized : length words ≡ count
  pub labelled : (owner label : ℕ) → label < 64 → HasLabel words owner label ↔ Leads names sources owners owner (start + label)

pub record AreBlocksTo (names : ℕ → List ℕ) (sources owners : List (Option ℕ)) (count next : ℕ) (blocks : List (List ℕ)) : Type 0 where
  pub each : length blocks ≡ next
  pub at : (b : ℕ) (words : List ℕ) → slice_get blocks b ≡ Some words → IsBlock names sources owners count (b * 64) words

abbrev pub AreBlocks : (ℕ → List ℕ) → List (Option ℕ) → List (Option ℕ) → ℕ → List (List ℕ) → Type 0
AreBlocks names sources owners count blocks = AreBlocksTo names sources owners count (length sources / 64 + 1) blocks

-- a source leads to an owner, by the blocks
abbrev pub word_at : List (List ℕ) → ℕ → ℕ → Option ℕ
word_at blocks owner position = option_and_then (λ (words : List ℕ). slice_get words owner) (slice_get blocks (position / 64))

abbrev pub is_led : List (List ℕ) → ℕ → ℕ → Bool
is_led blocks owner position = option_map_or (λ (word : ℕ). bit_at word (position % 64) == 1) (word_at blocks owner position) false
