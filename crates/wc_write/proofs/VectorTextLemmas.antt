-- Items and vectors are spelled by their texts, and by no shorter bytes.
use Rattle.std.proofs.Common.{ℕ, ◌^◌, ◌<◌, ◌≤◌, List, [], ◌∷◌, ◌++◌, length, refl, arith}
use Rattle.std.specs.Prelude.{All}
use Rattle.std.specs.List.{flat_map}
use Rattle.std.proofs.lemmas.List.{length-append}
use Rattle.std.proofs.lemmas.List.Elements.{All-nil, All-cons, All-head, All-tail}
use Rattle.wc_read.specs.Formats.{Format, SpellsItems, SpellsVector}
use Rattle.wc_write.specs.Text.{number_text, vector_text}
use Rattle.wc_write.specs.Values.{AreBytes}
use Rattle.wc_write.proofs.ByteLemmas.{front_bytes, back_bytes}
use Rattle.wc_write.proofs.NumberTextLemmas.{number_shortest}
use Rattle.wc_write.proofs.TextLemmas.{number_32}
use Rattle.wc_write.proofs.ShortestTextLemmas.{joined}

-- no part of a list is longer than the list
pub front_shorter : (a b : List ℕ) (n : ℕ) → length (a ++ b) < n → length a < n
front_shorter a b n short = omega (arith, length-append a b)

pub back_shorter : (a b : List ℕ) (n : ℕ) → length (a ++ b) < n → length b < n
back_shorter a b n short = omega (arith, length-append a b)

module _ {A : Type 0} (Spells : Format A) (text : A → List ℕ) where
  -- an item may be spelled by its text only where that is short, as all the texts together are
  pub items_spelled : (Can : A → Type 0) → ((x : A) → Can x → length (text x) < 2 ^ 32 → Spells (text x) x) → (xs : List A) → All Can xs → length (flat_map text xs) < 2 ^ 32 → SpellsItems Spells (flat_map text xs) xs
  items_spelled Can spells [] all short = refl
  items_spelled Can spells (x ∷ xs) all short = (
    text x,
    flat_map text xs,
    refl,
    spells x (All-head Can x xs all) (front_shorter (text x) (flat_map text xs) _ short),
    items_spelled Can spells xs (All-tail Can x xs all) (back_shorter (text x) (flat_map text xs) _ short),
  )

  -- items whose texts have bytes are no more than those bytes
  items_count : ((x : A) → 0 < length (text x)) → (xs : List A) → length xs ≤ length (flat_map text xs)
  items_count some [] = omega arith
  items_count some (x ∷ xs) = omega (arith, some x, items_count some xs, length-append (text x) (flat_map text xs))

  pub vector_spelled : (Can : A → Type 0) → ((x : A) → Can x → length (text x) < 2 ^ 32 → Spells (text x) x) → ((x : A) → 0 < length (text x)) → (xs : List A) → All Can xs → length (vector_text text xs) < 2 ^ 32 → SpellsVector Spells (vector_text text xs) xs
  vector_spelled Can spells some xs all short =
      let items = back_shorter (number_text (length xs)) (flat_map text xs) _ short in
      (number_text (length xs), flat_map text xs, refl, number_32 (length xs) (omega (arith, items_count some xs, items)), items_spelled Can spells xs all items)

  pub items_are : (Can : A → Type 0) → ((bytes : List ℕ) (x : A) → Spells bytes x → AreBytes bytes → Can x) → (bytes : List ℕ) (xs : List A) → SpellsItems Spells bytes xs → AreBytes bytes → All Can xs
  items_are Can can bytes [] s all = All-nil Can
  items_are Can can bytes (x ∷ xs) s all =
      let cut = rw s.2 at all in
      All-cons Can x xs (can s.0 x s.3 (front_bytes s.0 s.1 cut)) (items_are Can can s.1 xs s.4 (back_bytes s.0 s.1 cut))

  pub items_shortest : ((bytes : List ℕ) (x : A) → Spells bytes x → AreBytes bytes → length (text x) ≤ length bytes) → (bytes : List ℕ) (xs : List A) → SpellsItems Spells bytes xs → AreBytes bytes → length (flat_map text xs) ≤ length bytes
  items_shortest short bytes [] s all = omega arith
  items_shortest short bytes (x ∷ xs) s all =
      let cut = rw s.2 at all in
      rw s.2 (joined (text x) (flat_map text xs) s.0 s.1 (short s.0 x s.3 (front_bytes s.0 s.1 cut)) (items_shortest short s.1 xs s.4 (back_bytes s.0 s.1 cut)))

  pub vector_shortest : ((bytes : List ℕ) (x : A) → Spells bytes x → AreBytes bytes → length (text x) ≤ length bytes) → (bytes : List ℕ) (xs : List A) → SpellsVector Spells bytes xs → AreBytes bytes → length (vector_text text xs) ≤ length bytes
  vector_shortest short bytes xs s all =
      let cut = rw s.2 at all in
      rw s.2 (joined (number_text (length xs)) (flat_map text xs) s.0 s.1 (number_shortest 9 s.3 (front_bytes s.0 s.1 cut)) (items_shortest short s.1 xs s.4 (back_bytes s.0 s.1 cut)))
