-- The loop that writes items.
use Rattle.std.proofs.Common.{◌≡◌, ℕ, ◌≤◌, List, ◌++◌, length, take, refl, ◌∙◌}
use Rattle.std.specs.List.{flat_map}
use Rattle.std.proofs.lemmas.List.{take_all}

-- all of the items are written
pub items_end : {A : Type 0} (text : A → List ℕ) (old out : List ℕ) (items : List A) (n : ℕ) → out ≡ old ++ flat_map text (take n items) → length items ≤ n → out ≡ old ++ flat_map text items
items_end text old out items n e all = e ∙ rw (take_all n items all) refl
