-- The items that a search begins with, and the names that they are exported by.
use Rattle.std.specs.Prelude.{◌≡◌, ℕ, List, [], ◌∷◌, ◌++◌, length, Some, true, false, ◌⊎◌}
use Rattle.std.specs.List.{slice_get}
use Rattle.std.specs.Borrow.{Bor}
use Rattle.wc_read.specs.Exports.{ExportValue}
use Rattle.wc_gc.specs.Bits.{bit_of}
use Rattle.wc_read.specs.Decoded.{ItemIndex}
use Rattle.wc_gc.specs.LiveChains.{IsFirstName}
use Rattle.wc_gc.specs.Private.Search.{FindsItems, finds}
use Rattle.wc_gc.specs.declared.finders.Roots.{Roots}
use Rattle.wc_gc.specs.declared.live.BitVec.{BitVec}

-- each thing has the first of the names that it is exported by
pub record HaveFirstNames (required : List (List ℕ)) (exports : List ExportValue) (order : List ItemIndex) (names : List (Bor (List ℕ))) : Type 0 where
  pub sized : length names ≡ length order
  pub each : (k : ℕ) (x : ItemIndex) (name : Bor (List ℕ)) → slice_get order k ≡ Some x → slice_get names k ≡ Some name
      → IsFirstName required exports x name.now

abbrev pub AreNamedRoots : List (List ℕ) → List ExportValue → Roots → Type 0
AreNamedRoots required exports r = HaveFirstNames required exports r.search.order.items r.exports.items

-- one item was found: it was there before, or it is put after the others with its name
abbrev pub IsAddedRoot : Roots → Roots → ItemIndex → Bor (List ℕ) → Type 0
IsAddedRoot old new x name =
    ((finds (λ (b : BitVec). bit_of b.words.items) old.search x ≡ true) × (new.search.order.items ≡ old.search.order.items) × (new.exports.items ≡ old.exports.items))
    ⊎ ((finds (λ (b : BitVec). bit_of b.words.items) old.search x ≡ false) × (new.search.order.items ≡ old.search.order.items ++ x ∷ []) × (new.exports.items ≡ old.exports.items ++ name ∷ []))

pub record FindsRoot (old new : Roots) (x : ItemIndex) (name : Bor (List ℕ)) : Type 0 where
  pub found : FindsItems (λ (b : BitVec). bit_of b.words.items) old.search new.search (x ∷ [])
  pub added : IsAddedRoot old new x name
