-- What is noted of each interface that is listed, in the order in which they are.
use Rattle.std.proofs.Common.{◌≡◌, ◌<◌, ◌↔◌, ℕ, zero, suc, Bool, true, false, not, List, [], ◌∷◌, length, map, Contains, filter, slice_index_or, refl, sym, ◌∙◌, ap, subst, inl, inr, arith}
use Rattle.std.proofs.lemmas.Bool.{cases_Bool}
use Rattle.std.proofs.lemmas.List.Sorted.{Contains-permutation, IsPermutation-map, IsPermutation-sym}
use Rattle.std.proofs.lemmas.Slice.Eq.{bytes_eq-Decides}
use Rattle.std.specs.List.{AllByRecursion}
use Rattle.std.specs.Str.{bytes_eq}
use Rattle.wc_texts.specs.Names.{first_occurrences}
use Rattle.wc_summary.specs.Entries.{EntriesView, IsSorted, interfaces_of, parts_of}
use Rattle.wc_summary.specs.Summary.{EntryView}

-- ---- no interface is listed twice

abbrev Apart : List (List ℕ) → Type 0
Apart [] = Unit {0}
Apart (x ∷ xs) = AllByRecursion (λ y. bytes_eq x y ≡ false) xs × Apart xs

others_differ : (x : List ℕ) (xs : List (List ℕ)) → AllByRecursion (λ y. bytes_eq x y ≡ false) (filter (λ other. not (bytes_eq x other)) xs)
others_differ x [] = tt
others_differ x (y ∷ ys) = elim (cases_Bool (bytes_eq x y)) [
  | inl on ↦ rw on (others_differ x ys)
  | inr off ↦ rw off (off, others_differ x ys)
]

all_filtered : (P : List ℕ → Type 0) (p : List ℕ → Bool) (xs : List (List ℕ)) → AllByRecursion P xs → AllByRecursion P (filter p xs)
all_filtered P p [] h = tt
all_filtered P p (x ∷ xs) h = elim (cases_Bool (p x)) [
  | inl on ↦ rw on (h.0, all_filtered P p xs h.1)
  | inr off ↦ rw off (all_filtered P p xs h.1)
]

apart_filtered : (p : List ℕ → Bool) (xs : List (List ℕ)) → Apart xs → Apart (filter p xs)
apart_filtered p [] h = tt
apart_filtered p (x ∷ xs) h = elim (cases_Bool (p x)) [
  | inl on ↦ rw on (all_filtered (λ y. bytes_eq x y ≡ false) p xs h.0, apart_filtered p xs h.1)
  | inr off ↦ rw off (apart_filtered p xs h.1)
]

first_apart : (names : List (List ℕ)) → Apart (first_occurrences names)
first_apart [] = tt
first_apart (x ∷ names) =
    (others_differ x (first_occurrences names), apart_filtered (λ other. not (bytes_eq x other)) (first_occurrences names) (first_apart names))

other : (x y : List ℕ) (b : Bool) → bytes_eq y x ≡ b → bytes_eq x y ≡ false → bytes_eq y x ≡ false
other x y false e apart = e
other x y true e apart = absurd (let bad : true ≡ false = sym ((bytes_eq-Decides x y).1 (sym ((bytes_eq-Decides y x).0 e))) ∙ apart in cc bad)

other_name : (x : List ℕ) (es : EntriesView) (e : EntryView) (k : ℕ) → AllByRecursion (λ y. bytes_eq x y ≡ false) (interfaces_of es) → k < length es
    → slice_index_or es k e ≡ e → bytes_eq e.0 x ≡ false
other_name x [] e k apart within at = absurd (omega arith)
other_name x (y ∷ es) e zero apart within at = other x e.0 (bytes_eq e.0 x) refl (ap (λ (z : EntryView). bytes_eq x z.0) (sym at) ∙ apart.0)
other_name x (y ∷ es) e (suc k) apart within at = other_name x es e k apart.1 (omega arith) at

part_at : (es : EntriesView) (e : EntryView) (k : ℕ) → Apart (interfaces_of es) → k < length es → slice_index_or es k e ≡ e → parts_of es e.0 ≡ e.1
part_at [] e k apart within at = absurd (omega arith)
part_at (x ∷ es) e zero apart within at =
    let same : bytes_eq e.0 x.0 ≡ true = (bytes_eq-Decides e.0 x.0).1 (sym (ap (λ (z : EntryView). z.0) at)) in
    rw same (ap (λ (z : EntryView). z.1) at)
part_at (x ∷ es) e (suc k) apart within at =
    let off : bytes_eq e.0 x.0 ≡ false = other_name x.0 es e k apart.0 (omega arith) at in
    rw off (part_at es e k apart.1 (omega arith) at)

-- ---- interfaces that are sorted
module _ (names : List (List ℕ)) (listed sorted : EntriesView) (are : interfaces_of listed ≡ first_occurrences names) (order : IsSorted listed sorted) where
  pub sorted_part : (e : EntryView) → Contains sorted e → parts_of listed e.0 ≡ e.1
  sorted_part e there =
      let (k, within, at) = Contains-permutation sorted listed e (IsPermutation-sym listed sorted order.same) there in
      part_at listed e k (subst Apart (sym are) (first_apart names)) within at

pub sorted_names : (listed sorted : EntriesView) → IsSorted listed sorted → (name : List ℕ) → Contains (map (λ (e : EntryView). e.0) sorted) name ↔ Contains (interfaces_of listed) name
sorted_names listed sorted order name = (
  Contains-permutation (interfaces_of sorted) (interfaces_of listed) name (IsPermutation-map (λ (e : EntryView). e.0) sorted listed (IsPermutation-sym listed sorted order.same)),
  Contains-permutation (interfaces_of listed) (interfaces_of sorted) name (IsPermutation-map (λ (e : EntryView). e.0) listed sorted order.same),
)
