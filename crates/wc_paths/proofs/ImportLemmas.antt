-- Items of imports, counted one after another.
use Rattle.std.proofs.Common.{◌≡◌, ℕ, ◌+◌, ◌-◌, ◌^◌, ◌<◌, ◌≤◌, List, [], ◌∷◌, ◌++◌, length, take, get_or, refl, sym, ◌∙◌, ap, Bool, true, false, Some, inl, inr, arith}
use Rattle.std.specs.Prelude.{count_by, if◌then◌else◌}
use Rattle.std.specs.List.{slice_get}
use Rattle.std.proofs.lemmas.Bool.{cases_lt}
use Rattle.std.proofs.lemmas.List.{get_or-map, get_or_append_left, get_or_push, length-map, length-take-le, length_push}
use Rattle.std.proofs.lemmas.List.Sums.{count_by-le-length, count_by_more_no, count_by_more_yes}
use Rattle.std.proofs.lemmas.Option.{get_or_from_slice_get, slice_get-get_or, slice_get_within}
use Rattle.wc_read.specs.Imports.{ImportValue, import_value, import_values}
use Rattle.wc_read.specs.declared.types.Import.{Import}
use Rattle.wc_read.specs.declared.operators.Space.{Space}
use Rattle.wc_read.specs.ImportItems.{is_in_space}
use Rattle.wc_paths.specs.Private.Roots.{count_in}
use Rattle.wc_paths.specs.Roots.{AreImportItems, import_item, import_space}
use Rattle.wc_paths.specs.declared.items.PathItem.{PathItem}
use Rattle.wc_paths.specs.declared.items.PathItem.TheVariants.{Item}
use Rattle.wc_paths.specs.declared.roots.ImportCounts.{ImportCounts}

abbrev is_of : Space → ImportValue → Bool
is_of space i = is_in_space space i.ty

-- so many imports were counted, and have these items
pub record AreCounted (imports : List ImportValue) (next : ℕ) (c : ImportCounts) (items : List PathItem) : Type 0 where
  pub counted : (space : Space) → count_in c space ≡ count_by (λ (i : ImportValue). is_in_space space i.ty) (take next imports)
  pub within : next ≤ length imports
  pub each : length items ≡ next
  pub at : (k : ℕ) (i : ImportValue) → k < next → slice_get imports k ≡ Some i → slice_get items k ≡ Some (import_item imports k i)

pub counted_none : (imports : List ImportValue) (c : ImportCounts) → ((space : Space) → count_in c space ≡ 0) → AreCounted imports 0 c []
counted_none imports c none = record { counted = none; within = omega arith; each = refl; at = λ k i lt e. absurd (omega (arith, lt)) }

pub counted_fits : (imports : List ImportValue) (next : ℕ) (c : ImportCounts) (items : List PathItem) → AreCounted imports next c items → next + 1 < 2 ^ 64
    → (space : Space) → count_in c space < 2 ^ 64 - 1
counted_fits imports next c items h fits space =
    let e = h.counted space in
    let most = count_by-le-length (is_of space) (take next imports) in
    let n : length (take next imports) ≡ next = length-take-le next imports h.within in
    omega (arith, e, most, n, fits)

more_counted : (imports : List ImportValue) (next : ℕ) (i : ImportValue) (space : Space) (old new : ℕ) → next < length imports → get_or imports next i ≡ i
    → old ≡ count_by (is_of space) (take next imports) → (b : Bool) → is_in_space space i.ty ≡ b → new ≡ old + (if b then 1 else 0)
    → new ≡ count_by (is_of space) (take (next + 1) imports)
more_counted imports next i space old new lt same e true is h =
    h ∙ (ap (λ n. n + 1) e ∙ sym (count_by_more_yes (is_of space) imports next i lt (ap (is_of space) same ∙ is)))
more_counted imports next i space old new lt same e false is h =
    let none : old + 0 ≡ old = omega arith in
    h ∙ (none ∙ (e ∙ sym (count_by_more_no (is_of space) imports next i lt (ap (is_of space) same ∙ is))))

pub counted_more : (imports : List ImportValue) (next : ℕ) (i : ImportValue) (c c' : ImportCounts) (items : List PathItem) (item : PathItem) → next < length imports
    → get_or imports next i ≡ i → AreCounted imports next c items → item ≡ Item (import_space i.ty) (count_in c (import_space i.ty))
    → ((space : Space) → count_in c' space ≡ count_in c space + (if is_in_space space i.ty then 1 else 0)) → AreCounted imports (next + 1) c' (items ++ item ∷ [])
counted_more imports next i c c' items item lt same h is more = record {
  counted = λ space. more_counted imports next i space (count_in c space) (count_in c' space) lt same (h.counted space) (is_in_space space i.ty) refl (more space);
  within = omega (arith, lt);
  each = let l = length_push items item in let e = h.each in omega (arith, l, e);
  at = λ k j less e. elim (cases_lt k next) [
    | inl old ↦
        let within : k < length items = let z = h.each in omega (arith, old, z) in
        let all : k < length (items ++ item ∷ []) = let l = length_push items item in omega (arith, within, l) in
        slice_get-get_or (items ++ item ∷ []) k item all
        ∙ ap Some (get_or_append_left items (item ∷ []) item k within ∙ get_or_from_slice_get items k (import_item imports k j) item (h.at k j old e))
    | inr past ↦
        let now : k ≡ next = omega (arith, less, past) in
        let all : k < length (items ++ item ∷ []) = let l = length_push items item in let z = h.each in omega (arith, now, l, z) in
        let i_is : i ≡ j = sym same ∙ (ap (λ n. get_or imports n i) (sym now) ∙ get_or_from_slice_get imports k j i e) in
        slice_get-get_or (items ++ item ∷ []) k item all
        ∙ ap Some (get_or_push items item item k (h.each ∙ sym now)
        ∙ (is ∙ (ap (λ n. Item (import_space i.ty) n) (h.counted (import_space i.ty))
        ∙ (ap (λ n. import_item imports n i) (sym now) ∙ ap (import_item imports k) i_is))))
  ];
}

-- one more import, by its type
pub counted_next : (imports : List Import) (next : ℕ) (d : Import) (c c' : ImportCounts) (items : List PathItem) (item : PathItem) → next < length imports
    → AreCounted (import_values imports) next c items
    → item ≡ Item (import_space (get_or imports next d).ty) (count_in c (import_space (get_or imports next d).ty))
    → ((space : Space) → count_in c' space ≡ count_in c space + (if is_in_space space (get_or imports next d).ty then 1 else 0))
    → AreCounted (import_values imports) (next + 1) c' (items ++ item ∷ [])
counted_next imports next d c c' items item lt h is more =
    let i = import_value (get_or imports next d) in
    let l = length-map imports import_value in
    counted_more (import_values imports) next i c c' items item (omega (arith, lt, l)) (get_or-map import_value imports next d i lt) h is more

pub counted_all : (imports : List ImportValue) (next : ℕ) (c : ImportCounts) (items : List PathItem) → length imports ≤ next → AreCounted imports next c items
    → AreImportItems imports items
counted_all imports next c items over h = record {
  each = let e = h.each in let w = h.within in omega (arith, e, w, over);
  at = λ k i e. h.at k i (let lt = slice_get_within imports k i e in omega (arith, lt, over)) e;
}
