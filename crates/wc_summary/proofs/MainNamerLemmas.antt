-- Functions of the main module that are reached and name imports, by the numbers of items and by the items.
use Rattle.std.proofs.Common.{◌≡◌, ◌↔◌, ℕ, ◌<◌, ◌%◌, ◌/◌, zero, suc, Bool, true, false, cond, ◌&&◌, List, [], ◌∷◌, length, map, get_or, filter, nat_eq, slice_get, slice_index, Option, Some, None, refl, sym, ◌∙◌, ap, subst, inl, inr, true≢false, arith}
use Rattle.std.specs.Prelude.{AllPairs, Contains, slice_index_or}
use Rattle.std.specs.List.{list_any, range_with_len}
use Rattle.std.specs.Int.{bit_at}
use Rattle.std.specs.Str.{bytes_eq}
use Rattle.std.proofs.Math.Bool.{or-true}
use Rattle.std.proofs.lemmas.Bool.{and_parts, cases_Bool, cases_lt, eq-eqb, eqb-true, lt-ltb, ltb-true, or_cases}
use Rattle.std.proofs.lemmas.List.{get_or_past}
use Rattle.std.proofs.lemmas.List.Elements.{All-contains, filter_passes, Contains-append_right}
use Rattle.std.proofs.lemmas.List.FromFn.{get_or-range_with_len, length-range_with_len}
use Rattle.std.proofs.lemmas.List.Kept.{AllPairs-filter}
use Rattle.std.proofs.lemmas.Option.{get_or_from_slice_get, slice_get-get_or}
use Rattle.std.proofs.lemmas.Slice.Eq.{bytes_eq-Decides}
use Rattle.wc_read.specs.Imports.{ImportValue}
use Rattle.wc_read.specs.Modules.{ModuleValue}
use Rattle.wc_segments.specs.Segments.{SegmentsValue}
use Rattle.wc_read.specs.declared.operators.Space.TheVariants.{Funcs}
use Rattle.wc_graph.proofs.ListLemmas.{contains_mapped}
use Rattle.wc_graph.proofs.ListLemmas.{contains_unmapped, in_filter}
use Rattle.wc_graph.proofs.ListLemmas.{from_filter}
use Rattle.wc_paths.specs.Items.{CountsValue, GraphValue, counts_of, graph_of, has_item, names_in}
use Rattle.wc_paths.specs.Numbers.{item_at, number_of, numbers_of, present}
use Rattle.wc_paths.specs.Paths.{IsReachedIn, IsReachedInAny}
use Rattle.wc_paths.specs.Roots.{first_roots, import_item, second_roots}
use Rattle.wc_paths.specs.declared.items.PathItem.{PathItem}
use Rattle.wc_paths.specs.declared.items.PathItem.TheVariants.{Item}
use Rattle.wc_paths.proofs.CallerLemmas.{any_found}
use Rattle.wc_paths.proofs.NumbersLemmas.{item_back}
use Rattle.wc_paths.proofs.PathLemmas.{IsThere, item_reached, named_there, number_reached, reached_there}
use Rattle.wc_graph.specs.Labels.{HasLabel}
use Rattle.wc_graph.specs.Positions.{AreAscending, AreBelow, IsAt}
use Rattle.wc_summary.specs.Leads.{AreReached, as_number, is_root, is_tag}
use Rattle.wc_summary.specs.Entries.{EntriesView, interfaces_of}
use Rattle.wc_summary.specs.Private.SummaryMain.{AreOwnersOf, IsNamerBy, NamesBy, NotesNamers, NotesOf, function_number, is_named, is_namer, is_reached_at, named_at}
use Rattle.wc_summary.specs.Private.Tags.{tag_at}

-- ---- lists

in_head : {A : Type 0} (y x : A) (ys : List A) → y ≡ x → Contains (y ∷ ys) x
in_head y x ys is = (0, (omega arith), is)

any_there : {A : Type 0} (p : A → Bool) (xs : List A) (x : A) (k : ℕ) → k < length xs → slice_index_or xs k x ≡ x → p x ≡ true → list_any p xs ≡ true
any_there p [] x k within at is = absurd (omega arith)
any_there p (y ∷ ys) x zero within at is = rw (ap p at ∙ is) refl
any_there p (y ∷ ys) x (suc k) within at is = rw (any_there p ys x k (omega arith) at is) (or-true _)

-- ---- roots

module _ (g : GraphValue) where
  root_in : (roots : List PathItem) (n : ℕ) → is_root (counts_of g) roots n ≡ true → Contains (numbers_of g roots) n
  root_in [] n e = absurd (true≢false (sym e))
  root_in (x ∷ roots) n e = elim (cases_Bool (has_item (counts_of g) x)) [
    | inl on ↦ rw on (elim (or_cases (nat_eq n (number_of (counts_of g) x)) (is_root (counts_of g) roots n) (rw on at e)) [
      | inl same ↦ in_head (number_of (counts_of g) x) n (numbers_of g roots) (sym (eqb-true n (number_of (counts_of g) x) same))
      | inr rest ↦ Contains-append_right (number_of (counts_of g) x ∷ []) (numbers_of g roots) n (root_in roots n rest)
    ])
    | inr off ↦ rw off (root_in roots n (rw off at e))
  ]

  in_root : (roots : List PathItem) (n : ℕ) → Contains (numbers_of g roots) n → is_root (counts_of g) roots n ≡ true
  in_root roots n c =
      let (x, there, is) = contains_unmapped (number_of (counts_of g)) (present g roots) n c in
      let passes : has_item (counts_of g) x ≡ true = All-contains (λ z. has_item (counts_of g) z ≡ true) (present g roots) x (filter_passes (has_item (counts_of g)) roots) there in
      let (k, within, at) = from_filter (has_item (counts_of g)) roots x there in
      any_there (λ (z : PathItem). has_item (counts_of g) z && nat_eq n (number_of (counts_of g) z)) roots x k within at
      (rw (passes, eq-eqb n (number_of (counts_of g) x) (sym is)) refl)

  module _ (first second : List PathItem) (words : List ℕ) (r : AreReached g first second words) where
    pub label_reached : (x : PathItem) → IsThere g x → HasLabel words (number_of (counts_of g) x) 0 → IsReachedInAny g first second x
    label_reached x there has =
        let (root, is, path, leads) = (r.at (number_of (counts_of g) x)).0 has in
        elim is [
          | inl one ↦ inl (subst (IsReachedIn g first) (item_back (counts_of g) x there) (item_reached g first (number_of (counts_of g) x) (root, root_in first root one, path, leads)))
          | inr other ↦ inr (subst (IsReachedIn g second) (item_back (counts_of g) x there) (item_reached g second (number_of (counts_of g) x) (root, root_in second root other, path, leads)))
        ]

    pub reached_label : (x : PathItem) → IsReachedInAny g first second x → HasLabel words (number_of (counts_of g) x) 0
    reached_label x (inl one) =
        let (root, is, path, leads) = number_reached g first x one in
        (r.at (number_of (counts_of g) x)).1 (root, inl (in_root first root is), path, leads)
    reached_label x (inr other) =
        let (root, is, path, leads) = number_reached g second x other in
        (r.at (number_of (counts_of g) x)).1 (root, inr (in_root second root is), path, leads)

any_reached_there : (g : GraphValue) (first second : List PathItem) (x : PathItem) → IsReachedInAny g first second x → IsThere g x
any_reached_there g first second x (inl one) = reached_there g first x one
any_reached_there g first second x (inr other) = reached_there g second x other

-- the first bit of a word
pub first_bit : (w : ℕ) → bit_at w 0 ≡ w % 2
first_bit w = let same : w / 1 ≡ w = omega arith in ap (λ (k : ℕ). k % 2) same

-- ---- names

tag_is : (interface : List ℕ) (t : Option (List ℕ)) → is_tag interface t ≡ true → t ≡ Some interface
tag_is interface None e = absurd (true≢false (sym e))
tag_is interface (Some x) e = ap Some (sym ((bytes_eq-Decides interface x).0 e))

is_own_tag : (interface : List ℕ) → is_tag interface (Some interface) ≡ true
is_own_tag interface = (bytes_eq-Decides interface interface).1 refl

pub tag_place : (interfaces : List (List ℕ)) (p : Option ℕ) (interface : List ℕ) → tag_at interfaces p ≡ Some interface
    → (u : ℕ) × (p ≡ Some u) × (slice_get interfaces u ≡ Some interface)
tag_place interfaces None interface e = absurd (let bad : None ≡ Some interface = e in cc)
tag_place interfaces (Some u) interface e = (u, refl, e)

owned_at : (owners : List (Option ℕ)) (n u : ℕ) → slice_index_or owners n None ≡ Some u → IsAt owners n u
owned_at owners n u e = elim (cases_lt n (length owners)) [
  | inl within ↦ slice_get-get_or owners n None within ∙ ap Some e
  | inr over ↦ absurd (let bad : None ≡ Some u = sym (get_or_past owners n None over) ∙ e in cc)
]

module _ (g : GraphValue) (interfaces : List (List ℕ)) (imports : List ImportValue) (places owners : List (Option ℕ))
    (owned : (n u : ℕ) → IsAt owners n u ↔ ((k : ℕ) × (i : ImportValue) × (slice_get imports k ≡ Some i) × IsAt places k u
    × (as_number (counts_of g) (import_item imports k i) ≡ Some n)))
  where
    numbered : (x : PathItem) (n : ℕ) → as_number (counts_of g) x ≡ Some n → (has_item (counts_of g) x ≡ true) × (number_of (counts_of g) x ≡ n)
    numbered x n e = elim (cases_Bool (has_item (counts_of g) x)) [
      | inl on ↦ (on, (let is : Some (number_of (counts_of g) x) ≡ Some n = rw on at e in cc))
      | inr off ↦ absurd (let bad : None ≡ Some n = rw off at e in cc)
    ]

    names_of_function : (f : ℕ) → IsThere g (Item Funcs f) → named_at g f ≡ map (number_of (counts_of g)) (names_in g (Item Funcs f))
    names_of_function f there = ap (λ (x : PathItem). map (number_of (counts_of g)) (names_in g x)) (item_back (counts_of g) (Item Funcs f) there)

    named_by_items : (f : ℕ) (interface : List ℕ) → IsThere g (Item Funcs f) → is_named interfaces owners (named_at g f) interface ≡ true
        → NamesBy g interfaces imports places interface f
    named_by_items f interface there e =
        let test : ℕ → Bool = λ n. is_tag interface (tag_at interfaces (slice_index_or owners n None)) in
        let (n, c, is) = any_found test (named_at g f) e in
        let (u, owner, at) = tag_place interfaces (slice_index_or owners n None) interface (tag_is interface (tag_at interfaces (slice_index_or owners n None)) is) in
        let (k, i, import, place, number) = (owned n u).0 (owned_at owners n u owner) in
        let (there_too, same) = numbered (import_item imports k i) n number in
        let (y, named, number_y) = contains_unmapped (number_of (counts_of g)) (names_in g (Item Funcs f)) n (subst (λ (l : List ℕ). Contains l n) (names_of_function f there) c) in
        let is_item : y ≡ import_item imports k i =
        sym (item_back (counts_of g) y (named_there g (Item Funcs f) y there named)) ∙ (ap (item_at (counts_of g)) (number_y ∙ sym same)
        ∙ item_back (counts_of g) (import_item imports k i) there_too) in
        (k, i, u, import, place, at, subst (Contains (names_in g (Item Funcs f))) is_item named)

    items_named_by : (f : ℕ) (interface : List ℕ) → IsThere g (Item Funcs f) → NamesBy g interfaces imports places interface f
        → is_named interfaces owners (named_at g f) interface ≡ true
    items_named_by f interface there (k, i, u, import, place, at, named) =
        let x : PathItem = import_item imports k i in
        let n : ℕ = number_of (counts_of g) x in
        let here : has_item (counts_of g) x ≡ true = named_there g (Item Funcs f) x there named in
        let number : as_number (counts_of g) x ≡ Some n = ap (λ b. cond b (Some n) None) here in
        let owner : slice_index_or owners n None ≡ Some u = get_or_from_slice_get owners n (Some u) None ((owned n u).1 (k, i, import, place, number)) in
        let (j, within, is) = subst (λ (l : List ℕ). Contains l n) (sym (names_of_function f there)) (contains_mapped (number_of (counts_of g)) (names_in g (Item Funcs f)) x named) in
        any_there (λ (m : ℕ). is_tag interface (tag_at interfaces (slice_index_or owners m None))) (named_at g f) n j within is
        (ap (λ (p : Option ℕ). is_tag interface (tag_at interfaces p)) owner ∙ (ap (is_tag interface) at ∙ is_own_tag interface))

    -- ---- the functions

    module _ (first second : List PathItem) (words : List ℕ) (r : AreReached g first second words) where
      namer_is : (f : ℕ) (interface : List ℕ) → IsThere g (Item Funcs f) → is_namer g interfaces owners words interface f ≡ true
          → IsNamerBy g first second interfaces imports places interface f
      namer_is f interface there e =
          let (reached, names) = and_parts (is_reached_at g words f) (is_named interfaces owners (named_at g f) interface) e in (
            label_reached g first second words r (Item Funcs f) there (first_bit (slice_index words (function_number g f)) ∙ eqb-true (slice_index words (function_number g f) % 2) 1 reached),
            named_by_items f interface there names,
          )

      is_namer_of : (f : ℕ) (interface : List ℕ) → IsNamerBy g first second interfaces imports places interface f → is_namer g interfaces owners words interface f ≡ true
      is_namer_of f interface (reached, names) =
          let there : IsThere g (Item Funcs f) = any_reached_there g first second (Item Funcs f) reached in
          let one : is_reached_at g words f ≡ true =
          eq-eqb (slice_index words (function_number g f) % 2) 1 (sym (first_bit (slice_index words (function_number g f))) ∙ reached_label g first second words r (Item Funcs f) reached) in
          rw (one, items_named_by f interface there names) refl

      pairs_range : (count : ℕ) → AllPairs (λ a b. a < b) (range_with_len 0 count)
      pairs_range count = λ i j d before within.
          let l = length-range_with_len 0 count in
          let a = get_or-range_with_len 0 count i d (omega arith) in
          let b = get_or-range_with_len 0 count j d (omega arith) in
          omega (arith, a, b)

      pub namers_are : (interface : List ℕ) → AreAscending (IsNamerBy g first second interfaces imports places interface)
          (filter (is_namer g interfaces owners words interface) (range_with_len 0 (counts_of g).funcs))
      namers_are interface =
          let p : ℕ → Bool = is_namer g interfaces owners words interface in
          let count : ℕ = (counts_of g).funcs in (
            AllPairs-filter (λ a b. a < b) p (range_with_len 0 count) (pairs_range count),
            λ f. (
              λ c. (let (k, within, at) = from_filter p (range_with_len 0 count) f c in
                  let l = length-range_with_len 0 count in
                  let v = get_or-range_with_len 0 count k f (omega arith) in
                  let below : f < count = omega (arith, v, at) in
                  namer_is f interface (lt-ltb f count below) (All-contains (λ z. p z ≡ true) (filter p (range_with_len 0 count)) f (filter_passes p (range_with_len 0 count)) c)),
              λ is. (let there : IsThere g (Item Funcs f) = any_reached_there g first second (Item Funcs f) is.0 in
                  let below : f < count = ltb-true f count there in
                  let l = length-range_with_len 0 count in
                  let v : get_or (range_with_len 0 count) f f ≡ f = omega (arith, get_or-range_with_len 0 count f f below) in
                  in_filter p (range_with_len 0 count) f (f, (omega arith), v) (is_namer_of f interface is)),
            ),
          )

-- items are owned by places of interfaces
pub owners_below : (c : CountsValue) (imports : List ImportValue) (places owners : List (Option ℕ)) (count : ℕ) → AreOwnersOf c imports places owners
    → AreBelow count places → AreBelow count owners
owners_below c imports places owners count h below n u at = let (k, i, import, place, number) = (h.at n u).0 at in below k u place

notes_for : (m : ModuleValue) (s : SegmentsValue) (places owners : List (Option ℕ)) (words : List ℕ) (old new : EntriesView)
    → AreOwnersOf (counts_of (graph_of m s)) m.imports places owners → AreReached (graph_of m s) (first_roots m) (second_roots s) words
    → NotesNamers (graph_of m s) owners words old new → NotesOf m s places old new
notes_for m s places owners words old new owned reached h = record {
  listed = h.listed;
  each = λ interface. (
    filter (is_namer (graph_of m s) (interfaces_of old) owners words interface) (range_with_len 0 (counts_of (graph_of m s)).funcs),
    namers_are (graph_of m s) (interfaces_of old) m.imports places owners owned.at (first_roots m) (second_roots s) words reached interface,
    h.each interface,
  );
}

pub notes_followed : (g : GraphValue) (m : ModuleValue) (s : SegmentsValue) (places owners : List (Option ℕ)) (words : List ℕ) (old new : EntriesView) → graph_of m s ≡ g
    → AreOwnersOf (counts_of g) m.imports places owners → AreReached g (first_roots m) (second_roots s) words → NotesNamers g owners words old new
    → NotesOf m s places old new
notes_followed g m s places owners words old new is owned reached h =
    subst (λ (z : GraphValue). AreOwnersOf (counts_of z) m.imports places owners → AreReached z (first_roots m) (second_roots s) words → NotesNamers z owners words old new
    → NotesOf m s places old new) is (notes_for m s places owners words old new) owned reached h
