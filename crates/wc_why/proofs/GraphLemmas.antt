-- The graph of a component by numbers, and by items.
use Rattle.std.proofs.Common.{◌≡◌, ℕ, zero, suc, ◌+◌, ◌-◌, ◌<◌, ◌≤◌, List, [], ◌∷◌, ◌++◌, length, map, get_or, true, false, Option, Some, None, nat_lt, append_assoc, refl, sym, ◌∙◌, ap, subst, arith}
use Rattle.std.specs.Prelude.{All, Contains}
use Rattle.std.specs.List.{slice_get}
use Rattle.std.specs.Option.{option_map, option_map_or, option_to_list}
use Rattle.std.proofs.lemmas.List.{length-map, map-append}
use Rattle.std.proofs.lemmas.List.Elements.{All-append, All-cons, All-contains, All-nil}
use Rattle.std.proofs.lemmas.Option.{same_Some, slice_get-get_or, slice_get-map, slice_get_within}
use Rattle.wc_why.specs.Graph.{has_item, link_at, linked_item, names_in, part_names}
use Rattle.wc_why.specs.Part.{LinkView, PartView, part_view}
use Rattle.wc_why.specs.Rows.{row_in}
use Rattle.wc_why.specs.Private.Graph.{AreLinked, IsLinkedTo, linked_number, names_by}
use Rattle.wc_why.specs.Private.Numbers.{AreNumbers, place_of, total}
use Rattle.wc_why.specs.declared.links.Linked.{Linked}
use Rattle.wc_why.specs.declared.numbers.Numbers.{Numbers}
use Rattle.wc_why.specs.declared.part.Part.{Part}
use Rattle.wc_why.proofs.NumberLemmas.{number_below, one_number, place_back, started}

-- items of parts name items of their parts alone
abbrev pub AreBelow : List PartView → Type 0
AreBelow parts = (p : ℕ) (part : PartView) (n : ℕ) → slice_get parts p ≡ Some part → n < part.size → All (λ m. m < part.size) (part.names n)

pub parts_below : (parts : List Part) → AreBelow (map part_view parts)
parts_below parts p view n at lt = by (slice_get parts p) refl
  where
    by : (o : Option Part) → slice_get parts p ≡ o → All (λ m. m < view.size) (view.names n)
    by None e = absurd (let eq : None ≡ Some view = sym (ap (option_map part_view) e) ∙ (sym (slice_get-map part_view parts p) ∙ at) in cc)
    by (Some part) e =
        let same : part_view part ≡ view = same_Some (part_view part) view (sym (ap (option_map part_view) e) ∙ (sym (slice_get-map part_view parts p) ∙ at)) in
        subst (λ (v : PartView). n < v.size → All (λ m. m < v.size) (v.names n)) same (part.rows.now.below n) lt

map_same : {A B : Type 0} (f g : A → B) (xs : List A) → ((x : A) → Contains xs x → f x ≡ g x) → map f xs ≡ map g xs
map_same f g [] h = refl
map_same f g (x ∷ xs) h =
    ap (λ y. y ∷ map f xs) (h x (zero, omega arith, refl))
    ∙ ap (λ l. g x ∷ l) (map_same f g xs (λ z c. let (k, lt, e) = c in h z (suc k, omega (arith, lt), e)))

map_twice : {A B C : Type 0} (f : B → C) (g : A → B) (xs : List A) → map f (map g xs) ≡ map (λ x. f (g x)) xs
map_twice f g [] = refl
map_twice f g (x ∷ xs) = ap (λ l. f (g x) ∷ l) (map_twice f g xs)

all_mapped : {A B : Type 0} (P : B → Type 0) (f : A → B) (xs : List A) → ((x : A) → Contains xs x → P (f x)) → All P (map f xs)
all_mapped P f [] h = All-nil P
all_mapped P f (x ∷ xs) h =
    All-cons P (f x) (map f xs) (h x (zero, omega arith, refl)) (all_mapped P f xs (λ z c. let (k, lt, e) = c in h z (suc k, omega (arith, lt), e)))

module _ (parts : List PartView) (n : Numbers) (links : List (Option Linked)) (numbered : AreNumbers parts n) (below : AreBelow parts) (linked : AreLinked parts n links) where
  starts : List ℕ
  starts = n.starts.items

  owners : List ℕ
  owners = n.owners.items

  -- an item, with its part
  module _ (x : ℕ) (lt : x < total n) where
    abbrev p : ℕ
    p = get_or n.owners.items x 0

    abbrev start : ℕ
    start = get_or n.starts.items (get_or n.owners.items x 0) 0

    begins : start ≤ x
    begins = started parts n.starts.items n.owners.items numbered x lt

    from_start : x - (place_of n x).1 ≡ start
    from_start = let le = begins in omega (arith, le)

    names_are : (v : PartView) → slice_get parts p ≡ Some v → part_names parts (place_of n x) ≡ v.names (x - start)
    names_are v at = ap (λ o. option_map_or (λ (part : PartView). part.names (x - start)) o []) at

    own_below : (m : ℕ) → Contains (part_names parts (place_of n x)) m → (v : PartView) × (slice_get parts p ≡ Some v) × (m < v.size)
    own_below m c =
        let (v, at, le, less) = numbered.owned x lt in (
          v,
          at,
          All-contains (λ k. k < v.size) (v.names (x - start)) m (below p v (x - start) at (omega (arith, le, less))) (subst (λ l. Contains l m) (names_are v at) c),
        )

    own_back : (m : ℕ) → Contains (part_names parts (place_of n x)) m → place_of n (x - (place_of n x).1 + m) ≡ (p, m)
    own_back m c =
        let (v, at, less) = own_below m c in
        subst (λ k. place_of n (k + m) ≡ (p, m)) (sym from_start) (place_back parts n.starts.items n.owners.items numbered p m v at less)

    own_there : (m : ℕ) → Contains (part_names parts (place_of n x)) m → x - (place_of n x).1 + m < total n
    own_there m c =
        let (v, at, less) = own_below m c in
        subst (λ k. k + m < total n) (sym from_start) (number_below parts n.starts.items n.owners.items numbered p m v at less)

    -- what it is linked to
    abbrev link : Option Linked
    link = get_or links x None

    link_is : IsLinkedTo n (link_at parts (place_of n x)) link
    link_is = linked x lt

    linked_there : (l : Option LinkView) (o : Option Linked) → IsLinkedTo n l o → All (λ k. k < total n) (option_to_list (option_map linked_number o))
    linked_there l None e = All-nil (λ k. k < total n)
    linked_there l (Some o) (k, is, name, less, same) = All-cons (λ m. m < total n) o.number [] less (All-nil (λ m. m < total n))

    linked_back : (l : Option LinkView) (o : Option Linked) → IsLinkedTo n l o
        → map (place_of n) (option_to_list (option_map linked_number o)) ≡ option_to_list (option_map linked_item l)
    linked_back l None e = ap (λ m. option_to_list (option_map linked_item m)) (sym e)
    linked_back l (Some o) (k, is, name, less, same) = ap (λ y. y ∷ []) same ∙ ap (λ m. option_to_list (option_map linked_item m)) (sym is)

    pub named_below : All (λ k. k < total n) (names_by parts n links x)
    named_below =
        All-append (λ k. k < total n) (map (λ m. x - (place_of n x).1 + m) (part_names parts (place_of n x))) (option_to_list (option_map linked_number link))
        (all_mapped (λ k. k < total n) (λ m. x - (place_of n x).1 + m) (part_names parts (place_of n x)) own_there)
        (linked_there (link_at parts (place_of n x)) link link_is)

    -- it names the same, by numbers and by items
    pub named_same : names_in parts (place_of n x) ≡ map (place_of n) (names_by parts n links x)
    named_same =
        let row = part_names parts (place_of n x) in
        let own = map_same (λ m. place_of n (x - (place_of n x).1 + m)) (λ m. (p, m)) row own_back in
        sym
        (map-append (place_of n) (map (λ m. x - (place_of n x).1 + m) row) (option_to_list (option_map linked_number link))
        ∙ (ap (λ l. l ++ map (place_of n) (option_to_list (option_map linked_number link))) (map_twice (place_of n) (λ m. x - (place_of n x).1 + m) row ∙ own)
        ∙ ap (λ l. map (λ m. (p, m)) row ++ l) (linked_back (link_at parts (place_of n x)) link link_is)))

  pub places_apart : (x y : ℕ) → x < total n → y < total n → place_of n x ≡ place_of n y → x ≡ y
  places_apart x y lx ly e = one_number parts n.starts.items n.owners.items numbered x y lx ly e

-- what the code appends
pub part_there : (parts : List PartView) (y : ℕ × ℕ) → has_item parts y ≡ true → y.0 < length parts
part_there parts y h = by (slice_get parts y.0) refl h
  where
    by : (o : Option PartView) → slice_get parts y.0 ≡ o → option_map_or (λ (part : PartView). nat_lt y.1 part.size) o false ≡ true → y.0 < length parts
    by None e h = absurd (let eq : false ≡ true = h in cc)
    by (Some v) e h = slice_get_within parts y.0 v e

pub names_put : (parts : List Part) (n : Numbers) (links : List (Option Linked)) (item : ℕ) (y : ℕ × ℕ) → y ≡ place_of n item
    → has_item (map part_view parts) (place_of n item) ≡ true → (part : Part) → part ≡ get_or parts y.0 part → (row : List ℕ)
    → row ≡ row_in (get_or parts y.0 part).rows.now.starts.items (get_or parts y.0 part).rows.now.names.items y.1 → (old now new : List ℕ) → now ≡ old ++ map (λ k. item - y.1 + k) row
    → new ≡ now ++ option_to_list (option_map linked_number (get_or links item None)) → new ≡ old ++ names_by (map part_view parts) n links item
names_put parts n links item y same there part is row rows old now new own last =
    let len = length-map parts part_view in
    let lt : y.0 < length parts =
    (let w = part_there (map part_view parts) y (subst (λ z. has_item (map part_view parts) z ≡ true) (sym same) there) in omega (arith, w, len)) in
    let at : slice_get (map part_view parts) y.0 ≡ Some (part_view part) =
    slice_get-map part_view parts y.0 ∙ ap (option_map part_view) (slice_get-get_or parts y.0 part lt ∙ ap (λ v. Some v) (sym is)) in
    let named : part_names (map part_view parts) y ≡ row = ap (λ o. option_map_or (λ (v : PartView). v.names y.1) o []) at ∙ sym (rows ∙ ap (λ (v : Part). row_in v.rows.now.starts.items v.rows.now.names.items y.1) (sym is)) in
    let tail = option_to_list (option_map linked_number (get_or links item None)) in
    let made : now ≡ old ++ map (λ k. item - (place_of n item).1 + k) (part_names (map part_view parts) (place_of n item)) =
    own ∙ (ap (λ l. old ++ map (λ k. item - y.1 + k) l) (sym named) ∙ ap (λ z. old ++ map (λ k. item - z.1 + k) (part_names (map part_view parts) z)) same) in
    last ∙ (ap (λ l. l ++ tail) made ∙ append_assoc old (map (λ k. item - (place_of n item).1 + k) (part_names (map part_view parts) (place_of n item))) tail)
