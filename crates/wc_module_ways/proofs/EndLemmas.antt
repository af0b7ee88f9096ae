-- The ends of paths, one after another: imports of a module, and one adapter after another.
use Rattle.std.proofs.Common.{◌≡◌, ◌∙◌, ℕ, zero, ◌+◌, ◌<◌, ◌^◌, Bool, List, [], ◌∷◌, ◌++◌, cond, length, map, take, get_or, Some, ap, append_assoc, append-nil, arith, inl, inr, subst, suc, sym}
use Rattle.std.proofs.Math.ListN.{length-append}
use Rattle.std.proofs.lemmas.Option.{get_or_from_slice_get, same_Some, slice_get_cases}
use Rattle.std.proofs.lemmas.List.{length-map, length-take-le}
use Rattle.std.specs.List.{flat_map, range_with_len, slice_get}
use Rattle.wc_read.specs.Imports.{ImportValue, import_value, import_values}
use Rattle.wc_read.specs.declared.types.Import.{Import}
use Rattle.wc_paths.specs.Counts.{counts_value}
use Rattle.wc_paths.specs.Items.{CountsValue, counts_of}
use Rattle.wc_paths.specs.Numbers.{item_count}
use Rattle.wc_paths.specs.Roots.{AreImportItems}
use Rattle.wc_paths.specs.declared.items.PathItem.{PathItem}
use Rattle.wc_why.specs.Part.{PartView, part_view}
use Rattle.wc_why.specs.declared.part.Part.{Part}
use Rattle.wc_import_paths.specs.MainModules.{MainView, main_graph}
use Rattle.wc_import_paths.specs.Patterns.{PatternView}
use Rattle.wc_import_paths.specs.Shown.{EndView, import_end, import_end_at, import_ends}
use Rattle.wc_import_paths.proofs.MainModuleLemmas.{main_counted, main_fits}
use Rattle.wc_import_paths.proofs.PickedLemmas.{ranged_more, taken_more}
use Rattle.wc_import_paths.proofs.ShownLemmas.{at_view, end_put}
use Rattle.wc_module_ways.specs.Adapters.{AdapterView, adapter_view}
use Rattle.wc_module_ways.specs.CoreModules.{CoreView, core_view}
use Rattle.wc_module_ways.specs.Modules.{is_adapter_shown}
use Rattle.wc_module_ways.specs.Parts.{AreParts, IsPartOfAdapter, with_links}
use Rattle.wc_module_ways.specs.Private.Parts.{HasAdapterParts}
use Rattle.wc_module_ways.specs.Tree.{adapter_ends, all_adapter_ends, ends_from}
use Rattle.wc_module_ways.specs.declared.adapter.AdapterModule.{AdapterModule}
use Rattle.wc_module_ways.specs.declared.core_module.CoreModule.{CoreModule}

-- an import more, with its item, if it passes a test
pub end_more : (part : ℕ) (c : CountsValue) (p : ImportValue → Bool) (imports : List Import) (items : List PathItem) (k : ℕ) (d : Import) (x y : PathItem) → k < length imports
    → AreImportItems (import_values imports) items → x ≡ get_or items k y → (b : Bool) → b ≡ p (import_value (get_or imports k d)) → (old now new : List EndView)
    → now ≡ old ++ flat_map (import_end_at part c p (import_values imports)) (range_with_len 0 k)
    → new ≡ now ++ cond b (import_end part c (import_value (get_or imports k d)) x) []
    → new ≡ old ++ flat_map (import_end_at part c p (import_values imports)) (range_with_len 0 (k + 1))
end_more part c p imports items k d x y lt are two b is old now new before put =
    let i = import_value (get_or imports k d) in
    let at = at_view import_value imports k d lt in
    let item = two ∙ get_or_from_slice_get items k _ _ (are.at k i at) in
    ranged_more (import_end_at part c p (import_values imports)) k old now new before
    (end_put part c p (import_values imports) k i at b is x item now new put)

-- how many imports have passed, when all have
pub all_ends : (part : ℕ) (c : CountsValue) (p : ImportValue → Bool) (imports : List Import) (k : ℕ) (old new : List EndView) → k ≡ length imports
    → new ≡ old ++ flat_map (import_end_at part c p (import_values imports)) (range_with_len 0 k) → new ≡ old ++ import_ends part c p (import_values imports)
all_ends part c p imports k old new all h =
    h ∙ ap (λ n. old ++ flat_map (import_end_at part c p (import_values imports)) (range_with_len 0 n)) (all ∙ sym (length-map imports import_value))

-- the items of an import's module have a place for each import
pub item_there : (imports : List Import) (items : List PathItem) (k : ℕ) → AreImportItems (import_values imports) items → k < length imports → k < length items
item_there imports items k are lt = let e = are.each in let l = length-map imports import_value in omega (arith, e, l, lt)

pub ends_last : {A : Type 0} (ends : ℕ → A → List EndView) (part : ℕ) (xs : List A) (a : A)
    → ends_from ends part (xs ++ a ∷ []) ≡ ends_from ends part xs ++ ends (part + length xs) a
ends_last ends part [] a =
    let none : part ≡ part + 0 = omega arith in append-nil (ends part a) ∙ ap (λ n. ends n a) none
ends_last ends part (x ∷ xs) a =
    let same : part + 1 + length xs ≡ part + length (x ∷ xs) = omega arith in
    ap (λ z. ends part x ++ z) (ends_last ends (part + 1) xs a ∙ ap (λ n. ends_from ends (part + 1) xs ++ ends n a) same)
    ∙ sym (append_assoc (ends part x) (ends_from ends (part + 1) xs) (ends (part + length (x ∷ xs)) a))

-- one more of things that are parts one after another
pub ends_next : {R A : Type 0} (view : R → A) (ends : ℕ → A → List EndView) (first : ℕ) (xs : List R) (k : ℕ) (d : R) (old now new : List EndView) → k < length xs
    → now ≡ old ++ ends_from ends first (map view (take k xs)) → new ≡ now ++ ends (first + k) (view (get_or xs k d))
    → new ≡ old ++ ends_from ends first (map view (take (k + 1) xs))
ends_next view ends first xs k d old now new lt before put =
    let passed = map view (take k xs) in
    let v = view (get_or xs k d) in
    let here : first + length passed ≡ first + k =
    (let l = length-map (take k xs) view in let t = length-take-le k xs (omega (arith, lt)) in omega (arith, l, t)) in
    put
    ∙ (ap (λ z. z ++ ends (first + k) v) before
    ∙ (append_assoc old (ends_from ends first passed) (ends (first + k) v)
    ∙ ap (λ z. old ++ z)
    (ap (λ n. ends_from ends first passed ++ ends n v) (sym here)
    ∙ sym (ap (ends_from ends first) (taken_more view xs k d lt) ∙ ends_last ends first passed v))))

-- an element of the first of two lists
front_at : {A : Type 0} (xs ys : List A) (k : ℕ) (x : A) → k < length xs → slice_get (xs ++ ys) k ≡ Some x → slice_get xs k ≡ Some x
front_at [] ys k x lt e = absurd (omega (arith, lt))
front_at (y ∷ xs) ys zero x lt e = e
front_at (y ∷ xs) ys (suc k) x lt e = front_at xs ys k x (omega (arith, lt)) e

-- the first part

pub first_there : (main : MainView) (bytes : List ℕ) (adapters : List AdapterView) (cores : List CoreView) (parts : List Part)
    → AreParts main bytes adapters cores (map part_view parts) → 0 < length parts
first_there main bytes adapters cores parts h = let e = ap length h.are in let l = length-map parts part_view in omega (arith, e, l)

-- the part after it
part_after : (parts : List Part) (k : ℕ) (e : Part) (first : PartView) (others : List PartView) → map part_view parts ≡ first ∷ others → k + 1 < length parts
    → slice_get others k ≡ Some (part_view (get_or parts (k + 1) e))
part_after parts k e first others are lt =
    let next : suc k ≡ k + 1 = omega arith in
    sym (ap (λ z. slice_get z (suc k)) are) ∙ (ap (slice_get (map part_view parts)) next ∙ at_view part_view parts (k + 1) e lt)

-- how many items the first part has

module _ (main : MainView) (bytes : List ℕ) (adapters : List AdapterView) (cores : List CoreView) (parts : List Part)
    (h : AreParts main bytes adapters cores (map part_view parts)) (d : Part)
  where
    first_counts : counts_value (get_or parts 0 d).counts ≡ h.first.counts
    first_counts =
        let first = with_links h.first h.links in
        let at = sym (at_view part_view parts 0 d (first_there main bytes adapters cores parts h)) ∙ ap (λ z. slice_get z 0) h.are in
        ap (λ (z : PartView). z.counts) (same_Some (part_view (get_or parts 0 d)) first at)

    pub first_fits : item_count (counts_value (get_or parts 0 d).counts) < 2 ^ 64
    first_fits = subst (λ c. item_count c < 2 ^ 64) (sym first_counts) (main_fits bytes main h.first h.is_first)

    pub first_counted : counts_value (get_or parts 0 d).counts ≡ counts_of (main_graph main)
    first_counted = first_counts ∙ main_counted bytes main h.first h.is_first

pub others_in : (main : MainView) (bytes : List ℕ) (adapters : List AdapterView) (cores : List CoreView) (parts : List PartView)
    → AreParts main bytes adapters cores parts → HasAdapterParts adapters parts
others_in main bytes adapters cores parts h =
    record { first = with_links h.first h.links; others = h.others; rest = h.core; are = h.are; are_others = h.are_others }

-- there are as many parts as modules
pub parts_many : (main : MainView) (bytes : List ℕ) (adapters : List AdapterModule) (cores : List CoreModule) (parts : List Part)
    → AreParts main bytes (map adapter_view adapters) (map core_view cores) (map part_view parts) → length parts ≡ length adapters + 1 + length cores
parts_many main bytes adapters cores parts h =
    let e = ap length h.are in
    let l = length-map parts part_view in
    let joined = length-append h.others h.core in
    let one = h.are_others.each in
    let two = h.are_core.each in
    let a = length-map adapters adapter_view in
    let c = length-map cores core_view in
    omega (arith, e, l, joined, one, two, a, c)

-- the part of each adapter, after the first part

module _ (adapters : List AdapterModule) (parts : List Part) (h : HasAdapterParts (map adapter_view adapters) (map part_view parts)) (k : ℕ) (lt : k < length adapters)
  where
    pub other_there : k + 1 < length parts
    other_there =
        let e = ap length h.are in
        let joined = length-append h.others h.rest in
        let each = h.are_others.each in
        let one = length-map parts part_view in
        let two = length-map adapters adapter_view in
        omega (arith, e, joined, each, one, two, lt)

    at_other : (e : Part) → slice_get h.others k ≡ Some (part_view (get_or parts (k + 1) e))
    at_other e =
        let within : k < length h.others =
        (let each = h.are_others.each in let two = length-map adapters adapter_view in omega (arith, each, two, lt)) in
        front_at h.others h.rest k (part_view (get_or parts (k + 1) e)) within (part_after parts k e h.first (h.others ++ h.rest) h.are other_there)

    pub other_fits : (e : Part) → item_count (counts_value (get_or parts (k + 1) e).counts) < 2 ^ 64
    other_fits e =
        elim (slice_get_cases (map adapter_view adapters) k).1 [
          | inl there ↦
              let is = h.are_others.at k there.0 (part_view (get_or parts (k + 1) e)) there.2 (at_other e) in
              subst (λ c. item_count c < 2 ^ 64) (sym is.part.counts) is.part.fits
          | inr past ↦ absurd (let le = past.0 in let l = length-map adapters adapter_view in omega (arith, le, l, lt))
        ]

    is_other : (d : AdapterModule) (e : Part) → IsPartOfAdapter (adapter_view (get_or adapters k d)) (part_view (get_or parts (k + 1) e))
    is_other d e =
        h.are_others.at k (adapter_view (get_or adapters k d)) (part_view (get_or parts (k + 1) e)) (at_view adapter_view adapters k d lt) (at_other e)

    -- its imports more
    pub adapter_more : (patterns : List PatternView) (d : AdapterModule) (e : Part) (old now new : List EndView)
        → now ≡ old ++ all_adapter_ends patterns 1 (map adapter_view (take k adapters))
        → new ≡ now ++ import_ends (k + 1) (counts_value (get_or parts (k + 1) e).counts) (is_adapter_shown patterns) (adapter_view (get_or adapters k d)).code.imports
        → new ≡ old ++ all_adapter_ends patterns 1 (map adapter_view (take (k + 1) adapters))
    adapter_more patterns d e old now new before put =
        let v = adapter_view (get_or adapters k d) in
        let p = get_or parts (k + 1) e in
        let next : k + 1 ≡ 1 + k = omega arith in
        ends_next adapter_view (adapter_ends patterns) 1 adapters k d old now new lt before
        (put
        ∙ (ap (λ c. now ++ import_ends (k + 1) c (is_adapter_shown patterns) v.code.imports) (is_other d e).part.counts
        ∙ ap (λ n. now ++ adapter_ends patterns n v) next))
