-- Maps that are written are read back, where no two keys are equal.
use Rattle.std.proofs.Common.{◌≡◌, ℕ, List, [], ◌∷◌, ◌++◌, map, Ok, All, refl, sym, ap, ◌∙◌, append_assoc, append-nil, Bool, true, false, if◌then◌else◌}
use Rattle.std.specs.Bool.{Decides}
use Rattle.std.specs.List.{AllByRecursion, IsDistinct}
use Rattle.std.specs.Str.{bytes_eq}
use Rattle.std.proofs.lemmas.List.Elements.{All-head, All-tail}
use Rattle.std.proofs.lemmas.Map.Keys.{IsDistinct-cons, IsDistinct-head, IsDistinct-tail}
use Rattle.std.proofs.lemmas.Map.Made.{IsDistinct-from_AllPairs}
use Rattle.std.proofs.lemmas.Slice.Eq.{bytes_eq-Decides}
use Rattle.indexmap.specs.IndexMap.{insert_entry}
use Rattle.json.specs.Json.{Json}
use Rattle.wc_json.specs.Fault.{Reading}
use Rattle.wc_json.specs.Fits.{FunctionEntryFits, HasDistinctKeys, IdEntryFits, InterfaceFits}
use Rattle.wc_json.specs.Functions.{function}
use Rattle.wc_json.specs.Ids.{index}
use Rattle.wc_json.specs.Interfaces.{interface}
use Rattle.wc_json.specs.Maps.{entries_after, name_map}
use Rattle.wc_texts.specs.Shapes.{number_json}
use Rattle.wc_json.specs.ToJson.{function_json, interface_json, members_json, name_map_json}
use Rattle.wc_json.proofs.TypeRoundTripLemmas.{function-function_json, index-number_json, nullable-number_json, nullable-string}
use Rattle.wc_resolve.specs.Views.{InterfaceView}

-- a test that decides equality is false also for the two in the other order
false_swapped : {L : Type 0} (same : L → L → Bool) → ((a b : L) → Decides (same a b) (a ≡ b)) → (a b : L) (t : Bool) → same b a ≡ t → same a b ≡ false
    → t ≡ false
false_swapped same decides a b true e h = let bad : ⊥ = cc ((decides a b).1 (sym ((decides b a).0 e)), h) in absurd bad
false_swapped same decides a b false e h = refl

IsDistinct-nil : {L : Type 0} (same : L → L → Bool) → IsDistinct same []
unfolding IsDistinct
IsDistinct-nil same = tt

module _ {L A : Type 0} (same : L → L → Bool) (decides : (a b : L) → Decides (same a b) (a ≡ b)) where
  -- this key is that of no entry
  abbrev IsNew : L → List (L × A) → Type 0
  IsNew k es = AllByRecursion (λ e. same k e.0 ≡ false) es

  if-false : (b : Bool) (xs ys : List (L × A)) → b ≡ false → (if b then xs else ys) ≡ ys
  if-false true xs ys h = let bad : ⊥ = cc h in absurd bad
  if-false false xs ys h = refl

  insert_entry-new : (es : List (L × A)) (k : L) (a : A) → IsNew k es → insert_entry same es k a ≡ es ++ ((k, a) ∷ [])
  insert_entry-new [] k a new = refl
  insert_entry-new (e ∷ es) k a new = if-false (same k e.0) _ _ new.0 ∙ ap (λ (xs : List (L × A)). e ∷ xs) (insert_entry-new es k a new.1)

  IsNew_push : (k : L) (before : List (L × A)) (e : L × A) → IsNew k before → same k e.0 ≡ false → IsNew k (before ++ (e ∷ []))
  IsNew_push k [] e new h = (h, tt)
  IsNew_push k (b ∷ bs) e new h = (new.0, IsNew_push k bs e new.1 h)

  -- the keys of these entries are those of no entry before
  abbrev AreNew : List (L × A) → List (L × A) → Type 0
  AreNew before es = AllByRecursion (λ (f : L × A). IsNew f.0 before) es

  AreNew_push : (before es : List (L × A)) (e : L × A) → AreNew before es → AllByRecursion (λ y. same e.0 y ≡ false) (map (λ (f : L × A). f.0) es)
      → AreNew (before ++ (e ∷ [])) es
  AreNew_push before [] e new others = tt
  AreNew_push before (f ∷ fs) e new others =
      (IsNew_push f.0 before e new.0 (false_swapped same decides e.0 f.0 (same f.0 e.0) refl others.0), AreNew_push before fs e new.1 others.1)

  AreNew_first : (es : List (L × A)) → AreNew [] es
  AreNew_first [] = tt
  AreNew_first (e ∷ es) = (tt, AreNew_first es)

  module _ (text : L → List ℕ) (key : List ℕ → A → L) (write : A → Json) (read : Json → Reading A) (Fits : L × A → Type 0)
      (key_back : (e : L × A) → Fits e → key (text e.0) e.1 ≡ e.0) (value_back : (e : L × A) → Fits e → read (write e.1) ≡ Ok e.1) where
    entries_after-members : (before es : List (L × A)) → AreNew before es → IsDistinct same (map (λ (e : L × A). e.0) es) → All Fits es
        → entries_after same key read before (members_json text write es) ≡ Ok (before ++ es)
    entries_after-members before [] new distinct fits = ap Ok (sym (append-nil before))
    entries_after-members before (e ∷ es) new distinct fits =
        let first = All-head Fits e es fits in
        let keys = map (λ (e : L × A). e.0) es in
        rw (value_back e first, key_back e first, insert_entry-new before e.0 e.1 new.0)
        (entries_after-members (before ++ (e ∷ [])) es (AreNew_push before es e new.1 (IsDistinct-head same e.0 keys distinct))
        (IsDistinct-tail same e.0 keys distinct) (All-tail Fits e es fits) ∙ ap Ok (append_assoc before (e ∷ []) es))

    pub entries_after-members_json : (es : List (L × A)) → IsDistinct same (map (λ (e : L × A). e.0) es) → All Fits es
        → entries_after same key read [] (members_json text write es) ≡ Ok es
    entries_after-members_json es distinct fits = entries_after-members [] es (AreNew_first es) distinct fits

  -- keys differ whose texts do
  module _ (text : L → List ℕ) where
    key_differs : (d e : L × A) (t : Bool) → same d.0 e.0 ≡ t → bytes_eq (text d.0) (text e.0) ≡ false → t ≡ false
    key_differs d e true h differ =
        let equal : text d.0 ≡ text e.0 = ap text ((decides d.0 e.0).0 h) in
        let bad : ⊥ = cc ((bytes_eq-Decides (text d.0) (text e.0)).1 equal, differ) in absurd bad
    key_differs d e false h differ = refl

    keys_differ : (d : L × A) (es : List (L × A)) → AllByRecursion (λ y. bytes_eq (text d.0) y ≡ false) (map (λ (e : L × A). text e.0) es)
        → AllByRecursion (λ y. same d.0 y ≡ false) (map (λ (e : L × A). e.0) es)
    keys_differ d [] h = tt
    keys_differ d (e ∷ es) h = (key_differs d e (same d.0 e.0) refl h.0, keys_differ d es h.1)

    pub IsDistinct-from_texts : (es : List (L × A)) → IsDistinct bytes_eq (map (λ (e : L × A). text e.0) es) → IsDistinct same (map (λ (e : L × A). e.0) es)
    IsDistinct-from_texts [] h = IsDistinct-nil same
    IsDistinct-from_texts (e ∷ es) h =
        let later = map (λ (e : L × A). text e.0) es in
        IsDistinct-cons same e.0 (map (λ (e : L × A). e.0) es) (keys_differ e es (IsDistinct-head bytes_eq (text e.0) later h))
        (IsDistinct-from_texts es (IsDistinct-tail bytes_eq (text e.0) later h))

-- a map from names
name_map-name_map_json : {A : Type 0} (write : A → Json) (read : Json → Reading A) (Fits : List ℕ × A → Type 0)
    → ((e : List ℕ × A) → Fits e → read (write e.1) ≡ Ok e.1) → (es : List (List ℕ × A)) → HasDistinctKeys es → All Fits es
    → name_map read (name_map_json write es) ≡ Ok es
name_map-name_map_json write read Fits back es distinct fits = entries_after-members_json bytes_eq bytes_eq-Decides (λ k. k) (λ k a. k) write read Fits
    (λ e h. refl) back es (IsDistinct-from_AllPairs bytes_eq-Decides (map (λ e. e.0) es) distinct) fits

pub name_map-number_json : (es : List (List ℕ × ℕ)) → HasDistinctKeys es → All IdEntryFits es → name_map index (name_map_json number_json es) ≡ Ok es
name_map-number_json es distinct fits = name_map-name_map_json number_json index IdEntryFits (λ e h. index-number_json e.1 h) es distinct fits

pub interface-interface_json : (i : InterfaceView) → InterfaceFits i → interface (interface_json i) ≡ Ok i
interface-interface_json i fits =
    rw (
      nullable-string i.name,
      name_map-number_json i.types fits.type_names fits.types,
      name_map-name_map_json function_json function FunctionEntryFits (λ e h. function-function_json e.1 h) i.functions fits.function_names fits.functions,
      nullable-number_json i.in_package fits.in_package,
      nullable-number_json i.clone_of fits.clone_of,
    ) refl
