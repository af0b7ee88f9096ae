-- The parts of core modules, and the exports that the main module imports of them.
use Rattle.std.proofs.Common.{◌≡◌, ℕ, ◌+◌, ◌<◌, true, false, cond, ◌||◌, All, List, [], ◌∷◌, ◌++◌, length, map, take, get_or, Option, refl, sym, ◌∙◌, ap, append_assoc, append-nil, subst, inl, inr}
use Rattle.std.proofs.lemmas.Bool.{cases_Bool}
use Rattle.std.proofs.lemmas.List.{map-append}
use Rattle.std.proofs.lemmas.List.Elements.{All-contains}
use Rattle.std.proofs.lemmas.Option.{get_or_from_slice_get, slice_get-get_or}
use Rattle.std.specs.Borrow.{Bor}
use Rattle.std.specs.List.{list_any}
use Rattle.std.specs.Option.{option_map_or}
use Rattle.std.specs.Str.{bytes_eq}
use Rattle.indexmap.specs.IndexSet.{insert_key}
use Rattle.wc_maps.specs.Texts.{is_in}
use Rattle.wc_texts.specs.Names.{first_occurrences}
use Rattle.wc_gc.proofs.NameSetLemmas.{distinct_more}
use Rattle.wc_read.specs.Imports.{ImportValue}
use Rattle.wc_why.specs.Part.{PartView, part_view}
use Rattle.wc_why.specs.Texts.{text_of}
use Rattle.wc_why.specs.declared.part.Part.{Part}
use Rattle.wc_component_file.specs.Renamed.{original_import_name}
use Rattle.wc_import_paths.proofs.PickedLemmas.{taken_more}
use Rattle.wc_module_ways.specs.AdapterNames.{is_name}
use Rattle.wc_module_ways.specs.CoreModules.{HasCore, core_view}
use Rattle.wc_module_ways.specs.CoreParts.{IsPartOfCore, linked_name}
use Rattle.wc_module_ways.specs.Private.CoreParts.{PutsCoreParts}
use Rattle.wc_module_ways.specs.declared.core_module.CoreModule.{CoreModule}
use Rattle.wc_module_ways.proofs.MatchedLemmas.{matched_next, none_matched}

-- ---- the names of linked exports, one after another

any_text : (keys : List (Bor (List ℕ))) (x : Bor (List ℕ)) → list_any (is_name x) keys ≡ list_any (bytes_eq x.now) (map text_of keys)
any_text [] x = refl
any_text (k ∷ keys) x = ap (λ b. is_name x k || b) (any_text keys x)

texts_more : (keys : List (Bor (List ℕ))) (x : Bor (List ℕ)) → map text_of (insert_key is_name keys x) ≡ insert_key bytes_eq (map text_of keys) x.now
texts_more keys x =
    elim (cases_Bool (list_any (is_name x) keys)) [
      | inl there ↦ rw (sym (any_text keys x), there) refl
      | inr new ↦ rw (sym (any_text keys x), new) (map-append text_of keys (x ∷ []))
    ]

pub linked_more : (f : List ℕ → List ℕ) (xs : List (Bor (List ℕ))) (k : ℕ) (d x : Bor (List ℕ)) (keys new : List (Bor (List ℕ))) → k < length xs
    → x.now ≡ f (get_or xs k d).now → map text_of keys ≡ first_occurrences (map f (map text_of (take k xs))) → new ≡ insert_key is_name keys x
    → map text_of new ≡ first_occurrences (map f (map text_of (take (k + 1) xs)))
linked_more f xs k d x keys new lt is known put =
    let before = map f (map text_of (take k xs)) in
    let v = f (get_or xs k d).now in
    let more : map f (map text_of (take (k + 1) xs)) ≡ before ++ v ∷ [] =
    ap (map f) (taken_more text_of xs k d lt) ∙ map-append f (map text_of (take k xs)) ((get_or xs k d).now ∷ []) in
    ap (map text_of) put
    ∙ (texts_more keys x
    ∙ ((λ t. insert_key bytes_eq (known t) (is t))
    ∙ (sym (distinct_more before v) ∙ sym (ap first_occurrences more))))

-- a name that an export has; and one that none has

pub linked_itself : (names : List (List ℕ)) (name : List ℕ) → is_in names name ≡ true → name ≡ linked_name names name
linked_itself names name on = sym (ap (λ b. cond b name (option_map_or (λ (n : List ℕ). n) (original_import_name name) name)) on)

pub linked_other : (names : List (List ℕ)) (name : List ℕ) (o : Option (List ℕ)) → is_in names name ≡ false → o ≡ original_import_name name
    → option_map_or (λ (n : List ℕ). n) o name ≡ linked_name names name
linked_other names name o off is =
    sym ((λ t. cond (off t) name (option_map_or (λ (n : List ℕ). n) (original_import_name name) name)) ∙ ap (λ z. option_map_or (λ (n : List ℕ). n) z name) (sym is))

-- ---- parts, one after another

pub has_core_at : (xs : List CoreModule) → All HasCore xs → (k : ℕ) (d : CoreModule) → k < length xs → HasCore (get_or xs k d)
has_core_at xs h k d lt =
    let x = get_or xs k d in All-contains HasCore xs x h (k, lt, get_or_from_slice_get xs k x x (slice_get-get_or xs k d lt))

pub no_core_parts : (imports : List ImportValue) (old : List PartView) → PutsCoreParts imports [] old old
no_core_parts imports old = record { parts = []; are_parts = none_matched (IsPartOfCore imports) [] refl; put = sym (append-nil old) }

pub core_parts_more : (imports : List ImportValue) (xs : List CoreModule) (k : ℕ) (d : CoreModule) (old : List PartView) (now new : List Part) (p : Part) → k < length xs
    → PutsCoreParts imports (map core_view (take k xs)) old (map part_view now) → IsPartOfCore imports (core_view (get_or xs k d)) (part_view p) → new ≡ now ++ p ∷ []
    → PutsCoreParts imports (map core_view (take (k + 1) xs)) old (map part_view new)
core_parts_more imports xs k d old now new p lt h is put =
    subst (λ z. PutsCoreParts imports z old (map part_view new)) (sym (taken_more core_view xs k d lt))
    (record {
      parts = h.parts ++ part_view p ∷ [];
      are_parts = matched_next (IsPartOfCore imports) (map core_view (take k xs)) h.parts (core_view (get_or xs k d)) (part_view p) h.are_parts is;
      put = ap (map part_view) put ∙ (map-append part_view now (p ∷ []) ∙ (ap (λ z. z ++ part_view p ∷ []) h.put ∙ append_assoc old h.parts (part_view p ∷ [])));
    })
