-- What core modules import, as it is noted.
use Rattle.std.proofs.Common.{◌≡◌, ℕ, ◌+◌, ◌<◌, Bool, false, ◌&&◌, List, [], ◌∷◌, ◌++◌, length, map, take, get_or, Option, Some, String, string_bytes, sym, ◌∙◌, ap, append_assoc, subst, suc, arith}
use Rattle.std.proofs.lemmas.List.{length-map, map-append, take_more}
use Rattle.std.proofs.lemmas.Option.{get_or_from_slice_get, same_Some}
use Rattle.std.specs.List.{range_with_len, slice_get}
use Rattle.std.specs.Option.{option_and_then}
use Rattle.std.specs.declared.alloc.Global.{Global}
use Rattle.wc_graph.proofs.ListLemmas.{range_more}
use Rattle.wc_read.specs.Imports.{ImportValue, import_value, import_values}
use Rattle.wc_read.specs.declared.types.Import.{Import}
use Rattle.wc_segments.specs.Segments.{SegmentsValue}
use Rattle.wc_paths.specs.Roots.{AreImportItems, import_item}
use Rattle.wc_paths.specs.declared.items.PathItem.{PathItem}
use Rattle.wc_summary.specs.CoreModules.{label_value}
use Rattle.wc_summary.specs.Entries.{EntriesView, parts_of, with_adapters}
use Rattle.wc_summary.specs.Leads.{Tags, tag_view, tags_view}
use Rattle.wc_summary.specs.Notes.{NotesParts}
use Rattle.wc_summary.specs.Parts.{ArePartsOf}
use Rattle.wc_summary.specs.declared.core_modules.Label.{Label}
use Rattle.wc_summary.proofs.AdapterPartLemmas.{no_more}
use Rattle.wc_summary.proofs.NotedLemmas.{with_both}
use Rattle.wc_summary.proofs.TagLemmas.{lists_more, lists_none}
use Rattle.wc_import_paths.specs.Joined.{AreJoined}
use Rattle.wc_import_paths.proofs.JoinedLemmas.{none_joined, one_joined}
use Rattle.wc_import_paths.proofs.ShownLemmas.{at_view}
use Rattle.wc_module_ways.specs.Adapters.{Given}
use Rattle.wc_module_ways.specs.CoreImports.{AreCoreFoundAt, AreCoreTags, AreCoreUsesAt, IsCoreUse, filled_text, is_live, live_tag, live_tag_at, root_label, segment_label}
use Rattle.wc_module_ways.specs.CoreModules.{CoreView}
use Rattle.wc_module_ways.specs.Modules.{is_of_core}
use Rattle.wc_module_ways.specs.Private.CoreImports.{AreFilled, NotesCore, NotesCores}
use Rattle.wc_module_ways.specs.Tags.{tag_if}

-- ---- the interfaces of imports, one after another

ranged : {B : Type 0} (f : ℕ → B) (k : ℕ) → map f (range_with_len 0 (k + 1)) ≡ map f (range_with_len 0 k) ++ f k ∷ []
ranged f k =
    let next : k + 1 ≡ suc k = omega arith in
    let same : 0 + k ≡ k = omega arith in
    ap (λ n. map f (range_with_len 0 n)) next ∙ (ap (map f) (range_more 0 k) ∙ (map-append f (range_with_len 0 k) ((0 + k) ∷ []) ∙ ap (λ n. map f (range_with_len 0 k) ++ f n ∷ []) same))

pub live_next : (given : List Given) (reached : List Bool) (imports : List Import) (items : List PathItem) (k : ℕ) (d : Import) (x y : PathItem) → k < length imports
    → AreImportItems (import_values imports) items → x ≡ get_or items k y → (b : Bool)
    → b ≡ (is_of_core given false (import_value (get_or imports k d)) && is_live reached x) → (old new : List (Option (String Global))) (t : Option (String Global))
    → tag_view t ≡ tag_if b (import_value (get_or imports k d)) → new ≡ old ++ t ∷ []
    → tags_view old ≡ map (live_tag_at given reached (import_values imports)) (range_with_len 0 k)
    → tags_view new ≡ map (live_tag_at given reached (import_values imports)) (range_with_len 0 (k + 1))
live_next given reached imports items k d x y lt are two b is old new t tag put h =
    let all = import_values imports in
    let i = import_value (get_or imports k d) in
    let at = at_view import_value imports k d lt in
    let item = two ∙ get_or_from_slice_get items k _ _ (are.at k i at) in
    let here : live_tag_at given reached all k ≡ tag_view t =
    ap (option_and_then (λ (j : ImportValue). live_tag given reached (import_item all k j) j)) at
    ∙ (ap (λ (z : PathItem). live_tag given reached z i) (sym item) ∙ (ap (λ (c : Bool). tag_if c i) (sym is) ∙ sym tag)) in
    ap tags_view put ∙ (map-append tag_view old (t ∷ [])
    ∙ ((λ j. h j ++ (sym here) j ∷ []) ∙ sym (ranged (live_tag_at given reached all) k)))

pub live_all : (given : List Given) (reached : List Bool) (imports : List Import) (k : ℕ) (tags : Tags) → k ≡ length imports
    → tags ≡ map (live_tag_at given reached (import_values imports)) (range_with_len 0 k)
    → tags ≡ map (live_tag_at given reached (import_values imports)) (range_with_len 0 (length (import_values imports)))
live_all given reached imports k tags all h =
    h ∙ ap (λ n. map (live_tag_at given reached (import_values imports)) (range_with_len 0 n)) (all ∙ sym (length-map imports import_value))

-- ---- what active segments fill, one after another

pub filled_next : {A : Type 0} (f : A → List ℕ) (items : List A) (k : ℕ) (d : A) (old new : List (String Global)) (t : String Global) → k < length items
    → string_bytes t ≡ f (get_or items k d) → new ≡ old ++ t ∷ [] → map string_bytes old ≡ map f (take k items)
    → map string_bytes new ≡ map f (take (k + 1) items)
filled_next f items k d old new t lt is put h =
    ap (map string_bytes) put ∙ (map-append string_bytes old (t ∷ [])
    ∙ ((λ j. h j ++ is j ∷ []) ∙ sym (ap (map f) (take_more items k d lt) ∙ map-append f (take k items) (get_or items k d ∷ []))))

pub segments_next : (s : SegmentsValue) (items : List PathItem) (texts : List (String Global)) → AreFilled s items texts → (k : ℕ) (d : PathItem) (t : String Global)
    → k < length items → k < length texts → (old now new : List Label) (l : Label) (word : List ℕ) → label_value l ≡ root_label word (get_or items k d)
    → word ≡ string_bytes (get_or texts k t) → new ≡ now ++ l ∷ [] → map label_value now ≡ map label_value old ++ map (segment_label s) (take k items)
    → map label_value new ≡ map label_value old ++ map (segment_label s) (take (k + 1) items)
segments_next s items texts are k d t lt also old now new l word is same put h =
    let x = get_or items k d in
    let text : string_bytes (get_or texts k t) ≡ filled_text s x =
    same_Some (string_bytes (get_or texts k t)) (filled_text s x)
    (sym (at_view string_bytes texts k t also) ∙ (ap (λ z. slice_get z k) are ∙ at_view (filled_text s) items k d lt)) in
    let label : label_value l ≡ segment_label s x = is ∙ ap (λ z. root_label z x) (same ∙ text) in
    ap (map label_value) put ∙ (map-append label_value now (l ∷ [])
    ∙ ((λ j. h j ++ label j ∷ [])
    ∙ (append_assoc (map label_value old) (map (segment_label s) (take k items)) (segment_label s x ∷ [])
    ∙ ap (λ z. map label_value old ++ z) (sym (ap (map (segment_label s)) (take_more items k d lt) ∙ map-append (segment_label s) (take k items) (x ∷ []))))))

-- ---- core modules, one after another

abbrev pub CoresSoFar : List ImportValue → List Given → List CoreView → ℕ → EntriesView → EntriesView → Type 0
CoresSoFar imports given cores k old now =
    NotesParts (AreJoined k (AreCoreFoundAt given cores)) (λ q. AreJoined k (AreCoreUsesAt imports given cores q)) old now

pub cores_none : (imports : List ImportValue) (given : List Given) (cores : List CoreView) (old : EntriesView) → CoresSoFar imports given cores 0 old old
cores_none imports given cores old = record {
  found = [];
  are_found = none_joined (AreCoreFoundAt given cores);
  listed = lists_none old;
  each = λ q. ([], none_joined (AreCoreUsesAt imports given cores q), no_more (parts_of old q));
}

pub cores_next : (imports : List ImportValue) (given : List Given) (cores : List CoreView) (k : ℕ) (c : CoreView) (old now new : EntriesView)
    → slice_get cores k ≡ Some c → CoresSoFar imports given cores k old now → NotesCore imports given c now new → CoresSoFar imports given cores (k + 1) old new
cores_next imports given cores k c old now new at s (tags, are, n) = record {
  found = s.found ++ n.found;
  are_found = one_joined k (AreCoreFoundAt given cores) s.found n.found s.are_found
      (λ z e. (tags, subst (λ (y : CoreView). AreCoreTags given y tags) (same_Some c z (sym at ∙ e)) are, n.are_found));
  listed = lists_more old now new s.found n.found s.listed n.listed;
  each = λ q.
      let a = s.each q in
      let b = n.each q in (
        a.0 ++ b.0,
        one_joined k (AreCoreUsesAt imports given cores q) a.0 b.0 a.1
            (λ z e. subst (λ (y : CoreView). (t : Tags) × AreCoreTags given y t × ArePartsOf t q (IsCoreUse imports t q y) b.0) (same_Some c z (sym at ∙ e))
            (tags, are, b.1)),
        b.2 ∙ (ap (with_adapters b.0) a.2 ∙ with_both (parts_of old q) a.0 b.0),
      );
}

pub cores_all : (imports : List ImportValue) (given : List Given) (cores : List CoreView) (k : ℕ) (old new : EntriesView) → k ≡ length cores
    → CoresSoFar imports given cores k old new → NotesCores imports given cores old new
cores_all imports given cores k old new all s = subst (λ (n : ℕ). CoresSoFar imports given cores n old new) all s

-- ---- four lists, put one after another

pub four_put : {A : Type 0} (none one two three four a b c d : List A) → none ≡ [] → one ≡ none ++ a → two ≡ one ++ b → three ≡ two ++ c → four ≡ three ++ d
    → four ≡ a ++ (b ++ (c ++ d))
four_put none one two three four a b c d empty first second third fourth =
    fourth
    ∙ ((λ t. (third ∙ ap (λ z. z ++ c) (second ∙ ap (λ z. z ++ b) (first ∙ ap (λ z. z ++ a) empty))) t ++ d)
    ∙ (append_assoc (a ++ b) c d ∙ append_assoc a b (c ++ d)))
