-- Indices of what a library is passed.
use Rattle.std.proofs.Common.{◌≡◌, ℕ, ◌<◌, ◌+◌, Bool, true, false, cond, is_some, List, [], ◌∷◌, ◌++◌, length, map, take, get_or, Option, Some, None, String, string_bytes, refl, sym, ap, subst, ◌∙◌}
use Rattle.std.specs.Borrow.{Bor}
use Rattle.std.specs.Map.{lookup}
use Rattle.std.specs.Option.{option_and_then, option_map}
use Rattle.std.specs.Str.{bytes_eq}
use Rattle.std.proofs.lemmas.List.{map-append, take_more}
use Rattle.std.specs.declared.alloc.Global.{Global}
use Rattle.indexmap.specs.IndexMap.{insert_entry}
use Rattle.wc_adapters.specs.declared.adapters.Item.{Item}
use Rattle.wc_adapters.specs.declared.adapters.Instance.{Instance}
use Rattle.wc_adapters.specs.Adapters.{InstanceView, LibraryView, LibraryItemView, argument_view, instance_view, library_item_view}
use Rattle.wc_maps.proofs.LookupLemmas.{lookup_viewed}
use Rattle.wc_validate.specs.declared.imports.arguments.Argument.{Argument}
use Rattle.wc_validate.specs.Private.Imports.Arguments.{AreMatched, IsArgumentOf, IsIndexOf, Matches, entry_among, entry_by, item_entry_of, module_entry}
use Rattle.wc_validate.specs.Imports.Record.{alias_entry, argument_entry, library_entry}
use Rattle.wc_validate.proofs.IndexLemmas.{index_kept, index_more, matches_more, matches_passed}

abbrev pub Text : Type 0
Text = Bor (List ℕ)

abbrev pub is_text : List ℕ → Text → Bool
is_text m k = bytes_eq m k.now

new_at : {X : Type 0} (es : List (Text × X)) (e : Text × X) (k : Text) (v : X) (b : Bool) → is_some (cond b (Some e.1) (lookup (is_text k.now) es)) ≡ false
    → (is_some (lookup (is_text k.now) es) ≡ false → insert_entry (λ x. is_text x.now) es k v ≡ es ++ (k, v) ∷ [])
    → cond b ((e.0, v) ∷ es) (e ∷ insert_entry (λ x. is_text x.now) es k v) ≡ e ∷ (es ++ (k, v) ∷ [])
new_at es e k v true h rest = absurd (let bad : ⊥ = cc h in bad)
new_at es e k v false h rest = ap (λ z. e ∷ z) (rest h)

-- a text that is not there goes after the others
pub text_added : {X : Type 0} (es : List (Text × X)) (k : Text) (v : X) → is_some (lookup (is_text k.now) es) ≡ false
    → insert_entry (λ x. is_text x.now) es k v ≡ es ++ (k, v) ∷ []
text_added [] k v h = refl
text_added (e ∷ es) k v h = new_at es e k v (is_text k.now e.0) h (text_added es k v)

-- what is found among the views
item_there : (es : List (Text × Bor Item)) (m : List ℕ)
    → option_map (λ (i : Bor Item). library_item_view i.now) (lookup (is_text m) es) ≡ lookup (bytes_eq m) (map item_entry_of es)
item_there es m = lookup_viewed (λ (k : Text). k.now) (λ (i : Bor Item). library_item_view i.now) (is_text m) (bytes_eq m) (λ k. refl) es

pub is_some_map : {X Y : Type 0} (f : X → Y) (o : Option X) → is_some (option_map f o) ≡ is_some o
is_some_map f None = refl
is_some_map f (Some x) = refl

pub item_found : (es : List (Text × Bor Item)) (m : List ℕ) (copied : Option (Bor Item)) (o : Option (Bor Item)) → copied ≡ o → o ≡ lookup (is_text m) es
    → option_map (λ (i : Bor Item). library_item_view i.now) copied ≡ lookup (bytes_eq m) (map item_entry_of es)
item_found es m copied o same is = ap (option_map (λ (i : Bor Item). library_item_view i.now)) (same ∙ is) ∙ item_there es m

pub item_added : (es new : List (Text × Bor Item)) (k : Text) (item : Bor Item) (there : Bool) (entries : List (List ℕ × LibraryItemView))
    → new ≡ insert_entry (λ x. is_text x.now) es k item → there ≡ is_some (lookup (is_text k.now) es) → there ≡ false
    → IsIndexOf (map item_entry_of es) entries → IsIndexOf (map item_entry_of new) (entries ++ (k.now, library_item_view item.now) ∷ [])
item_added es new k item there entries put is absent same =
    subst (λ z. IsIndexOf z (entries ++ (k.now, library_item_view item.now) ∷ []))
    (sym (ap (map item_entry_of) (put ∙ text_added es k item (sym is ∙ absent)) ∙ map-append item_entry_of es ((k, item) ∷ [])))
    (index_more (map item_entry_of es) entries k.now (library_item_view item.now) same)

pub item_passed : (es : List (Text × Bor Item)) (k : List ℕ) (v : LibraryItemView) (there : Bool) (entries : List (List ℕ × LibraryItemView))
    → there ≡ is_some (lookup (is_text k) es) → there ≡ true
    → IsIndexOf (map item_entry_of es) entries → IsIndexOf (map item_entry_of es) (entries ++ (k, v) ∷ [])
item_passed es k v there entries is present same =
    index_kept (map item_entry_of es) entries k v same (ap is_some (sym (item_there es k))
    ∙ (is_some_map (λ (i : Bor Item). library_item_view i.now) (lookup (is_text k) es) ∙ (sym is ∙ present)))

-- the same of arguments
argument_there : (es : List (Text × Argument)) (m : List ℕ)
    → option_map (λ (a : Argument). a) (lookup (is_text m) es) ≡ lookup (bytes_eq m) (map module_entry es)
argument_there es m = lookup_viewed (λ (k : Text). k.now) (λ (a : Argument). a) (is_text m) (bytes_eq m) (λ k. refl) es

itself : {X : Type 0} (o : Option X) → option_map (λ (x : X). x) o ≡ o
itself None = refl
itself (Some x) = refl

pub argument_found : (es : List (Text × Argument)) (m : List ℕ) (o : Option Argument) → o ≡ lookup (is_text m) es
    → lookup (bytes_eq m) (map module_entry es) ≡ o
argument_found es m o is = sym (argument_there es m) ∙ (itself (lookup (is_text m) es) ∙ sym is)

pub entry_is : (es : List (Text × Argument)) (m name : List ℕ) (o : Option Argument) → o ≡ lookup (is_text m) es
    → option_and_then (entry_by m name) o ≡ entry_among (map module_entry es) m name
entry_is es m name o is = ap (option_and_then (entry_by m name)) (sym (argument_found es m o is))

pub argument_added : (es new : List (Text × Argument)) (k : Text) (a : Argument) (v : InstanceView) (there : Bool) (entries : List (List ℕ × InstanceView))
    → new ≡ insert_entry (λ x. is_text x.now) es k a → there ≡ is_some (lookup (is_text k.now) es) → there ≡ false
    → IsArgumentOf a v → AreMatched (map module_entry es) entries → AreMatched (map module_entry new) (entries ++ (k.now, v) ∷ [])
argument_added es new k a v there entries put is absent serves same =
    subst (λ z. AreMatched z (entries ++ (k.now, v) ∷ [])) (sym (ap (map module_entry) (put ∙ text_added es k a (sym is ∙ absent))
    ∙ map-append module_entry es ((k, a) ∷ [])))
    (matches_more (map module_entry es) entries k.now v same a serves)

pub argument_passed : (es : List (Text × Argument)) (k : List ℕ) (v : InstanceView) (there : Bool) (entries : List (List ℕ × InstanceView))
    → there ≡ is_some (lookup (is_text k) es) → there ≡ true
    → AreMatched (map module_entry es) entries → AreMatched (map module_entry es) (entries ++ (k, v) ∷ [])
argument_passed es k v there entries is present same =
    matches_passed (map module_entry es) entries k v same (ap is_some (argument_found es k (lookup (is_text k) es) refl) ∙ (sym is ∙ present))

-- what serves each import as the arguments of a library do
served_at : (m name : List ℕ) (a : Option Argument) (v : Option InstanceView) → Matches a v
    → option_and_then (entry_by m name) a ≡ option_and_then (argument_entry m name) v
served_at m name None None h = refl
served_at m name (Some a) (Some v) h = h m name
served_at m name (Some a) None h = absurd h
served_at m name None (Some v) h = absurd h

pub served : (index : List (List ℕ × Argument)) (l : LibraryView) → AreMatched index l.arguments → (m name : List ℕ)
    → entry_among index m name ≡ library_entry (Some l) m name
served index l same m name = served_at m name (lookup (bytes_eq m) index) (lookup (bytes_eq m) l.arguments) (same m)

-- one more of a list
mapped_next : {X Y : Type 0} (f : X → Y) (xs : List X) (i : ℕ) (x : X) → i < length xs → x ≡ get_or xs i x
    → map f (take (i + 1) xs) ≡ map f (take i xs) ++ f x ∷ []
mapped_next f xs i x h is = ap (map f) (take_more xs i x h) ∙ (map-append f (take i xs) (get_or xs i x ∷ []) ∙ ap (λ z. map f (take i xs) ++ f z ∷ []) (sym is))

pub items_next : (items : List Item) (i : ℕ) (x : Item) (index : List (List ℕ × LibraryItemView)) (k : List ℕ) → i < length items → x ≡ get_or items i x
    → k ≡ string_bytes x.alias
    → IsIndexOf index (map alias_entry (map library_item_view (take i items)) ++ (k, library_item_view x) ∷ [])
    → IsIndexOf index (map alias_entry (map library_item_view (take (i + 1) items)))
items_next items i x index k h is named same =
    let more = ap (map alias_entry) (mapped_next library_item_view items i x h is) ∙ map-append alias_entry (map library_item_view (take i items))
    (library_item_view x ∷ []) in
    subst (IsIndexOf index) (ap (λ z. map alias_entry (map library_item_view (take i items)) ++ (z, library_item_view x) ∷ []) named ∙ sym more) same

pub arguments_next : (arguments : List (String Global × Instance)) (i : ℕ) (x : String Global × Instance) (index : List (List ℕ × Argument)) (k : List ℕ)
    → i < length arguments → x ≡ get_or arguments i x → k ≡ string_bytes x.0
    → AreMatched index (map argument_view (take i arguments) ++ (k, instance_view x.1) ∷ []) → AreMatched index (map argument_view (take (i + 1) arguments))
arguments_next arguments i x index k h is named same =
    subst (AreMatched index) (ap (λ z. map argument_view (take i arguments) ++ (z, instance_view x.1) ∷ []) named
    ∙ sym (mapped_next argument_view arguments i x h is)) same
