-- Indices of an export set, and what is looked up in them.
use Rattle.std.proofs.Common.{◌≡◌, ℕ, ◌<◌, All, length, take, Bool, true, false, cond, List, [], ◌∷◌, ◌++◌, map, Some, None, String, string_bytes, refl, sym, ap, ◌∙◌, subst, append-nil, Option, Contains, inl, inr, arith}
use Rattle.std.specs.Map.{lookup, set_value}
use Rattle.std.specs.Option.{option_map_or, option_to_list, MatchOption, option_and_then, option_copied, option_map}
use Rattle.std.specs.Str.{bytes_eq}
use Rattle.std.specs.String.{string_eq}
use Rattle.std.specs.declared.alloc.Global.{Global}
use Rattle.std.specs.declared.vec.Vec.{Vec}
use Rattle.std.proofs.lemmas.List.{map-append, take-map}
use Rattle.std.proofs.lemmas.List.Elements.{All-take, All-cons}
use Rattle.std.proofs.lemmas.Slice.Eq.{bytes_eq-Decides}
use Rattle.indexmap.specs.IndexMap.{insert_entry}
use Rattle.wc_resolve.specs.Views.{KeyView, key_view, InterfaceView, ItemView, function_item, interface_item, plain_key, type_item}
use Rattle.wc_names.specs.declared.export_index.ExportedInterface.{ExportedInterface}
use Rattle.wc_resolve.specs.Kinds.{ResolveView}
use Rattle.wc_adapters.specs.Entries.{Entries}
use Rattle.wc_names.specs.declared.export_names.ExportSyntax.{ExportSyntax}
use Rattle.wc_names.specs.declared.export_names.ExportSyntax.TheVariants.{Standard, Legacy}
use Rattle.wc_names.specs.ExportIndex.{IsExportIndex, exported_interface_view, interfaces_view, listed}
use Rattle.wc_names.specs.ExportNames.{if_text, interfaces_of_text, searched_interfaces, exported_interface, interface_text, interface_with_text}
use Rattle.wc_names.specs.Interfaces.{FoundInterface}
use Rattle.std.specs.Prelude.{slice_get, length}
use Rattle.std.specs.List.{cons_option, filter_map, find}
use Rattle.std.specs.Borrow.{Bor}
use Rattle.wc_resolve.specs.declared.worlds.WorldKey.{WorldKey}
use Rattle.wc_resolve.specs.contracts.worlds.WorldKeyPartialEq.TheImpl.{eq-value as world_key_eq}
use Rattle.wc_resolve.specs.Ranges.{AreIdsInRange, AreNamesIn, IsItemIn, IsKeyIn}
use Rattle.wc_resolve.proofs.KeyLemmas.{keys_law}
use Rattle.wc_maps.proofs.ListLemmas.{contains_cons, contains_head, contains_none, contains_tail}
use Rattle.wc_resolve.proofs.ViewedLemmas.{all_unviewed}
use Rattle.wc_resolve.proofs.WellFormedLemmas.{interface_names_in}
use Rattle.wc_names.specs.Keys.{as_interface, item_under, key_eq}
use Rattle.wc_texts.specs.Names.{under_name}
use Rattle.wc_names.proofs.InterfaceLemmas.{same_key}
use Rattle.wc_names.proofs.KeyLemmas.{lookup_passes}

-- the item of an exported interface
interface_item_under : (o : Option ItemView) (i : ℕ) → option_and_then as_interface o ≡ Some i
    → (item : ItemView) × (o ≡ Some item) × (as_interface item ≡ Some i)
interface_item_under None i is = absurd (let bad : ⊥ = cc is in bad)
interface_item_under (Some item) i is = (item, refl, is)

-- the key of an exported interface and the interface are in range
pub key_in_range : (r : ResolveView) (es : Entries) (key : KeyView) (i : ℕ) → All (λ (x : KeyView × ItemView). IsKeyIn r x.0) es
    → exported_interface es key ≡ Some i → IsKeyIn r key
key_in_range r es key i all is =
    let item = interface_item_under (item_under es key) i is in
    let there = lookup_passes (λ (x : KeyView × ItemView). IsKeyIn r x.0) (key_eq key) es item.0 all item.1 in
    subst (IsKeyIn r) (sym (same_key key there.0 there.2)) there.1

pub item_is_in : (r : ResolveView) (item : ItemView) (i : ℕ) → IsItemIn r item → as_interface item ≡ Some i → i < length r.interfaces
item_is_in r (interface_item j external) i h is = subst (λ z. z < length r.interfaces) (let e : j ≡ i = cc is in e) h
item_is_in r (function_item f) i h is = absurd (let bad : ⊥ = cc is in bad)
item_is_in r (type_item t) i h is = absurd (let bad : ⊥ = cc is in bad)

pub interface_in_range : (r : ResolveView) (es : Entries) (key : KeyView) (i : ℕ) → All (λ (x : KeyView × ItemView). IsItemIn r x.1) es
    → exported_interface es key ≡ Some i → i < length r.interfaces
interface_in_range r es key i all is =
    let item = interface_item_under (item_under es key) i is in
    let there = lookup_passes (λ (x : KeyView × ItemView). IsItemIn r x.1) (key_eq key) es item.0 all item.1 in
    item_is_in r item.0 i there.1 item.2

-- the type that an interface lists under a name is in range
pub listed_type_in : (r : ResolveView) (i : ℕ) (v : InterfaceView) (name : List ℕ) (t : ℕ) → AreIdsInRange r → slice_get r.interfaces i ≡ Some v
    → under_name v.types name ≡ Some t → t < length r.types
unfolding AreNamesIn
listed_type_in r i v name t in_range at is =
    (lookup_passes (λ (e : List ℕ × ℕ). e.1 < length r.types) (bytes_eq name) v.types t (interface_names_in r i v in_range at).0 is).1

-- keys of a set

found_at : (q x k : WorldKey) (b : Bool) (rest : Option WorldKey) → world_key_eq.it q x ≡ b → cond b (Some x) rest ≡ Some k
    → (rest ≡ Some k → world_key_eq.it q k ≡ true) → world_key_eq.it q k ≡ true
found_at q x k true rest test is later = subst (λ z. world_key_eq.it q z ≡ true) (let e : x ≡ k = cc is in e) test
found_at q x k false rest test is later = later is

found_passes : (ks : List WorldKey) (q k : WorldKey) → find (world_key_eq.it q) ks ≡ Some k → world_key_eq.it q k ≡ true
found_passes [] q k is = absurd (let bad : ⊥ = cc is in bad)
found_passes (x ∷ xs) q k is = found_at q x k (world_key_eq.it q x) (find (world_key_eq.it q) xs) refl is (found_passes xs q k)

there_at : (x k q : WorldKey) (xs : List WorldKey) (b : Bool) (rest : Option WorldKey) → world_key_eq.it q x ≡ b → cond b (Some x) rest ≡ Some k
    → (rest ≡ Some k → Contains (map key_view xs) (key_view q)) → Contains (key_view x ∷ map key_view xs) (key_view q)
there_at x k q xs true rest test is later =
    subst (λ (z : KeyView). Contains (key_view x ∷ map key_view xs) z) (sym ((keys_law q x).0 test)) (contains_head (map key_view xs) (key_view x))
there_at x k q xs false rest test is later = contains_tail (key_view x) (map key_view xs) (key_view q) (later is)

found_there : (ks : List WorldKey) (q k : WorldKey) → find (world_key_eq.it q) ks ≡ Some k → Contains (map key_view ks) (key_view q)
found_there [] q k is = absurd (let bad : ⊥ = cc is in bad)
found_there (x ∷ xs) q k is = there_at x k q xs (world_key_eq.it q x) (find (world_key_eq.it q) xs) refl is (found_there xs q k)

-- the key that a search found
pub key_found : (ks : List WorldKey) (q k : WorldKey) (name : List ℕ) → key_view q ≡ plain_key name → find (world_key_eq.it q) ks ≡ Some k
    → (key_view k ≡ plain_key name) × Contains (map key_view ks) (plain_key name)
key_found ks q k name is_plain is = (
  sym ((keys_law q k).0 (found_passes ks q k is)) ∙ is_plain,
  subst (λ (z : KeyView). Contains (map key_view ks) z) is_plain (found_there ks q k is),
)

missing_at : (x q : WorldKey) (xs : List WorldKey) (b : Bool) → world_key_eq.it q x ≡ b → cond b (Some x) (find (world_key_eq.it q) xs) ≡ None
    → (find (world_key_eq.it q) xs ≡ None → ¬ Contains (map key_view xs) (key_view q)) → ¬ Contains (key_view x ∷ map key_view xs) (key_view q)
missing_at x q xs true test is later h = let bad : ⊥ = cc is in bad
missing_at x q xs false test is later h =
    elim (contains_cons (key_view x) (map key_view xs) (key_view q) h) [
      | inl same ↦ let e : true ≡ false = sym ((keys_law q x).1 (sym same)) ∙ test in let bad : ⊥ = cc e in bad
      | inr rest ↦ later is rest
    ]

key_missing_of : (ks : List WorldKey) (q : WorldKey) → find (world_key_eq.it q) ks ≡ None → ¬ Contains (map key_view ks) (key_view q)
key_missing_of [] q is h = contains_none (key_view q) h
key_missing_of (x ∷ xs) q is h = missing_at x q xs (world_key_eq.it q x) refl is (key_missing_of xs q) h

pub key_missing : (ks : List WorldKey) (q : WorldKey) (name : List ℕ) → key_view q ≡ plain_key name → find (world_key_eq.it q) ks ≡ None
    → ¬ Contains (map key_view ks) (plain_key name)
key_missing ks q name is_plain is h = key_missing_of ks q is (subst (λ (z : KeyView). Contains (map key_view ks) z) (sym is_plain) h)

pub plain_key_answer : (ks : List WorldKey) (q : WorldKey) (name : List ℕ) (o : Option (Bor WorldKey)) → key_view q ≡ plain_key name
    → option_copied o ≡ find (world_key_eq.it q) ks
    → MatchOption o (¬ Contains (map key_view ks) (plain_key name)) (λ key. (key_view key.now ≡ plain_key name) × Contains (map key_view ks) (plain_key name))
plain_key_answer ks q name None is_plain is = key_missing ks q name is_plain (sym is)
plain_key_answer ks q name (Some k) is_plain is = key_found ks q k.now name is_plain (sym is)

-- lists by text: those of the keys so far, and those of the others
abbrev pub AreListed : (List ℕ → List FoundInterface) → (KeyView → Option (List ℕ × ℕ)) → List KeyView → List KeyView → Type 0
AreListed at with_text all rest =
    (q : List ℕ) → at q ++ filter_map (λ (key : KeyView). option_and_then (if_text q key) (with_text key)) rest ≡ filter_map
    (λ (key : KeyView). option_and_then (if_text q key) (with_text key)) all

-- after the last key all interfaces are listed
pub all_listed : (x : ExportSyntax) (r : ResolveView) (es : Entries) (keys : List KeyView) (rest : List WorldKey) (at : List ℕ → List FoundInterface)
    → AreListed at (interface_with_text x r es) keys (map key_view rest) → rest ≡ [] → (q : List ℕ) → at q ≡ interfaces_of_text x r es keys q
unfolding interfaces_of_text
all_listed x r es keys rest at h none q =
    sym (append-nil (at q)) ∙ (ap
    (λ z. at q ++ filter_map (λ (key : KeyView). option_and_then (if_text q key) (interface_with_text x r es key)) (map key_view z)) (sym none) ∙ h q)

all_with : {Y : Type 0} (P : Y → Type 0) (o : Option Y) (ys : List Y) → ((y : Y) → o ≡ Some y → P y) → All P ys → All P (cons_option o ys)
all_with P None ys first rest = rest
all_with P (Some y) ys first rest = All-cons P y ys (first y refl) rest

-- what a search over keys finds passes
pub all_filtered : {X Y : Type 0} (P : Y → Type 0) (h : X → Option Y) → ((x : X) (y : Y) → h x ≡ Some y → P y) → (xs : List X) → All P (filter_map h xs)
all_filtered P h found [] = λ k d small. absurd (let e : ⊥ = omega (arith, small) in e)
all_filtered P h found (x ∷ xs) = all_with P (h x) (filter_map h xs) (found x) (all_filtered P h found xs)

of_text : (r : ResolveView) (text : List ℕ) (key : KeyView) (own : Option (List ℕ)) (i : ℕ) (found : FoundInterface) → i < length r.interfaces
    → option_and_then (if_text text key) (option_map (λ (t : List ℕ). (t, i)) own) ≡ Some found → found.1 < length r.interfaces
of_text r text key None i found small is = absurd (let bad : ⊥ = cc is in bad)
of_text r text key (Some own) i found small is = at (bytes_eq text own) is where
  at : (b : Bool) → cond b (Some (key, i)) None ≡ Some found → found.1 < length r.interfaces
  at true e = subst (λ (z : FoundInterface). z.1 < length r.interfaces) (let same : (key, i) ≡ found = cc e in same) small
  at false e = absurd (let bad : ⊥ = cc e in bad)

with_text_in : (x : ExportSyntax) (r : ResolveView) (es : Entries) (text : List ℕ) (key : KeyView) (found : FoundInterface)
    → All (λ (e : KeyView × ItemView). IsItemIn r e.1) es
    → option_and_then (if_text text key) (interface_with_text x r es key) ≡ Some found → found.1 < length r.interfaces
with_text_in x r es text key found all is = at (exported_interface es key) refl is where
  at : (o : Option ℕ) → exported_interface es key ≡ o
      → option_and_then (if_text text key) (option_and_then (λ (i : ℕ). option_map (λ (t : List ℕ). (t, i)) (interface_text x r key)) o) ≡ Some found
      → found.1 < length r.interfaces
  at None here same = absurd (let bad : ⊥ = cc same in bad)
  at (Some i) here same = of_text r text key (interface_text x r key) i found (interface_in_range r es key i all here) same

-- the interfaces of a text are in range
pub interfaces_in_range : (x : ExportSyntax) (r : ResolveView) (es : Entries) (keys : List KeyView) (text : List ℕ)
    → All (λ (e : KeyView × ItemView). IsItemIn r e.1) es
    → All (λ (f : FoundInterface). f.1 < length r.interfaces) (interfaces_of_text x r es keys text)
unfolding interfaces_of_text
interfaces_in_range x r es keys text all =
    all_filtered (λ (f : FoundInterface). f.1 < length r.interfaces) (λ (key : KeyView). option_and_then (if_text text key) (interface_with_text x r es key))
    (λ key found is. with_text_in x r es text key found all is) keys

-- the interfaces that are listed under a text are in range
pub listed_in_range : (x : ExportSyntax) (r : ResolveView) (es : Entries) (keys : List KeyView) (text : List ℕ) (list : List ExportedInterface)
    → All (λ (e : KeyView × ItemView). IsItemIn r e.1) es
    → map exported_interface_view list ≡ interfaces_of_text x r es keys text → All (λ (e : ExportedInterface). e.id.0 < length r.interfaces) list
listed_in_range x r es keys text list all is =
    all_unviewed exported_interface_view (λ (f : FoundInterface). f.1 < length r.interfaces) list
    (subst (λ (z : List FoundInterface). All (λ (f : FoundInterface). f.1 < length r.interfaces) z) (sym is) (interfaces_in_range x r es keys text all))

abbrev pub is_called : List ℕ → String Global → Bool
is_called m k = bytes_eq m (string_bytes k)

module _ {X : Type 0} where
  -- after a value was written under a text that is there
  set_at : (e : String Global × X) (es : List (String Global × X)) (q m : List ℕ) (w : X) (b c d : Bool)
      → bytes_eq m (string_bytes e.0) ≡ b → bytes_eq q (string_bytes e.0) ≡ c → bytes_eq q m ≡ d
      → (b ≡ false → lookup (is_called q) (set_value (is_called m) es w) ≡ cond d (Some w) (lookup (is_called q) es))
      → lookup (is_called q) (cond b ((e.0, w) ∷ es) (e ∷ set_value (is_called m) es w)) ≡ cond d (Some w) (cond c (Some e.1) (lookup (is_called q) es))
  set_at e es q m w true true true one two three rest = ap (λ z. cond z (Some w) (lookup (is_called q) es)) two
  set_at e es q m w true true false one two three rest =
      absurd (let same : bytes_eq q m ≡ true = (bytes_eq-Decides q m).1
      ((bytes_eq-Decides q (string_bytes e.0)).0 two ∙ sym ((bytes_eq-Decides m (string_bytes e.0)).0 one)) in
      let bad : true ≡ false = sym same ∙ three in let f : ⊥ = cc bad in f)
  set_at e es q m w true false true one two three rest =
      absurd (let same : bytes_eq q (string_bytes e.0) ≡ true = (bytes_eq-Decides q (string_bytes e.0)).1
      ((bytes_eq-Decides q m).0 three ∙ (bytes_eq-Decides m (string_bytes e.0)).0 one) in
      let bad : true ≡ false = sym same ∙ two in let f : ⊥ = cc bad in f)
  set_at e es q m w true false false one two three rest = ap (λ z. cond z (Some w) (lookup (is_called q) es)) two
  set_at e es q m w false true true one two three rest =
      absurd (let same : bytes_eq m (string_bytes e.0) ≡ true = (bytes_eq-Decides m (string_bytes e.0)).1
      (sym ((bytes_eq-Decides q m).0 three) ∙ (bytes_eq-Decides q (string_bytes e.0)).0 two) in
      let bad : true ≡ false = sym same ∙ one in let f : ⊥ = cc bad in f)
  set_at e es q m w false true false one two three rest = ap (λ z. cond z (Some e.1) (lookup (is_called q) (set_value (is_called m) es w))) two
  set_at e es q m w false false d one two three rest = ap (λ z. cond z (Some e.1) (lookup (is_called q) (set_value (is_called m) es w))) two ∙ rest refl

  lookup_set : (es : List (String Global × X)) (q m : List ℕ) (old w : X) → lookup (is_called m) es ≡ Some old
      → lookup (is_called q) (set_value (is_called m) es w) ≡ cond (bytes_eq q m) (Some w) (lookup (is_called q) es)
  lookup_set [] q m old w is = absurd (let bad : ⊥ = cc is in bad)
  lookup_set (e ∷ es) q m old w is =
      set_at e es q m w (is_called m e.0) (is_called q e.0) (bytes_eq q m) refl refl refl
      (λ other. lookup_set es q m old w (sym (ap (λ z. cond z (Some e.1) (lookup (is_called m) es)) other) ∙ is))

  -- after a text was added, with its value
  added_at : (e : String Global × X) (es : List (String Global × X)) (k : String Global) (q : List ℕ) (w : X) (b c d : Bool)
      → bytes_eq (string_bytes k) (string_bytes e.0) ≡ b → bytes_eq q (string_bytes e.0) ≡ c → bytes_eq q (string_bytes k) ≡ d
      → cond b (Some e.1) (lookup (is_called (string_bytes k)) es) ≡ None
      → (lookup (is_called (string_bytes k)) es ≡ None → lookup (is_called q) (insert_entry string_eq es k w) ≡ cond d (Some w) (lookup (is_called q) es))
      → lookup (is_called q) (cond b ((e.0, w) ∷ es) (e ∷ insert_entry string_eq es k w)) ≡ cond d (Some w) (cond c (Some e.1) (lookup (is_called q) es))
  added_at e es k q w true c d one two three none rest = absurd (let bad : ⊥ = cc none in bad)
  added_at e es k q w false true true one two three none rest =
      absurd (let same : bytes_eq (string_bytes k) (string_bytes e.0) ≡ true =
      (bytes_eq-Decides (string_bytes k) (string_bytes e.0)).1 (sym ((bytes_eq-Decides q (string_bytes k)).0 three) ∙
      (bytes_eq-Decides q (string_bytes e.0)).0 two) in
      let bad : true ≡ false = sym same ∙ one in let f : ⊥ = cc bad in f)
  added_at e es k q w false true false one two three none rest = ap (λ z. cond z (Some e.1) (lookup (is_called q) (insert_entry string_eq es k w))) two
  added_at e es k q w false false d one two three none rest = ap (λ z. cond z (Some e.1) (lookup (is_called q) (insert_entry string_eq es k w))) two ∙ rest none

  lookup_added : (es : List (String Global × X)) (k : String Global) (q : List ℕ) (w : X) → lookup (is_called (string_bytes k)) es ≡ None
      → lookup (is_called q) (insert_entry string_eq es k w) ≡ cond (bytes_eq q (string_bytes k)) (Some w) (lookup (is_called q) es)
  lookup_added [] k q w none = refl
  lookup_added (e ∷ es) k q w none =
      added_at e es k q w (string_eq k e.0) (is_called q e.0) (bytes_eq q (string_bytes k)) refl refl refl none (λ h. lookup_added es k q w h)

-- the lists under all texts
listed_with : (q m : List ℕ) (key : KeyView) (i : ℕ) (b : Bool) (before after : List FoundInterface) → bytes_eq q m ≡ b
    → (b ≡ true → after ≡ before ++ (key, i) ∷ []) → (b ≡ false → after ≡ before)
    → after ≡ before ++ option_to_list (if_text q key (m, i))
listed_with q m key i true before after same pushed kept = pushed refl ∙ ap (λ z. before ++ option_to_list (cond z (Some (key, i)) None)) (sym same)
listed_with q m key i false before after same pushed kept =
    kept refl ∙ (sym (append-nil before) ∙ ap (λ z. before ++ option_to_list (cond z (Some (key, i)) None)) (sym same))

pushed_view : (old new : Vec ExportedInterface Global) (x : ExportedInterface) → new.items ≡ old.items ++ x ∷ []
    → interfaces_view new ≡ interfaces_view old ++ exported_interface_view x ∷ []
pushed_view old new x is = ap (map exported_interface_view) is ∙ map-append exported_interface_view old.items (x ∷ [])

-- one more interface is listed after others of its text
pub listed_after : (es new_entries : List (String Global × Vec ExportedInterface Global)) (m : List ℕ) (old new : Vec ExportedInterface Global)
    (x : ExportedInterface)
    → new_entries ≡ set_value (is_called m) es new → lookup (is_called m) es ≡ Some old → new.items ≡ old.items ++ x ∷ []
    → (q : List ℕ) → listed new_entries q ≡ listed es q ++ option_to_list (if_text q (key_view x.key.now) (m, x.id.0))
listed_after es new_entries m old new x written found is q =
    listed_with q m (key_view x.key.now) x.id.0 (bytes_eq q m) (listed es q) (listed new_entries q) refl
    (λ same. entries same
    ∙ (pushed_view old new x is ∙ ap (λ z. option_map_or interfaces_view z [] ++ exported_interface_view x ∷ [])
    (sym (ap (λ z. lookup (is_called z) es) ((bytes_eq-Decides q m).0 same) ∙ found))))
    (λ other. at other) where
      all : listed new_entries q ≡ option_map_or interfaces_view (cond (bytes_eq q m) (Some new) (lookup (is_called q) es)) []
      all = ap (λ z. listed z q) written ∙ ap (λ z. option_map_or interfaces_view z []) (lookup_set es q m old new found)

      entries : bytes_eq q m ≡ true → listed new_entries q ≡ interfaces_view new
      entries same = all ∙ ap (λ z. option_map_or interfaces_view (cond z (Some new) (lookup (is_called q) es)) []) same

      at : bytes_eq q m ≡ false → listed new_entries q ≡ listed es q
      at other = all ∙ ap (λ z. option_map_or interfaces_view (cond z (Some new) (lookup (is_called q) es)) []) other

-- one more interface is listed as the first of its text
pub listed_first : (es new_entries : List (String Global × Vec ExportedInterface Global)) (k : String Global) (new : Vec ExportedInterface Global)
    (x : ExportedInterface)
    → new_entries ≡ insert_entry string_eq es k new → lookup (is_called (string_bytes k)) es ≡ None → new.items ≡ x ∷ []
    → (q : List ℕ) → listed new_entries q ≡ listed es q ++ option_to_list (if_text q (key_view x.key.now) (string_bytes k, x.id.0))
listed_first es new_entries k new x written none is q =
    listed_with q (string_bytes k) (key_view x.key.now) x.id.0 (bytes_eq q (string_bytes k)) (listed es q) (listed new_entries q) refl
    (λ same. all
    ∙ (ap (λ z. option_map_or interfaces_view (cond z (Some new) (lookup (is_called q) es)) []) same
    ∙ (ap (map exported_interface_view) is
    ∙ ap (λ z. option_map_or interfaces_view z [] ++ exported_interface_view x ∷ [])
    (sym (ap (λ z. lookup (is_called z) es) ((bytes_eq-Decides q (string_bytes k)).0 same) ∙ none)))))
    (λ other. all ∙ ap (λ z. option_map_or interfaces_view (cond z (Some new) (lookup (is_called q) es)) []) other) where
      all : listed new_entries q ≡ option_map_or interfaces_view (cond (bytes_eq q (string_bytes k)) (Some new) (lookup (is_called q) es)) []
      all = ap (λ z. listed z q) written ∙ ap (λ z. option_map_or interfaces_view z []) (lookup_added es k q new none)

-- the interfaces that are searched

module _ (x : ExportSyntax) (r : ResolveView) (es : Entries) (ks : List KeyView) (entries : List (String Global × Vec ExportedInterface Global))
    (index : IsExportIndex x r es ks entries) (text : List ℕ)
    (v : Vec ExportedInterface Global) (list : List ExportedInterface) (found : Some v ≡ lookup (is_called text) entries) (items : list ≡ v.items) where
  all_of_text : map exported_interface_view list ≡ interfaces_of_text x r es ks text
  all_of_text = ap (map exported_interface_view) items ∙ (ap (λ o. option_map_or interfaces_view o []) found ∙ index.are_listed text)

  in_range : All (λ (e : ExportedInterface). e.id.0 < length r.interfaces) list
  in_range = listed_in_range x r es ks text list index.are_items_in all_of_text

  pub first_searched : (first : List ExportedInterface) → x ≡ Standard → first ≡ take 1 list
      → (map exported_interface_view first ≡ searched_interfaces x r es ks text) × All (λ (e : ExportedInterface). e.id.0 < length r.interfaces) first
  first_searched first by_standard is = (
    ap (map exported_interface_view) is ∙ (sym (take-map exported_interface_view 1 list) ∙ (ap (take 1) all_of_text ∙ sym (first_of by_standard))),
    subst (λ z. All (λ (e : ExportedInterface). e.id.0 < length r.interfaces) z) (sym is)
        (All-take (λ (e : ExportedInterface). e.id.0 < length r.interfaces) 1 list in_range),
  ) where
    first_of : x ≡ Standard → searched_interfaces x r es ks text ≡ take 1 (interfaces_of_text x r es ks text)
    first_of b = ap (λ z. searched_interfaces z r es ks text) b ∙ ap (λ z. take 1 (interfaces_of_text z r es ks text)) (sym b)

  pub all_searched : x ≡ Legacy
      → (map exported_interface_view list ≡ searched_interfaces x r es ks text) × All (λ (e : ExportedInterface). e.id.0 < length r.interfaces) list
  all_searched by_legacy = (
    all_of_text ∙ (ap (λ z. interfaces_of_text z r es ks text) by_legacy ∙ ap (λ z. searched_interfaces z r es ks text) (sym by_legacy)),
    in_range,
  )
