-- Sets of functions and drops that are imported.
use Rattle.std.proofs.Common.{◌≡◌, ℕ, List, [], ◌∷◌, ◌++◌, Bool, true, false, cond, ◌&&◌, ◌||◌, Option, Some, None, String, string_bytes, nat_eq, refl, sym, ap, ◌∙◌, inl, inr}
use Rattle.std.proofs.Common.{subst, append-nil, append_assoc, is_some}
use Rattle.std.specs.Prelude.{◌==◌, if◌then◌else◌}
use Rattle.std.specs.declared.alloc.Global.{Global}
use Rattle.std.specs.Map.{lookup}
use Rattle.std.proofs.lemmas.Bool.{cases_Bool}
use Rattle.indexmap.specs.IndexSet.{IndexSet, contains_text, insert_key}
use Rattle.std.specs.List.{flat_map, list_any}
use Rattle.std.proofs.lemmas.Grind.{flat_map-append}
use Rattle.std.proofs.lemmas.List.{map-append}
use Rattle.std.specs.Option.{option_eq, option_map, option_map_or}
use Rattle.std.specs.Str.{bytes_eq}
use Rattle.std.specs.String.{string_eq}
use Rattle.std.proofs.lemmas.List.Folds.{list_any-append}
use Rattle.std.proofs.lemmas.Slice.Eq.{bytes_eq-Decides}
use Rattle.std.proofs.Math.Bool.{and-false, and-true, or-false, or-true}
use Rattle.wc_resolve.specs.declared.ids.InterfaceId.{InterfaceId}
use Rattle.wc_resolve.specs.Dependencies.{id_of_interface}
use Rattle.wc_resolve.specs.declared.functions.AbiVariant.{AbiVariant}
use Rattle.wc_resolve.specs.declared.functions.AbiVariant.TheVariants.{GuestImport, GuestImportAsync}
use Rattle.wc_resolve.specs.declared.ids.TypeId.{TypeId}
use Rattle.wc_resolve.specs.Live.{with_live}
use Rattle.wc_resolve.specs.Roots.{indices}
use Rattle.wc_resolve.proofs.KeyLemmas.{nat_from}
use Rattle.wc_names.specs.Imports.{import_abi}
use Rattle.wc_names.specs.Views.{FunctionImportView, ImportView, function_import, imported_resource_drop, interface_func, world_func}
use Rattle.wc_validate.specs.Imports.Map.{imports_in}
use Rattle.wc_validate.specs.Validate.{ModuleRecord}
use Rattle.wc_world.specs.Slots.{all_imports, imports_of}
use Rattle.wc_world.specs.Views.{NamedWorldAdapter}
use Rattle.wc_world.specs.declared.imported_items.ImportedItems.{ImportedItems}
use Rattle.wc_world.specs.Lowering.{is_drop_of, is_import_of, same_call}
use Rattle.wc_world.specs.Private.ImportedItems.{AreCalled, AreImported, IsCall, NamesByInterface, dropped_resource, has_called, interface_index, interface_of, is_in, same_of}
use Rattle.wc_world.proofs.UsedLemmas.{turned}

-- the set of ids, by their indices
pub ids_in : (keys : List TypeId) (id : TypeId) → list_any (λ (k : TypeId). id.0 == k.0) keys ≡ is_in (indices keys) id.0
ids_in [] id = refl
ids_in (k ∷ keys) id = ap (λ b. (id.0 == k.0) || b) (ids_in keys id)

interfaces_turned : (a b : Option InterfaceId) → option_eq (λ (i j : InterfaceId). i.0 == j.0) a b ≡ option_eq nat_eq (option_map id_of_interface b)
    (option_map id_of_interface a)
interfaces_turned None None = refl
interfaces_turned None (Some b) = refl
interfaces_turned (Some a) None = refl
interfaces_turned (Some a) (Some b) = turned a.0 b.0

or_last : (e a p : Bool) → e ≡ p → cond e true a ≡ (a || (p || false))
or_last true true true h = refl
or_last true false true h = refl
or_last false true false h = refl
or_last false false false h = refl
or_last true a false h = absurd (let bad : ⊥ = cc h in bad)
or_last false a true h = absurd (let bad : ⊥ = cc h in bad)

-- one more is added to a set, and to a list
pub added_last : {X : Type 0} (test : X → Bool) (xs : List X) (x : X) (new old e : Bool) → new ≡ cond e true old → old ≡ list_any test xs → e ≡ test x
    → new ≡ list_any test (xs ++ x ∷ [])
added_last test xs x new old e put same is =
    put ∙ (or_last e old (test x) is ∙ (ap (λ b. b || (test x || false)) same ∙ sym (list_any-append test xs (x ∷ []))))

-- one that passes no test
pub passed_last : {X : Type 0} (test : X → Bool) (xs : List X) (x : X) (b : Bool) → b ≡ list_any test xs → test x ≡ false → b ≡ list_any test (xs ++ x ∷ [])
passed_last test xs x b same none =
    same ∙ (sym (or-false (list_any test xs)) ∙ (ap (λ c. list_any test xs || (c || false)) (sym none) ∙ sym (list_any-append test xs (x ∷ []))))

-- a name more among others
abbrev pub among : List (String Global) → List ℕ → Bool
among keys name = list_any (λ (k : String Global). bytes_eq name (string_bytes k)) keys

there_already : (keys : List (String Global)) (k : String Global) (name : List ℕ) → list_any (string_eq k) keys ≡ true → (b : Bool) → bytes_eq name (string_bytes k) ≡ b
    → among keys name ≡ cond b true (among keys name)
there_already keys k name there true is = ap (among keys) ((bytes_eq-Decides name (string_bytes k)).0 is) ∙ there
there_already keys k name there false is = refl

name_inserted : (keys : List (String Global)) (k : String Global) (name : List ℕ) → among (insert_key string_eq keys k) name ≡ cond (bytes_eq name (string_bytes k)) true (among keys name)
name_inserted keys k name = elim (cases_Bool (list_any (string_eq k) keys)) [
  | inl there ↦ ap (λ b. among (if b then keys else keys ++ k ∷ []) name) there ∙ there_already keys k name there (bytes_eq name (string_bytes k)) refl
  | inr new ↦
      ap (λ b. among (if b then keys else keys ++ k ∷ []) name) new
      ∙ (list_any-append (λ (x : String Global). bytes_eq name (string_bytes x)) keys (k ∷ [])
      ∙ sym (or_last (bytes_eq name (string_bytes k)) (among keys name) (bytes_eq name (string_bytes k)) refl))
]

one_interface : (a b : Option InterfaceId) → same_of a b ≡ true → a ≡ b
one_interface None None h = refl
one_interface None (Some b) h = absurd (let bad : ⊥ = cc h in bad)
one_interface (Some a) None h = absurd (let bad : ⊥ = cc h in bad)
one_interface (Some a) (Some b) h = ap at (nat_from a.0 b.0 h) where
  at : ℕ → Option InterfaceId
  at n = Some (record { 0 = n })

abbrev pub has : {S : Type 0} → Option (IndexSet (String Global) S) → List ℕ → Bool
has names name = option_map_or (λ others. contains_text others name) names false

-- a name is put among those of its interface
module _ {S : Type 0} (old new : NamesByInterface S) (interface : Option InterfaceId) (name : String Global) (group : IndexSet (String Global) S) (keys : List (String Global))
    (put : (q : Option InterfaceId) → lookup (same_of q) new ≡ cond (same_of interface q) (Some group) (lookup (same_of q) old))
    (inserted : group.keys ≡ insert_key string_eq keys name) (before : (n : List ℕ) → has_called old interface n ≡ among keys n) where
  name_put : (q : Option InterfaceId) (n : List ℕ) → has_called new q n ≡ cond (same_of interface q && bytes_eq n (string_bytes name)) true (has_called old q n)
  name_put q n = elim (cases_Bool (same_of interface q)) [
    | inl same ↦
        let own : interface ≡ q = one_interface interface q same in
        ap (λ o. has o n) (put q ∙ ap (λ b. cond b (Some group) (lookup (same_of q) old)) same)
        ∙ (ap (λ z. among z n) inserted
        ∙ (name_inserted keys name n
        ∙ (ap (λ z. cond (bytes_eq n (string_bytes name)) true z) (sym (before n) ∙ ap (λ z. has_called old z n) own)
        ∙ ap (λ b. cond (b && bytes_eq n (string_bytes name)) true (has_called old q n)) (sym same))))
    | inr other ↦
        ap (λ o. has o n) (put q ∙ ap (λ b. cond b (Some group) (lookup (same_of q) old)) other)
        ∙ ap (λ b. cond (b && bytes_eq n (string_bytes name)) true (has_called old q n)) (sym other)
  ]

  pub call_put : (abi : AbiVariant) (imports : List ImportView) (i : ImportView) (text : List ℕ) → string_bytes name ≡ text → IsCall abi (interface_index interface, text) i
      → AreCalled abi imports old → AreCalled abi (imports ++ i ∷ []) new
  call_put abi imports i text is call same q n =
      added_last (is_import_of (interface_index q) n abi) imports i (has_called new q n) (has_called old q n) (same_of interface q && bytes_eq n (string_bytes name)) (name_put q n) (same q n)
      (ap (λ b. b && bytes_eq n (string_bytes name)) (interfaces_turned interface q)
      ∙ (ap (λ z. option_eq nat_eq (interface_index q) (interface_index interface) && bytes_eq n z) is ∙ sym (call (interface_index q) n)))

-- no name is found where an interface has none
missing : {S : Type 0} (names : Option (IndexSet (String Global) S)) (name : List ℕ) → is_some names ≡ false → has names name ≡ false
missing None name h = refl
missing (Some others) name h = absurd (let bad : ⊥ = cc h in bad)

pub none_called : {S : Type 0} (names : NamesByInterface S) (interface : Option InterfaceId) (abi : AbiVariant) (imports : List ImportView) → is_some (lookup (same_of interface) names) ≡ false
    → AreCalled abi imports names → (name : List ℕ) → list_any (is_import_of (interface_index interface) name abi) imports ≡ false
none_called names interface abi imports none same name = sym (same interface name) ∙ missing (lookup (same_of interface) names) name none

-- what holds of both ways to call
pub both_ways : (P : AbiVariant → Type 0) → P GuestImport → P GuestImportAsync → (is_async : Bool) → P (import_abi is_async)
both_ways P synchronous asynchronous true = asynchronous
both_ways P synchronous asynchronous false = synchronous

-- a test of functions by what an import is
abbrev pub is_called : Option ℕ → List ℕ → AbiVariant → Option FunctionImportView → Bool
is_called interface name abi None = false
is_called interface name abi (Some f) = option_eq nat_eq interface (interface_of f) && (bytes_eq name f.name && same_call abi f.abi)

pub import_called : (interface : Option ℕ) (name : List ℕ) (abi : AbiVariant) (i : ImportView)
    → is_import_of interface name abi i ≡ is_called interface name abi (function_import i)
import_called None name abi (world_func key f a) = refl
import_called (Some i) name abi (world_func key f a) = refl
import_called None name abi (interface_func key j f a) = refl
import_called (Some i) name abi (interface_func key j f a) = refl
import_called None name abi i = refl
import_called (Some j) name abi i = refl

abbrev pub is_dropped : ℕ → Option ℕ → Bool
is_dropped t None = false
is_dropped t (Some u) = t == u

pub import_dropped : (t : ℕ) (i : ImportView) → is_drop_of t i ≡ is_dropped t (dropped_resource i)
import_dropped t (imported_resource_drop key interface u) = refl
import_dropped t i = refl

-- a function is no drop
call_no_drop : (i : ImportView) (c : FunctionImportView) → function_import i ≡ Some c → dropped_resource i ≡ None
call_no_drop (world_func key f a) c is = refl
call_no_drop (interface_func key j f a) c is = refl
call_no_drop i c is = absurd (let bad : ⊥ = cc is in bad)

pub drop_no_call : (i : ImportView) (t : ℕ) → dropped_resource i ≡ Some t → function_import i ≡ None
drop_no_call (imported_resource_drop key interface u) t is = refl
drop_no_call i t is = absurd (let bad : ⊥ = cc is in bad)

module _ (imports : List ImportView) (i : ImportView) (f : FunctionImportView) (is : function_import i ≡ Some f) where
  -- a function called in another way is none of these
  pub call_other : {S : Type 0} (other : AbiVariant) (names : NamesByInterface S) → same_call other f.abi ≡ false → AreCalled other imports names
      → AreCalled other (imports ++ i ∷ []) names
  call_other other names differ same interface name =
      let k : Option ℕ = interface_index interface in
      passed_last (is_import_of k name other) imports i (has_called names interface name) (same interface name)
      (import_called k name other i ∙ (ap (is_called k name other) is
      ∙ (ap (λ b. option_eq nat_eq k (interface_of f) && (bytes_eq name f.name && b)) differ
      ∙ (ap (λ b. option_eq nat_eq k (interface_of f) && b) (and-false (bytes_eq name f.name)) ∙ and-false (option_eq nat_eq k (interface_of f))))))

  pub call_own : (abi : AbiVariant) → same_call abi f.abi ≡ true → IsCall abi (interface_of f, f.name) i
  call_own abi own interface name =
      import_called interface name abi i
      ∙ (ap (is_called interface name abi) is ∙ (ap (λ b. option_eq nat_eq interface (interface_of f) && (bytes_eq name f.name && b)) own
      ∙ ap (λ b. option_eq nat_eq interface (interface_of f) && b) (and-true (bytes_eq name f.name))))

  pub call_drops : (drops : List TypeId) → ((t : ℕ) → is_in (indices drops) t ≡ list_any (is_drop_of t) imports) → (t : ℕ)
      → is_in (indices drops) t ≡ list_any (is_drop_of t) (imports ++ i ∷ [])
  call_drops drops same t = passed_last (is_drop_of t) imports i (is_in (indices drops) t) (same t)
      (import_dropped t i ∙ ap (is_dropped t) (call_no_drop i f is))

-- an import that is no function is none of these
pub no_call : {S : Type 0} (imports : List ImportView) (i : ImportView) (abi : AbiVariant) (names : NamesByInterface S) → function_import i ≡ None
    → AreCalled abi imports names → AreCalled abi (imports ++ i ∷ []) names
no_call imports i abi names none same interface name =
    let k : Option ℕ = interface_index interface in
    passed_last (is_import_of k name abi) imports i (has_called names interface name) (same interface name)
    (import_called k name abi i ∙ ap (is_called k name abi) none)

-- a drop is added
pub drop_imported : (imports : List ImportView) (i : ImportView) (t : ℕ) (old new : List TypeId) → dropped_resource i ≡ Some t
    → indices new ≡ with_live (indices old) t → ((u : ℕ) → is_in (indices old) u ≡ list_any (is_drop_of u) imports)
    → (u : ℕ) → is_in (indices new) u ≡ list_any (is_drop_of u) (imports ++ i ∷ [])
drop_imported imports i t old new is put same u = ap (λ z. is_in z u) put ∙ added (list_any (λ y. t == y) (indices old)) refl where
  own : is_drop_of u i ≡ (u == t)
  own = import_dropped u i ∙ ap (is_dropped u) is

  last : is_in (indices old ++ t ∷ []) u ≡ list_any (is_drop_of u) (imports ++ i ∷ [])
  last =
      list_any-append (λ y. u == y) (indices old) (t ∷ [])
      ∙ (ap (λ b. b || ((u == t) || false)) (same u) ∙ (ap (λ b. list_any (is_drop_of u) imports || (b || false)) (sym own)
      ∙ sym (list_any-append (is_drop_of u) imports (i ∷ []))))

  there : is_in (indices old) t ≡ true → (b : Bool) → (u == t) ≡ b → is_in (indices old) u ≡ list_any (is_drop_of u) (imports ++ i ∷ [])
  there known true at = ap (is_in (indices old)) (nat_from u t at)
      ∙ (known ∙ sym (list_any-append (is_drop_of u) imports (i ∷ []) ∙ (ap (λ b. list_any (is_drop_of u) imports || (b || false)) (own ∙ at)
      ∙ or-true (list_any (is_drop_of u) imports))))
  there known false at = passed_last (is_drop_of u) imports i (is_in (indices old) u) (same u) (own ∙ at)

  added : (b : Bool) → list_any (λ y. t == y) (indices old) ≡ b → is_in (cond b (indices old) (indices old ++ t ∷ [])) u ≡ list_any (is_drop_of u)
      (imports ++ i ∷ [])
  added true known = there known (u == t) refl
  added false none = last

-- imports of a module that are gone through, and those that are left
pub record ImportWalk (all left : List (List ℕ × (List ℕ × ImportView))) (passed : List ImportView) (s : ImportedItems) : Type 0 where
  pub front : List (List ℕ × (List ℕ × ImportView))
  pub split : front ++ left ≡ all
  pub imported : AreImported (passed ++ imports_of front) s

pub imports_next : (all left rest : List (List ℕ × (List ℕ × ImportView))) (x : List ℕ × (List ℕ × ImportView)) (passed : List ImportView)
    (old new : ImportedItems) → left ≡ x ∷ rest
    → ((imports : List ImportView) → AreImported imports old → AreImported (imports ++ x.1.1 ∷ []) new) → ImportWalk all left passed old
    → ImportWalk all rest passed new
imports_next all left rest x passed old new is put w = record {
  front = w.front ++ x ∷ [];
  split = append_assoc w.front (x ∷ []) rest ∙ (ap (λ z. w.front ++ z) (sym is) ∙ w.split);
  imported = subst (λ z. AreImported z new) (append_assoc passed (imports_of w.front) (x.1.1 ∷ [])
      ∙ ap (λ z. passed ++ z) (sym (map-append (λ (y : List ℕ × (List ℕ × ImportView)). y.1.1) w.front (x ∷ []))))
      (put (passed ++ imports_of w.front) w.imported);
}

pub imports_end : (all left : List (List ℕ × (List ℕ × ImportView))) (passed : List ImportView) (s : ImportedItems) → left ≡ []
    → ImportWalk all left passed s → AreImported (passed ++ imports_of all) s
imports_end all left passed s none w = subst (λ z. AreImported (passed ++ imports_of z) s) (sym (append-nil w.front)
    ∙ (ap (λ z. w.front ++ z) (sym none) ∙ w.split)) w.imported

-- the same of adapters
pub record AdapterWalk (main : ModuleRecord) (all left : List NamedWorldAdapter) (s : ImportedItems) : Type 0 where
  pub front : List NamedWorldAdapter
  pub split : front ++ left ≡ all
  pub imported : AreImported (imports_of (all_imports main front)) s

pub adapters_start : (main : ModuleRecord) (all left : List NamedWorldAdapter) (s : ImportedItems) → left ≡ all
    → AreImported (imports_of (imports_in main.imports)) s → AdapterWalk main all left s
adapters_start main all left s is a = record {
  front = [];
  split = is;
  imported = subst (λ z. AreImported (imports_of z) s)
      (sym (append-nil (imports_in main.imports))) a;
}

pub adapters_next : (main : ModuleRecord) (all left rest : List NamedWorldAdapter) (x : NamedWorldAdapter) (old new : ImportedItems) → left ≡ x ∷ rest
    → ((imports : List ImportView) → AreImported imports old → AreImported (imports ++ imports_of (imports_in x.1.info.imports)) new)
    → AdapterWalk main all left old → AdapterWalk main all rest new
adapters_next main all left rest x old new is put w =
    let own : List NamedWorldAdapter → List (List ℕ × (List ℕ × ImportView)) = flat_map (λ (a : NamedWorldAdapter). imports_in a.1.info.imports) in
    let more : all_imports main (w.front ++ x ∷ []) ≡ all_imports main w.front ++ imports_in x.1.info.imports =
    ap (λ z. imports_in main.imports ++ z) (flat_map-append (λ (a : NamedWorldAdapter). imports_in a.1.info.imports) w.front (x ∷ [])
    ∙ ap (λ z. own w.front ++ z) (append-nil (imports_in x.1.info.imports)))
    ∙ sym (append_assoc (imports_in main.imports) (own w.front) (imports_in x.1.info.imports)) in
    record {
      front = w.front ++ x ∷ [];
      split = append_assoc w.front (x ∷ []) rest ∙ (ap (λ z. w.front ++ z) (sym is) ∙ w.split);
      imported = subst (λ z. AreImported z new)
          (sym (map-append (λ (y : List ℕ × (List ℕ × ImportView)). y.1.1) (all_imports main w.front) (imports_in x.1.info.imports)) ∙ ap imports_of (sym more))
          (put (imports_of (all_imports main w.front)) w.imported);
    }

pub adapters_end : (main : ModuleRecord) (all left : List NamedWorldAdapter) (s : ImportedItems) → left ≡ [] → AdapterWalk main all left s
    → AreImported (imports_of (all_imports main all)) s
adapters_end main all left s none w = subst (λ z. AreImported (imports_of (all_imports main z)) s) (sym (append-nil w.front)
    ∙ (ap (λ z. w.front ++ z) (sym none) ∙ w.split)) w.imported
