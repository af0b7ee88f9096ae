-- Functions that are imported are found among the entries for what a world imports.
use Rattle.std.proofs.Common.{◌≡◌, ◌≢◌, ℕ, zero, suc, List, [], ◌∷◌, ◌++◌, map, refl, sym, ◌∙◌, ap, subst, Bool, true, false, cond, ◌||◌, Option, Some, None}
use Rattle.std.proofs.Common.{is_some, All, get_or, arith}
use Rattle.std.specs.Prelude.{Contains, slice_get}
use Rattle.std.specs.List.{filter_map, flat_map, list_any}
use Rattle.std.specs.Map.{lookup}
use Rattle.std.specs.Option.{IsSome, option_and_then, option_eq, option_map_or}
use Rattle.std.specs.Str.{bytes_eq}
use Rattle.std.proofs.lemmas.List.Elements.{All-contains, All-contains_itself, All-head, All-tail}
use Rattle.std.proofs.lemmas.Slice.Eq.{bytes_eq-Decides}
use Rattle.std.proofs.Math.Bool.{or-true}
use Rattle.semver.specs.Identifiers.{parts_text}
use Rattle.wc_resolve.specs.declared.functions.AbiVariant.{AbiVariant}
use Rattle.wc_resolve.specs.declared.functions.AbiVariant.TheVariants.{GuestImport, GuestImportAsync}
use Rattle.wc_resolve.specs.Resolve.{external_id, implemented, key_text}
use Rattle.wc_resolve.specs.Ranges.{IsKeyIn}
use Rattle.wc_resolve.specs.Views.{FunctionView, InterfaceView, ItemView, KeyView, WorldView, function_item, interface_item, type_item}
use Rattle.wc_resolve.specs.Kinds.{ResolveView}
use Rattle.wc_resolve.proofs.ViewedLemmas.{all_unviewed}
use Rattle.wc_encoder.specs.Distinct.{AreNamesDistinct, HaveNames, import_name}
use Rattle.wc_adapters.specs.Entries.{Entries}
use Rattle.wc_maps.proofs.PairLemmas.{pairs_head, pairs_tail}
use Rattle.wc_names.specs.Laws.{IsImportAbi, IsImportIn}
use Rattle.wc_names.specs.Keys.{key_eq}
use Rattle.wc_texts.specs.Names.{under_name}
use Rattle.wc_names.specs.Views.{ImportView, interface_func, world_func}
use Rattle.wc_validate.proofs.InstanceLemmas.{self as same_bytes}
use Rattle.wc_world.specs.FunctionsLowered.{IsLoweredIn, abi_eq, is_lowering_key, lowering_at, lowering_in}
use Rattle.wc_world.specs.Lowering.{Lowerer, all_entries, called_lowering, entries_from, function_lowerings, interface_entry, interface_lowerings, is_import_of}
use Rattle.wc_world.specs.Lowering.{item_lowerings, lowered_function, own_entry, own_lowerings, same_call, type_lowerings}
use Rattle.wc_world.specs.Views.{ImportMapView, ImportedView}
use Rattle.wc_world.proofs.OwnerLemmas.{equal_itself}

-- look-ups in lists that are put together

module _ {K V : Type 0} (test : K → Bool) where
  left_at : (b : Bool) (v : V) (o p : Option V) → (is_some o ≡ true → is_some p ≡ true) → is_some (cond b (Some v) o) ≡ true
      → is_some (cond b (Some v) p) ≡ true
  left_at true v o p h is = refl
  left_at false v o p h is = h is

  in_left : (xs ys : List (K × V)) → is_some (lookup test xs) ≡ true → is_some (lookup test (xs ++ ys)) ≡ true
  in_left [] ys is = absurd (let bad : ⊥ = cc is in bad)
  in_left (x ∷ xs) ys is = left_at (test x.0) x.1 (lookup test xs) (lookup test (xs ++ ys)) (in_left xs ys) is

  right_at : (b : Bool) (v : V) (o : Option V) → is_some o ≡ true → is_some (cond b (Some v) o) ≡ true
  right_at true v o is = refl
  right_at false v o is = is

  in_right : (xs ys : List (K × V)) → is_some (lookup test ys) ≡ true → is_some (lookup test (xs ++ ys)) ≡ true
  in_right [] ys is = is
  in_right (x ∷ xs) ys is = right_at (test x.0) x.1 (lookup test (xs ++ ys)) (in_right xs ys is)

  module _ {J X : Type 0} (p : J → Bool) (g : X → List (K × V)) where
    flat_at : (b : Bool) (x v : X) (es : List (J × X)) → cond b (Some x) (lookup p es) ≡ Some v → is_some (lookup test (g v)) ≡ true
        → (lookup p es ≡ Some v → is_some (lookup test (flat_map (λ (e : J × X). g e.1) es)) ≡ true)
        → is_some (lookup test (g x ++ flat_map (λ (e : J × X). g e.1) es)) ≡ true
    flat_at true x v es found is rest = let same : v ≡ x = cc found in
        in_left (g x) (flat_map (λ (e : J × X). g e.1) es) (subst (λ z. is_some (lookup test (g z)) ≡ true) same is)
    flat_at false x v es found is rest = in_right (g x) (flat_map (λ (e : J × X). g e.1) es) (rest found)

    in_flat : (es : List (J × X)) (v : X) → lookup p es ≡ Some v → is_some (lookup test (g v)) ≡ true
        → is_some (lookup test (flat_map (λ (e : J × X). g e.1) es)) ≡ true
    in_flat [] v found is = absurd (let bad : ⊥ = cc found in bad)
    in_flat (e ∷ es) v found is = flat_at (p e.0) e.1 v es found is (λ later. in_flat es v later is)

-- one of a list

cut_of : {X : Type 0} (xs : List X) (x : X) → Contains xs x → (front : List X) × (back : List X) × (xs ≡ front ++ x ∷ back)
cut_of [] x (k, small, is) = absurd (let bad : ⊥ = omega (arith, small) in bad)
cut_of (y ∷ xs) x (zero, small, is) = ([], xs, ap (λ z. z ∷ xs) is)
cut_of (y ∷ xs) x (suc k, small, is) = let r = cut_of xs x (k, omega (arith, small), is) in (y ∷ r.0, r.1, ap (λ zs. y ∷ zs) r.2)

any_among : {X : Type 0} (test : X → Bool) (front back : List X) (x : X) → test x ≡ true → list_any test (front ++ x ∷ back) ≡ true
any_among test [] back x is = ap (λ b. b || list_any test back) is
any_among test (y ∷ front) back x is = ap (λ b. test y || b) (any_among test front back x is) ∙ or-true (test y)

any_of : {X : Type 0} (test : X → Bool) (xs : List X) (x : X) → Contains xs x → test x ≡ true → list_any test xs ≡ true
any_of test xs x among is = let r = cut_of xs x among in subst (λ z. list_any test z ≡ true) (sym r.2) (any_among test r.0 r.1 x is)

-- a function that is imported is lowered

same_way : (abi : AbiVariant) → IsImportAbi abi → same_call abi abi ≡ true
same_way abi (true, is) = subst (λ a. same_call a a ≡ true) (sym is) refl
same_way abi (false, is) = subst (λ a. same_call a a ≡ true) (sym is) refl

same_abi : (abi : AbiVariant) → IsImportAbi abi → abi_eq abi abi ≡ true
same_abi abi (true, is) = subst (λ a. abi_eq a a ≡ true) (sym is) refl
same_abi abi (false, is) = subst (λ a. abi_eq a a ≡ true) (sym is) refl

module _ (l : Lowerer) where
  called_is : (interface : Option ℕ) (f : FunctionView) (abi : AbiVariant) → IsImportAbi abi → list_any (is_import_of interface f.name abi) l.imports ≡ true
      → is_some (lookup (is_lowering_key f.name abi) (called_lowering l interface f abi)) ≡ true
  called_is interface f abi is any =
      let key : is_lowering_key f.name abi (f.name, abi) ≡ true = rw (same_bytes f.name, same_abi abi is) refl in
      rw any (ap (λ b. is_some (cond b (Some (lowered_function l f abi)) None)) key)

  function_is : (interface : Option ℕ) (f : FunctionView) (abi : AbiVariant) → IsImportAbi abi → list_any (is_import_of interface f.name abi) l.imports ≡ true
      → is_some (lookup (is_lowering_key f.name abi) (function_lowerings l interface f)) ≡ true
  function_is interface f abi (false, is) any =
      in_left (is_lowering_key f.name abi) (called_lowering l interface f GuestImport) (called_lowering l interface f GuestImportAsync)
      (subst (λ a. is_some (lookup (is_lowering_key f.name abi) (called_lowering l interface f a)) ≡ true) is (called_is interface f abi (false, is) any))
  function_is interface f abi (true, is) any =
      in_right (is_lowering_key f.name abi) (called_lowering l interface f GuestImport) (called_lowering l interface f GuestImportAsync)
      (subst (λ a. is_some (lookup (is_lowering_key f.name abi) (called_lowering l interface f a)) ≡ true) is (called_is interface f abi (true, is) any))

  -- what is lowered of an interface
  interface_has : (i : ℕ) (o : Option InterfaceView) (name : List ℕ) (f : FunctionView) (abi : AbiVariant) → IsImportAbi abi
      → list_any (is_import_of (Some i) f.name abi) l.imports ≡ true
      → option_and_then (λ (v : InterfaceView). under_name v.functions name) o ≡ Some f
      → is_some (lookup (is_lowering_key f.name abi) (option_map_or (interface_lowerings l i) o [])) ≡ true
  interface_has i None name f abi is any found = absurd (let bad : ⊥ = cc found in bad)
  interface_has i (Some v) name f abi is any found =
      in_right (is_lowering_key f.name abi) (flat_map (λ (e : List ℕ × ℕ). type_lowerings l e.1) v.types)
      (flat_map (λ (e : List ℕ × FunctionView). function_lowerings l (Some i) e.1) v.functions)
      (in_flat (is_lowering_key f.name abi) (bytes_eq name) (function_lowerings l (Some i)) v.functions f found (function_is (Some i) f abi is any))

-- each import has a text, and no later one has it

abbrev HasText : ResolveView → KeyView → Type 0
HasText r key = (text : List ℕ) × (key_text parts_text r key ≡ Some text)

abbrev HasNoName : ResolveView → Option (List ℕ) → Entries → Type 0
HasNoName r n [] = Unit {0}
HasNoName r n (x ∷ xs) = (n ≢ key_text parts_text r x.0) × HasNoName r n xs

abbrev pub AreNamed : ResolveView → Entries → Type 0
AreNamed r [] = Unit {0}
AreNamed r (x ∷ xs) = HasText r x.0 × HasNoName r (key_text parts_text r x.0) xs × AreNamed r xs

text_of : (o : Option (List ℕ)) → IsSome o → (text : List ℕ) × (o ≡ Some text)
text_of None is = absurd (let bad : ⊥ = cc is in bad)
text_of (Some text) is = (text, refl)

no_name : (r : ResolveView) (n : Option (List ℕ)) (es : Entries) → All (λ (x : KeyView × ItemView). n ≢ import_name r x) es → HasNoName r n es
no_name r n [] h = tt
no_name r n (x ∷ es) h = (
  All-head (λ (y : KeyView × ItemView). n ≢ import_name r y) x es h,
  no_name r n es (All-tail (λ (y : KeyView × ItemView). n ≢ import_name r y) x es h),
)

pub named_from : (r : ResolveView) (es : Entries) → HaveNames r es → AreNamesDistinct r es → AreNamed r es
named_from r [] named distinct = tt
named_from r (x ∷ es) named distinct = (
  text_of (key_text parts_text r x.0) (All-head (λ y. IsSome (import_name r y)) x es named),
  no_name r (import_name r x) es (all_unviewed (import_name r) (λ m. import_name r x ≢ m) es
      (pairs_head (λ n m. n ≢ m) (import_name r x) (map (import_name r) es) distinct)),
  named_from r es (All-tail (λ y. IsSome (import_name r y)) x es named) (pairs_tail (λ n m. n ≢ m) (import_name r x) (map (import_name r) es) distinct),
)

-- a name that no entry of a list has is not that of an entry in it
name_in : (r : ResolveView) (key : KeyView) (item : ItemView) (front back : Entries) (n : Option (List ℕ))
    → HasNoName r n (front ++ (key, item) ∷ back) → n ≢ key_text parts_text r key
name_in r key item [] back n none = none.0
name_in r key item (x ∷ front) back n none = name_in r key item front back n none.1

text_in : (r : ResolveView) (key : KeyView) (item : ItemView) (front back : Entries) → AreNamed r (front ++ (key, item) ∷ back) → HasText r key
text_in r key item [] back named = named.0
text_in r key item (x ∷ front) back named = text_in r key item front back named.2

-- what is imported of an interface, under a key
abbrev imported_at : Lowerer → KeyView → ℕ → Option (List ℕ) → ImportedView
imported_at l key i external = record {
  lowerings = option_map_or (interface_lowerings l i) (slice_get l.resolve.interfaces i) [];
  interface = Some i;
  implements = implemented l.resolve key (interface_item i external);
  external_id = external_id (interface_item i external);
}

-- the entry of the world itself

module _ (l : Lowerer) (all : Entries) (p : KeyView → Bool) where
  own_after : (x : KeyView × ItemView) (rest : Entries) (f : FunctionView) (b : Bool) → HasText l.resolve x.0
      → cond b (Some x.1) (lookup p rest) ≡ Some (function_item f)
      → (lookup p rest ≡ Some (function_item f) → lookup (option_eq bytes_eq None) (entries_from l all rest) ≡ Some (own_entry l all).1)
      → lookup (option_eq bytes_eq None) (entries_from l all (x ∷ rest)) ≡ Some (own_entry l all).1
  own_after (k, interface_item i external) rest f true named found later = absurd (let bad : ⊥ = cc found in bad)
  own_after (k, interface_item i external) rest f false named found later =
      ap (λ (n : Option (List ℕ)). cond (option_eq bytes_eq None n) (Some (imported_at l k i external))
      (lookup (option_eq bytes_eq None) (entries_from l all rest))) named.1 ∙ later found
  own_after (k, function_item g) rest f b named found later = refl
  own_after (k, type_item t) rest f b named found later = refl

  own_found : (rest : Entries) (f : FunctionView) → AreNamed l.resolve rest → lookup p rest ≡ Some (function_item f)
      → lookup (option_eq bytes_eq None) (entries_from l all rest) ≡ Some (own_entry l all).1
  own_found [] f named found = absurd (let bad : ⊥ = cc found in bad)
  own_found (x ∷ rest) f named found = own_after x rest f (p x.0) named.0 found (own_found rest f named.2)

-- the entry of an interface

other_name : (text : List ℕ) (n : Option (List ℕ)) → n ≢ Some text → option_eq bytes_eq (Some text) n ≡ false
other_name text None differ = refl
other_name text (Some m) differ = at (bytes_eq text m) refl
  where
    at : (b : Bool) → bytes_eq text m ≡ b → bytes_eq text m ≡ false
    at true is = absurd (differ (ap (λ (z : List ℕ). Some z) (sym ((bytes_eq-Decides text m).0 is))))
    at false is = is

module _ (l : Lowerer) (all : Entries) (key : KeyView) (text : List ℕ) (i : ℕ) (external : Option (List ℕ))
    (is_text : key_text parts_text l.resolve key ≡ Some text) where
  abbrev FindsEntry : ImportMapView → Type 0
  FindsEntry entries = lookup (option_eq bytes_eq (Some text)) entries ≡ Some (imported_at l key i external)

  here_is : (entries : ImportMapView) → FindsEntry ((key_text parts_text l.resolve key, imported_at l key i external) ∷ entries)
  here_is entries =
      let test : option_eq bytes_eq (Some text) (key_text parts_text l.resolve key) ≡ true = ap (option_eq bytes_eq (Some text)) is_text ∙ same_bytes text in
      ap (λ b. cond b (Some (imported_at l key i external)) (lookup (option_eq bytes_eq (Some text)) entries)) test

  past_is : (k : KeyView) (v : ImportedView) (entries : ImportMapView) → key_text parts_text l.resolve k ≢ key_text parts_text l.resolve key
      → FindsEntry entries → FindsEntry ((key_text parts_text l.resolve k, v) ∷ entries)
  past_is k v entries differ later =
      let test : option_eq bytes_eq (Some text) (key_text parts_text l.resolve k) ≡ false = other_name text (key_text parts_text l.resolve k)
      (λ e. differ (e ∙ sym is_text)) in
      ap (λ b. cond b (Some v) (lookup (option_eq bytes_eq (Some text)) entries)) test ∙ later

  abbrev Cut : Entries → Entries → Entries
  Cut front back = front ++ (key, interface_item i external) ∷ back

  filtered : (front back : Entries) → AreNamed l.resolve (Cut front back) → FindsEntry (filter_map (interface_entry l) (Cut front back))
  filtered [] back named = here_is (filter_map (interface_entry l) back)
  filtered ((k, interface_item j e) ∷ front) back named =
      past_is k (imported_at l k j e) (filter_map (interface_entry l) (Cut front back))
      (name_in l.resolve key (interface_item i external) front back (key_text parts_text l.resolve k) named.1) (filtered front back named.2)
  filtered ((k, function_item g) ∷ front) back named = filtered front back named.2
  filtered ((k, type_item t) ∷ front) back named = filtered front back named.2

  entry_found : (front back : Entries) → AreNamed l.resolve (Cut front back) → FindsEntry (entries_from l all (Cut front back))
  entry_found [] back named = here_is (entries_from l all back)
  entry_found ((k, interface_item j e) ∷ front) back named =
      past_is k (imported_at l k j e) (entries_from l all (Cut front back))
      (name_in l.resolve key (interface_item i external) front back (key_text parts_text l.resolve k) named.1) (entry_found front back named.2)
  entry_found ((k, function_item g) ∷ front) back named = filtered front back named.2
  entry_found ((k, type_item t) ∷ front) back named = filtered front back named.2

-- what an import names has its lowering

module _ (l : Lowerer) (w : WorldView) (named : AreNamed l.resolve w.imports) (keys : All (λ (x : KeyView × ItemView). IsKeyIn l.resolve x.0) w.imports) where
  own_lowered : (key : KeyView) (name : List ℕ) (abi : AbiVariant) → Contains l.imports (world_func key name abi)
      → IsImportIn l.resolve w (world_func key name abi)
      → IsLoweredIn l.resolve (all_entries l w.imports) (world_func key name abi)
  own_lowered key name abi among (f, at, is_name, usable, call) =
      let test : is_import_of None f.name abi (world_func key name abi) ≡ true =
      rw (ap (bytes_eq f.name) (sym is_name) ∙ same_bytes f.name, same_way abi call) refl in
      let any : list_any (is_import_of None f.name abi) l.imports ≡ true = any_of (is_import_of None f.name abi) l.imports
      (world_func key name abi) among test in
      let there : is_some (lookup (is_lowering_key f.name abi) (own_lowerings l w.imports)) ≡ true =
      in_flat (is_lowering_key f.name abi) (key_eq key) (item_lowerings l) w.imports (function_item f) at (function_is l None f abi call any) in
      subst (λ (o : Option ImportedView). is_some (option_and_then (lowering_in name abi) o) ≡ true)
      (sym (own_found l w.imports (key_eq key) w.imports f named at))
      (subst (λ (n : List ℕ). is_some (lookup (is_lowering_key n abi) (own_lowerings l w.imports)) ≡ true) is_name there)

  interface_lowered : (key : KeyView) (i : ℕ) (name : List ℕ) (abi : AbiVariant) → Contains l.imports (interface_func key i name abi)
      → IsImportIn l.resolve w (interface_func key i name abi)
      → IsLoweredIn l.resolve (all_entries l w.imports) (interface_func key i name abi)
  interface_lowered key i name abi among (f, small, at, usable, is_name, entry, call) =
      let test : is_import_of (Some i) f.name abi (interface_func key i name abi) ≡ true = rw (
        equal_itself i,
        ap (bytes_eq f.name) (sym is_name)
            ∙ same_bytes f.name,
        same_way abi call,
      ) refl in
      let any : list_any (is_import_of (Some i) f.name abi) l.imports ≡ true = any_of (is_import_of (Some i) f.name abi) l.imports
      (interface_func key i name abi) among test in
      let cut = cut_of w.imports (key, interface_item i entry.0) entry.1 in
      let here = subst (AreNamed l.resolve) cut.2 named in
      let text = text_in l.resolve key (interface_item i entry.0) cut.0 cut.1 here in
      let found : lookup (option_eq bytes_eq (Some text.0)) (all_entries l w.imports) ≡ Some (imported_at l key i entry.0) =
      subst (λ z. lookup (option_eq bytes_eq (Some text.0)) (entries_from l w.imports z) ≡ Some (imported_at l key i entry.0)) (sym cut.2)
      (entry_found l w.imports key text.0 i entry.0 text.1 cut.0 cut.1 here) in
      let there = interface_has l i (slice_get l.resolve.interfaces i) name f abi call any at in
      let lowered : is_some (lowering_at (all_entries l w.imports) (Some text.0) name abi) ≡ true =
      subst (λ (o : Option ImportedView). is_some (option_and_then (lowering_in name abi) o) ≡ true) (sym found)
      (subst (λ (n : List ℕ). is_some (lookup (is_lowering_key n abi) (imported_at l key i entry.0).lowerings) ≡ true) is_name there) in (
        All-contains (λ (x : KeyView × ItemView). IsKeyIn l.resolve x.0) w.imports (key, interface_item i entry.0) keys entry.1,
        ap is_some text.1,
        subst (λ (n : Option (List ℕ)). is_some (lowering_at (all_entries l w.imports) n name abi) ≡ true) (sym text.1) lowered,
      )

  is_lowered : (x : ImportView) → Contains l.imports x → IsImportIn l.resolve w x → IsLoweredIn l.resolve (all_entries l w.imports) x
  is_lowered (world_func key name abi) among is = own_lowered key name abi among is
  is_lowered (interface_func key i name abi) among is = interface_lowered key i name abi among is
  is_lowered x among is = tt

  pub all_lowered : All (IsImportIn l.resolve w) l.imports → All (IsLoweredIn l.resolve (all_entries l w.imports)) l.imports
  all_lowered there = λ k d small. is_lowered (get_or l.imports k d) (All-contains_itself l.imports k d small) (there k d small)
