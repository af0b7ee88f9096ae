-- No two lowerings of an interface, or of a world, have one key.
use Rattle.std.proofs.Common.{◌≡◌, ◌≢◌, ℕ, List, [], ◌∷◌, ◌++◌, Bool, true, false, cond, Option, Some, None, All, AllPairs, String, string_bytes, map, get_or, arith, refl, sym, ap, ◌∙◌, subst, inl, inr}
use Rattle.std.specs.Prelude.{codes, slice_get}
use Rattle.std.specs.List.{IsDistinct, flat_map, list_any}
use Rattle.std.specs.Map.{keys_of}
use Rattle.std.specs.Option.{option_and_then, option_map_or}
use Rattle.std.specs.String.{string_eq}
use Rattle.std.specs.declared.alloc.Global.{Global}
use Rattle.std.proofs.lemmas.List.{append_cancel_right}
use Rattle.std.proofs.lemmas.List.Elements.{All-append, All-cons, All-from_recursion, All-head, All-nil, All-tail}
use Rattle.std.proofs.lemmas.List.Kept.{AllPairs-cons}
use Rattle.std.proofs.lemmas.Map.Keys.{IsDistinct-head, IsDistinct-tail}
use Rattle.wc_resolve.specs.declared.functions.AbiVariant.{AbiVariant}
use Rattle.wc_resolve.specs.declared.functions.AbiVariant.TheVariants.{GuestImport, GuestImportAsync}
use Rattle.wc_resolve.specs.Names.{IsFunctionCharacter, IsFunctionName}
use Rattle.wc_resolve.specs.declared.worlds.Interface.{Interface}
use Rattle.wc_resolve.specs.Views.{FunctionView, InterfaceView, ItemView, KeyView, WorldView, function_entry, function_item, interface_item, interface_key, interface_view, plain_key, type_entry, type_item}
use Rattle.wc_resolve.specs.WellFormed.{AreNamesSpelled, HasMatchingKeys, HasMatchingNames, IsInterfaceSpelled, IsKeySpelled, IsMatchingKey, IsWellFormed, IsWorldSpelled, type_name}
use Rattle.wc_resolve.specs.Kinds.{ResolveView}
use Rattle.wc_resolve.proofs.KeyLemmas.{texts_law}
use Rattle.wc_resolve.proofs.WellFormedLemmas.{all_get}
use Rattle.wc_encoder.specs.Distinct.{AreNamesDistinct, import_name}
use Rattle.wc_maps.proofs.PairLemmas.{pairs_none}
use Rattle.wc_names.specs.Keys.{resource_at}
use Rattle.wc_names.proofs.MeaningRangeLemmas.{function_names, listed_names}
use Rattle.wc_names.proofs.RangeLemmas.{resource_is}
use Rattle.wc_world.specs.Lowering.{AreKeysDistinct, KeyedLowering, Lowerer, called_lowering, drop_key, function_lowerings, interface_lowerings, is_drop_of, is_import_of, item_lowerings, lowered_function, resource_lowerings, resource_name, type_lowerings, lowerings_of_interface}
use Rattle.wc_world.specs.Views.{LoweringKey, resource_drop}
use Rattle.wc_names.proofs.MeaningRangeLemmas.{import_keys_match, worlds_match}
use Rattle.wc_world.proofs.PairListLemmas.{all_back, all_of_flat, pairs_across, pairs_of_flat, pairs_one, pairs_unviewed}

abbrev Differ : KeyedLowering → KeyedLowering → Type 0
Differ x y = x.0 ≢ y.0

-- no function is called as a drop is

no_underscore : IsFunctionCharacter 95 → ⊥
no_underscore (inl (inl h)) = omega (arith, h.0)
no_underscore (inl (inr (inl h))) = omega (arith, h.1)
no_underscore (inl (inr (inr (inl h)))) = omega (arith, h.1)
no_underscore (inl (inr (inr (inr h)))) = omega (arith, h)
no_underscore (inr (inl h)) = omega (arith, h)
no_underscore (inr (inr (inl h))) = omega (arith, h)
no_underscore (inr (inr (inr h))) = omega (arith, h)

drop_no_function : (name : List ℕ) → IsFunctionName (name ++ codes "_drop") → ⊥
unfolding IsFunctionName
drop_no_function name h = no_underscore (All-head IsFunctionCharacter 95 (codes "drop") (all_back IsFunctionCharacter name (codes "_drop") h.1))

-- what elements give has keys of its element each, and no key is of two elements

flat_distinct : {X : Type 0} (Of : X → LoweringKey → Type 0) (f : X → List KeyedLowering) (xs : List X) → All (λ x. All (λ (e : KeyedLowering). Of x e.0) (f x)) xs → All (λ x. AreKeysDistinct (f x)) xs
    → AllPairs (λ x y. (k : LoweringKey) → Of x k → Of y k → ⊥) xs → AreKeysDistinct (flat_map f xs)
flat_distinct Of f xs of each disjoint =
    pairs_of_flat Differ f xs each (λ i j d less small k e there m c too same.
    disjoint i j d less small (get_or (f (get_or xs i d)) k e).0 (of i d (omega (arith, less, small)) k e there) (subst (Of (get_or xs j d)) (sym same) (of j d small m c too)))

cond_all : (P : KeyedLowering → Type 0) (x : KeyedLowering) (b : Bool) → P x → All P (cond b (x ∷ []) [])
cond_all P x true p = All-cons P x [] p (All-nil P)
cond_all P x false p = All-nil P

cond_one : (x : KeyedLowering) (b : Bool) → AreKeysDistinct (cond b (x ∷ []) [])
cond_one x true = pairs_one Differ x
cond_one x false = pairs_none Differ

cond_two : (x y : KeyedLowering) (a b : Bool) → Differ x y → AreKeysDistinct (cond a (x ∷ []) [] ++ cond b (y ∷ []) [])
cond_two x y true true differ = AllPairs-cons Differ x (y ∷ []) (cond_all (Differ x) y true differ) (pairs_one Differ y)
cond_two x y true false differ = pairs_one Differ x
cond_two x y false b differ = cond_one y b

module _ (l : Lowerer) where
  -- a function has at most one for each way to call it
  function_all : (P : LoweringKey → Type 0) (interface : Option ℕ) (f : FunctionView) → ((abi : AbiVariant) → P (f.name, abi)) → All (λ (e : KeyedLowering). P e.0) (function_lowerings l interface f)
  function_all P interface f p =
      All-append (λ (e : KeyedLowering). P e.0) (called_lowering l interface f GuestImport) (called_lowering l interface f GuestImportAsync)
      (cond_all (λ (e : KeyedLowering). P e.0) ((f.name, GuestImport), lowered_function l f GuestImport) (list_any (is_import_of interface f.name GuestImport) l.imports) (p GuestImport))
      (cond_all (λ (e : KeyedLowering). P e.0) ((f.name, GuestImportAsync), lowered_function l f GuestImportAsync) (list_any (is_import_of interface f.name GuestImportAsync) l.imports) (p GuestImportAsync))

  function_each : (interface : Option ℕ) (f : FunctionView) → AreKeysDistinct (function_lowerings l interface f)
  function_each interface f =
      cond_two ((f.name, GuestImport), lowered_function l f GuestImport) ((f.name, GuestImportAsync), lowered_function l f GuestImportAsync)
      (list_any (is_import_of interface f.name GuestImport) l.imports) (list_any (is_import_of interface f.name GuestImportAsync) l.imports)
      (λ same. let ways : GuestImport ≡ GuestImportAsync = ap (λ (k : LoweringKey). k.1) same in let bad : ⊥ = cc ways in bad)

  -- a resource has its own name
  own_name : (t : ℕ) (n : List ℕ) (o : Option ℕ) → resource_at l.resolve t ≡ o → option_and_then (λ (u : ℕ). type_name l.resolve u) o ≡ Some n → type_name l.resolve t ≡ Some n
  own_name t n None is h = absurd (let bad : ⊥ = cc h in bad)
  own_name t n (Some u) is h = subst (λ (z : ℕ). type_name l.resolve z ≡ Some n) (resource_is l.resolve t u is).0 h

  type_all : (P : LoweringKey → Type 0) (t : ℕ) (name : List ℕ) → type_name l.resolve t ≡ Some name → P (drop_key name) → All (λ (e : KeyedLowering). P e.0) (type_lowerings l t)
  type_all P t name named p = cases (resource_name l.resolve t) refl where
    cases : (o : Option (List ℕ)) → resource_name l.resolve t ≡ o → All (λ (e : KeyedLowering). P e.0) (option_map_or (resource_lowerings l t) o [])
    cases None is = All-nil (λ (e : KeyedLowering). P e.0)
    cases (Some n) is =
        let both : Some name ≡ Some n = sym named ∙ own_name t n (resource_at l.resolve t) refl is in
        let same : name ≡ n = cc both in
        cond_all (λ (e : KeyedLowering). P e.0) (drop_key n, resource_drop t) (list_any (is_drop_of t) l.imports) (subst (λ z. P (drop_key z)) same p)

  type_each : (t : ℕ) → AreKeysDistinct (type_lowerings l t)
  type_each t = cases (resource_name l.resolve t) where
    cases : (o : Option (List ℕ)) → AreKeysDistinct (option_map_or (resource_lowerings l t) o [])
    cases None = pairs_none Differ
    cases (Some n) = cond_one (drop_key n, resource_drop t) (list_any (is_drop_of t) l.imports)

-- parts of definitions

worlds_spelled : (r : ResolveView) → AreNamesSpelled r → All IsWorldSpelled r.worlds
unfolding AreNamesSpelled
worlds_spelled r h = h.0

interfaces_spelled : (r : ResolveView) → AreNamesSpelled r → All IsInterfaceSpelled r.interfaces
unfolding AreNamesSpelled
interfaces_spelled r h = h.1

type_names : (r : ResolveView) (v : InterfaceView) → HasMatchingNames r v → All (λ (e : List ℕ × ℕ). type_name r e.1 ≡ Some e.0) v.types
unfolding HasMatchingNames
type_names r v h = h.0

functions_spelled : (v : InterfaceView) → IsInterfaceSpelled v → All (λ (e : List ℕ × FunctionView). IsFunctionName e.0) v.functions
unfolding IsInterfaceSpelled
functions_spelled v h = h.1

imports_spelled : (w : WorldView) → IsWorldSpelled w → All (λ (x : KeyView × ItemView). IsKeySpelled x.0 x.1) w.imports
unfolding IsWorldSpelled
imports_spelled w h = h.0

-- an interface

-- a key of a drop, and of a function
abbrev IsDropKey : LoweringKey → Type 0
IsDropKey k = (n : List ℕ) × (k ≡ drop_key n)

drop_differs : (x y : KeyedLowering) → IsDropKey x.0 → IsFunctionName y.0.0 → Differ x y
drop_differs x y drop named same = drop_no_function drop.0 (subst IsFunctionName (ap (λ (k : LoweringKey). k.0) (sym same ∙ drop.1)) named)

module _ (l : Lowerer) (formed : IsWellFormed l.resolve) (i : ℕ) (v : InterfaceView) (at : slice_get l.resolve.interfaces i ≡ Some v)
    (types : AllPairs (λ (a b : List ℕ × ℕ). a.0 ≢ b.0) v.types) (functions : AllPairs (λ (a b : List ℕ × FunctionView). a.0 ≢ b.0) v.functions) where
  names : HasMatchingNames l.resolve v
  names = all_get (HasMatchingNames l.resolve) l.resolve.interfaces i v (listed_names l.resolve formed.keyed) at

  spelled : All (λ (e : List ℕ × FunctionView). IsFunctionName e.0) v.functions
  spelled = functions_spelled v (all_get IsInterfaceSpelled l.resolve.interfaces i v (interfaces_spelled l.resolve formed.spelled) at)

  abbrev drops : List KeyedLowering
  drops = flat_map (λ (e : List ℕ × ℕ). type_lowerings l e.1) v.types

  abbrev calls : List KeyedLowering
  calls = flat_map (λ (e : List ℕ × FunctionView). function_lowerings l (Some i) e.1) v.functions

  drops_distinct : AreKeysDistinct drops
  drops_distinct =
      flat_distinct (λ (e : List ℕ × ℕ) k. k ≡ drop_key e.0) (λ (e : List ℕ × ℕ). type_lowerings l e.1) v.types
      (λ j d small. type_all l (λ k. k ≡ drop_key (get_or v.types j d).0) (get_or v.types j d).1 (get_or v.types j d).0 (type_names l.resolve v names j d small) refl)
      (λ j d small. type_each l (get_or v.types j d).1)
      (λ j m d less small k a b. types j m d less small (append_cancel_right (get_or v.types j d).0 (get_or v.types m d).0 (codes "_drop") (ap (λ (z : LoweringKey). z.0) (sym a ∙ b))))

  calls_distinct : AreKeysDistinct calls
  calls_distinct =
      flat_distinct (λ (e : List ℕ × FunctionView) (k : LoweringKey). k.0 ≡ e.0) (λ (e : List ℕ × FunctionView). function_lowerings l (Some i) e.1) v.functions
      (λ j d small. function_all l (λ k. k.0 ≡ (get_or v.functions j d).0) (Some i) (get_or v.functions j d).1 (λ abi. function_names l.resolve v names j d small))
      (λ j d small. function_each l (Some i) (get_or v.functions j d).1)
      (λ j m d less small k a b. functions j m d less small (sym a ∙ b))

  all_drops : All (λ (e : KeyedLowering). IsDropKey e.0) drops
  all_drops =
      all_of_flat (λ (e : KeyedLowering). IsDropKey e.0) (λ (e : List ℕ × ℕ). type_lowerings l e.1) v.types
      (λ j d small. type_all l IsDropKey (get_or v.types j d).1 (get_or v.types j d).0 (type_names l.resolve v names j d small) ((get_or v.types j d).0, refl))

  all_calls : All (λ (e : KeyedLowering). IsFunctionName e.0.0) calls
  all_calls =
      all_of_flat (λ (e : KeyedLowering). IsFunctionName e.0.0) (λ (e : List ℕ × FunctionView). function_lowerings l (Some i) e.1) v.functions
      (λ j d small. function_all l (λ k. IsFunctionName k.0) (Some i) (get_or v.functions j d).1 (λ abi. subst IsFunctionName (sym (function_names l.resolve v names j d small)) (spelled j d small)))

  pub interface_distinct : AreKeysDistinct (interface_lowerings l i v)
  interface_distinct =
      pairs_across Differ drops calls (λ j d small m e there. drop_differs (get_or drops j d) (get_or calls m e) (all_drops j d small) (all_calls m e there)) drops_distinct calls_distinct

-- a world

-- the keys of a function, and of the drop of a type, under a plain name
abbrev OwnOf : List ℕ → ItemView → LoweringKey → Type 0
OwnOf n (interface_item i external) k = ⊥
OwnOf n (function_item f) k = (k.0 ≡ n) × IsFunctionName n
OwnOf n (type_item t) k = k ≡ drop_key n

abbrev ItemOf : KeyView × ItemView → LoweringKey → Type 0
ItemOf (plain_key n, item) k = OwnOf n item k
ItemOf (interface_key i, item) k = ⊥

item_all : (l : Lowerer) (key : KeyView) (item : ItemView) → IsMatchingKey l.resolve key item → IsKeySpelled key item → All (λ (e : KeyedLowering). ItemOf (key, item) e.0) (item_lowerings l item)
item_all l (plain_key n) (interface_item i external) m s = All-nil (λ (e : KeyedLowering). ⊥)
item_all l (plain_key n) (function_item f) m s = function_all l (λ k. (k.0 ≡ n) × IsFunctionName n) None f (λ abi. (m, s))
item_all l (plain_key n) (type_item t) m s = type_all l (λ k. k ≡ drop_key n) t n m refl
item_all l (interface_key j) (interface_item i external) m s = All-nil (λ (e : KeyedLowering). ⊥)
item_all l (interface_key j) (function_item f) m s = absurd m
item_all l (interface_key j) (type_item t) m s = absurd m

item_each : (l : Lowerer) (item : ItemView) → AreKeysDistinct (item_lowerings l item)
item_each l (interface_item i external) = pairs_none Differ
item_each l (function_item f) = function_each l None f
item_each l (type_item t) = type_each l t

owns_differ : (n m : List ℕ) (x y : ItemView) → n ≢ m → (k : LoweringKey) → OwnOf n x k → OwnOf m y k → ⊥
owns_differ n m (interface_item i external) y differ k a b = a
owns_differ n m x (interface_item i external) differ k a b = b
owns_differ n m (function_item f) (function_item g) differ k a b = differ (sym a.0 ∙ b.0)
owns_differ n m (function_item f) (type_item t) differ k a b = drop_no_function m (subst IsFunctionName (sym a.0 ∙ ap (λ (z : LoweringKey). z.0) b) a.1)
owns_differ n m (type_item t) (function_item g) differ k a b = drop_no_function n (subst IsFunctionName (sym b.0 ∙ ap (λ (z : LoweringKey). z.0) a) b.1)
owns_differ n m (type_item t) (type_item u) differ k a b = differ (append_cancel_right n m (codes "_drop") (ap (λ (z : LoweringKey). z.0) (sym a ∙ b)))

items_differ : (r : ResolveView) (x y : KeyView × ItemView) → import_name r x ≢ import_name r y → (k : LoweringKey) → ItemOf x k → ItemOf y k → ⊥
items_differ r (interface_key i, x) y differ k a b = a
items_differ r x (interface_key j, y) differ k a b = b
items_differ r (plain_key n, x) (plain_key m, y) differ k a b = owns_differ n m x y (λ same. differ (ap (λ (z : List ℕ). Some z) same)) k a b

pub world_distinct : (l : Lowerer) → IsWellFormed l.resolve → (i : ℕ) (w : WorldView) → slice_get l.resolve.worlds i ≡ Some w → AreNamesDistinct l.resolve w.imports
    → AreKeysDistinct (flat_map (λ (x : KeyView × ItemView). item_lowerings l x.1) w.imports)
world_distinct l formed i w at names =
    let keyed : HasMatchingKeys l.resolve w = all_get (HasMatchingKeys l.resolve) l.resolve.worlds i w (worlds_match l.resolve formed.keyed) at in
    let spelled : IsWorldSpelled w = all_get IsWorldSpelled l.resolve.worlds i w (worlds_spelled l.resolve formed.spelled) at in
    flat_distinct ItemOf (λ (x : KeyView × ItemView). item_lowerings l x.1) w.imports
    (λ j d small. item_all l (get_or w.imports j d).0 (get_or w.imports j d).1 (import_keys_match l.resolve w keyed j d small) (imports_spelled w spelled j d small))
    (λ j d small. item_each l (get_or w.imports j d).1)
    (λ j m d less small. items_differ l.resolve (get_or w.imports j d) (get_or w.imports m d) (pairs_unviewed (λ (a b : Option (List ℕ)). a ≢ b) (import_name l.resolve) w.imports names j m d less small))

-- the names of a map

module _ {V W : Type 0} (entry : String Global × V → List ℕ × W) (own : (e : String Global × V) → (entry e).0 ≡ string_bytes e.0) where
  after : (e : String Global × V) (es : List (String Global × V)) → All (λ y. string_eq e.0 y ≡ false) (keys_of es) → All (λ y. (entry e).0 ≢ y.0) (map entry es)
  after e [] h = All-nil (λ y. (entry e).0 ≢ y.0)
  after e (y ∷ es) h =
      All-cons (λ y. (entry e).0 ≢ y.0) (entry y) (map entry es)
      (λ same. let equal : string_eq e.0 y.0 ≡ true = (texts_law e.0 y.0).1 (sym (own e) ∙ (same ∙ own y)) in
      let bad : true ≡ false = sym equal ∙ All-head (λ z. string_eq e.0 z ≡ false) y.0 (keys_of es) h in let none : ⊥ = cc bad in none)
      (after e es (All-tail (λ z. string_eq e.0 z ≡ false) y.0 (keys_of es) h))

  pub names_distinct : (es : List (String Global × V)) → IsDistinct string_eq (keys_of es) → AllPairs (λ (a b : List ℕ × W). a.0 ≢ b.0) (map entry es)
  names_distinct [] h = pairs_none (λ (a b : List ℕ × W). a.0 ≢ b.0)
  names_distinct (e ∷ es) h =
      AllPairs-cons (λ (a b : List ℕ × W). a.0 ≢ b.0) (entry e) (map entry es) (after e es (All-from_recursion (λ y. string_eq e.0 y ≡ false) (keys_of es) (IsDistinct-head string_eq e.0 (keys_of es) h)))
      (names_distinct es (IsDistinct-tail string_eq e.0 (keys_of es) h))

-- an interface by what maps say of its names
pub interface_of_parts : (l : Lowerer) (r : ResolveView) → l.resolve ≡ r → IsWellFormed r → (i : ℕ) (v : Interface) → slice_get r.interfaces i ≡ Some (interface_view v) → IsDistinct string_eq (keys_of v.types.entries) → IsDistinct string_eq (keys_of v.functions.entries)
    → AreKeysDistinct (lowerings_of_interface l i)
interface_of_parts l r same formed i v at types functions =
    subst (λ o. AreKeysDistinct (option_map_or (interface_lowerings l i) o [])) (sym (ap (λ (z : ResolveView). slice_get z.interfaces i) same ∙ at))
    (interface_distinct l (subst IsWellFormed (sym same) formed) i (interface_view v) (ap (λ (z : ResolveView). slice_get z.interfaces i) same ∙ at) (names_distinct type_entry (λ e. refl) v.types.entries types)
    (names_distinct function_entry (λ e. refl) v.functions.entries functions))
