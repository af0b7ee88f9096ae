-- What an import names is there.
use Rattle.std.proofs.Common.{◌≡◌, ℕ, zero, suc, ◌<◌, Bool, true, false, if◌then◌else◌, List, [], ◌∷◌, length, Option, Some, None, All, inl, inr, refl, sym, ap, subst, arith}
use Rattle.std.specs.Prelude.{slice_get}
use Rattle.std.specs.List.{flat_map}
use Rattle.std.specs.Option.{option_and_then, option_map_or}
use Rattle.std.specs.Str.{bytes_eq}
use Rattle.std.proofs.lemmas.List.Elements.{All-append, All-cons, All-head, All-tail}
use Rattle.std.proofs.lemmas.Option.{slice_get_within}
use Rattle.wc_resolve.specs.Futures.{carried_indices, function_futures, futures_of, futures_rule, is_carrier}
use Rattle.wc_resolve.specs.Ranges.{IsEntryIn, IsItemIn}
use Rattle.wc_resolve.specs.Roots.{passed_roots}
use Rattle.wc_resolve.specs.TypeRules.{repeated, value_by_rule}
use Rattle.wc_resolve.specs.Views.{FunctionView, InterfaceView, ItemView, KeyView, KindView, PackageNameView, TypeView, WorldView, function_item, future_kind, interface_item, interface_key, plain_key, resource_kind, stream_kind, type_item}
use Rattle.wc_resolve.specs.WellFormed.{IsUsable, IsWellFormed}
use Rattle.wc_resolve.specs.Kinds.{ResolveView, kind_at}
use Rattle.wc_resolve.proofs.WellFormedLemmas.{IsUsableItem, export_functions_usable, import_functions_usable, interface_functions_usable, package_interfaces_in, all_get}
use Rattle.wc_adapters.specs.Entries.{Entries}
use Rattle.wc_names.specs.First.{FirstOf}
use Rattle.wc_names.specs.Interfaces.{FoundInterface, IsCanonicalEntry, IsEntryOf, IsIdMatch, IsMemberOf, NamesInterface, id_matches}
use Rattle.wc_names.specs.Keys.{as_function, as_interface, function_at, if_resource, item_under, key_eq, resource_at, world_entries}
use Rattle.wc_texts.specs.Names.{under_name}
use Rattle.wc_names.specs.Payloads.{HasPayload}
use Rattle.wc_names.specs.Mangling.{Scheme, legacy, standard}
use Rattle.wc_names.specs.Views.{typed}
use Rattle.wc_names.proofs.KeyLemmas.{item_in_range, lookup_passes}

-- futures and streams are in the lists of types

abbrev IsCarrierAt : List TypeView → ℕ → Type 0
IsCarrierAt types id = option_map_or is_carrier (kind_at types id) false ≡ true

all_flat_map : (P : ℕ → Type 0) (f : ℕ → List ℕ) (xs : List ℕ) → ((x : ℕ) → All P (f x)) → All P (flat_map f xs)
all_flat_map P f [] each = λ k d small. absurd (let bad : ⊥ = omega (arith, small) in bad)
all_flat_map P f (x ∷ xs) each = All-append P (f x) (flat_map f xs) (each x) (all_flat_map P f xs each)

itself_carries : (types : List TypeView) (x : ℕ) (b : Bool) → option_map_or is_carrier (kind_at types x) false ≡ b
    → All (IsCarrierAt types) (if b then x ∷ [] else [])
itself_carries types x true is = All-cons (IsCarrierAt types) x [] is (λ k d small. absurd (let bad : ⊥ = omega (arith, small) in bad))
itself_carries types x false is = λ k d small. absurd (let bad : ⊥ = omega (arith, small) in bad)

repeated_carry : (types : List TypeView) (n x : ℕ) → All (IsCarrierAt types) (repeated futures_rule [] types n x)
repeated_carry types zero x = λ k d small. absurd (let bad : ⊥ = omega (arith, small) in bad)
repeated_carry types (suc n) x =
    All-append (IsCarrierAt types) (flat_map (repeated futures_rule [] types n) (option_map_or carried_indices (kind_at types x) []))
    (if option_map_or is_carrier (kind_at types x) false then x ∷ [] else [])
    (all_flat_map (IsCarrierAt types) (repeated futures_rule [] types n) (option_map_or carried_indices (kind_at types x) []) (repeated_carry types n))
    (itself_carries types x (option_map_or is_carrier (kind_at types x) false) refl)

futures_carry : (types : List TypeView) (x : ℕ) → All (IsCarrierAt types) (futures_of types x)
unfolding value_by_rule
futures_carry types x = repeated_carry types (length types) x

carrier_payload : (r : ResolveView) (id : ℕ) (name : List ℕ) (k : Option KindView) → kind_at r.types id ≡ k → option_map_or is_carrier k false ≡ true
    → HasPayload r (typed id name)
carrier_payload r id name (Some (future_kind t)) at is = (t, inl at)
carrier_payload r id name (Some (stream_kind t)) at is = (t, inr at)
carrier_payload r id name k at is = absurd (let bad : ⊥ = cc is in bad)

-- the future or stream at an index of a function's list has a payload, or none
pub listed_payload : (r : ResolveView) (f : FunctionView) (n id : ℕ) (name : List ℕ) → slice_get (function_futures r f) n ≡ Some id
    → HasPayload r (typed id name)
listed_payload r f n id name at =
    carrier_payload r id name (kind_at r.types id) refl
    (all_get (IsCarrierAt r.types) (function_futures r f) n id (all_flat_map (IsCarrierAt r.types) (futures_of r.types) (passed_roots f)
    (futures_carry r.types)) at)

-- a resource that is found is one
pub resource_is : (r : ResolveView) (t u : ℕ) → resource_at r t ≡ Some u → (u ≡ t) × (kind_at r.types u ≡ Some resource_kind)
resource_is r t u is = at (kind_at r.types t) refl is where
  at : (k : Option KindView) → kind_at r.types t ≡ k → option_and_then (if_resource t) k ≡ Some u → (u ≡ t) × (kind_at r.types u ≡ Some resource_kind)
  at (Some resource_kind) same e = let h : t ≡ u = cc e in (sym h, subst (λ (z : ℕ). kind_at r.types z ≡ Some resource_kind) h same)
  at k same e = absurd (let bad : ⊥ = cc e in bad)

-- an item that is a function
pub as_function_is : (o : Option ItemView) (f : FunctionView) → option_and_then as_function o ≡ Some f → o ≡ Some (function_item f)
as_function_is None f is = absurd (let bad : ⊥ = cc is in bad)
as_function_is (Some (interface_item i external)) f is = absurd (let bad : ⊥ = cc is in bad)
as_function_is (Some (function_item g)) f is = ap (λ (z : FunctionView). Some (function_item z)) (let e : g ≡ f = cc is in e)
as_function_is (Some (type_item t)) f is = absurd (let bad : ⊥ = cc is in bad)

module _ (r : ResolveView) (formed : IsWellFormed r) (index : ℕ) (w : WorldView) (at : slice_get r.worlds index ≡ Some w) where
  usable_items : (imported : Bool) → All (λ (x : KeyView × ItemView). IsUsableItem r x.1) (world_entries w imported)
  usable_items true = import_functions_usable r formed index w at
  usable_items false = export_functions_usable r formed index w at

  -- a function under a plain key
  pub world_function : (imported : Bool) (name : List ℕ) (f : FunctionView) → function_at r w imported None name ≡ Some f
      → (item_under (world_entries w imported) (plain_key name) ≡ Some (function_item f)) × IsUsable r f
  world_function imported name f is =
      let item = as_function_is (item_under (world_entries w imported) (plain_key name)) f is in (
        item,
        (lookup_passes (λ (x : KeyView × ItemView). IsUsableItem r x.1) (key_eq (plain_key name)) (world_entries w imported) (function_item f)
            (usable_items imported) item).1,
      )

  -- a function of an interface, and of either
  pub interface_function_usable : (imported : Bool) (i : ℕ) (name : List ℕ) (f : FunctionView) → function_at r w imported (Some i) name ≡ Some f
      → (i < length r.interfaces) × IsUsable r f
  interface_function_usable imported i name f is = in_interface (slice_get r.interfaces i) refl is where
    in_interface : (o : Option InterfaceView) → slice_get r.interfaces i ≡ o → option_and_then (λ (v : InterfaceView). under_name v.functions name) o ≡ Some f
        → (i < length r.interfaces) × IsUsable r f
    in_interface None here same = absurd (let bad : ⊥ = cc same in bad)
    in_interface (Some v) here same = (
      slice_get_within r.interfaces i v here,
      (lookup_passes (λ (e : List ℕ × FunctionView). IsUsable r e.1) (bytes_eq name) v.functions f
          (interface_functions_usable r formed i v here) same).1,
    )

  pub function_usable : (imported : Bool) (interface : Option ℕ) (name : List ℕ) (f : FunctionView) → function_at r w imported interface name ≡ Some f
      → IsUsable r f
  function_usable imported None name f is = (world_function imported name f is).1
  function_usable imported (Some i) name f is = (interface_function_usable imported i name f is).1

-- interfaces that are found are in range

module _ (r : ResolveView) (formed : IsWellFormed r) (entries : Entries) (in_range : All (IsEntryIn r) entries) where
  first_in_range : (H : KeyView × ItemView → FoundInterface → Type 0)
      → ((e : KeyView × ItemView) (f : FoundInterface) → IsEntryIn r e → H e f → f.1 < length r.interfaces)
      → (es : Entries) → All (IsEntryIn r) es → (f : FoundInterface) → FirstOf H es f → f.1 < length r.interfaces
  first_in_range H each [] all f first = absurd first
  first_in_range H each (e ∷ es) all f (inl h) = each e f (All-head (IsEntryIn r) e es all) h
  first_in_range H each (e ∷ es) all f (inr h) = first_in_range H each es (All-tail (IsEntryIn r) e es all) f h.1

  entry_in_range : (P : ℕ → Type 0) (e : KeyView × ItemView) (f : FoundInterface) → IsEntryIn r e → IsEntryOf P e f → f.1 < length r.interfaces
  unfolding IsEntryIn
  entry_in_range P (plain_key n, item) f here h = absurd h
  entry_in_range P (interface_key i, item) f here h = subst (λ (z : FoundInterface). z.1 < length r.interfaces) (sym h.1) here.0

  canonical_in_range : (text : List ℕ) (e : KeyView × ItemView) (f : FoundInterface) → IsEntryIn r e → IsCanonicalEntry r text e f → f.1 < length r.interfaces
  unfolding IsEntryIn
  canonical_in_range text (plain_key n, interface_item i external) f here h = subst (λ (z : FoundInterface). z.1 < length r.interfaces) (sym h.1) here.1
  canonical_in_range text (plain_key n, function_item d) f here h = absurd h
  canonical_in_range text (plain_key n, type_item t) f here h = absurd h
  canonical_in_range text (interface_key i, item) f here h = subst (λ (z : FoundInterface). z.1 < length r.interfaces) (sym h.1) here.0

  member_in_range : (p : PackageNameView) (name : List ℕ) (i : ℕ) → IsMemberOf r p name i → i < length r.interfaces
  member_in_range p name i m =
      (lookup_passes (λ (e : List ℕ × ℕ). e.1 < length r.interfaces) (bytes_eq name) m.in_package.interfaces i
      (package_interfaces_in r formed m.index m.in_package m.is_package) m.is_member).1

  id_match_in_range : (p : PackageNameView) (name : List ℕ) (f : FoundInterface) → FirstOf (IsIdMatch r entries p name) id_matches f → f.1 < length r.interfaces
  id_match_in_range p name f (inl h) = subst (λ (z : FoundInterface). z.1 < length r.interfaces) (sym h.3) (member_in_range p name h.0 h.1)
  id_match_in_range p name f (inr (no_exact, inl h)) = first_in_range _ (entry_in_range _) entries in_range f h.2
  id_match_in_range p name f (inr (no_exact, inr (no_clone, inl h))) = first_in_range _ (entry_in_range _) entries in_range f h
  id_match_in_range p name f (inr (no_exact, inr (no_clone, inr h))) = absurd h.1

  plain_in_range : (i : ℕ) (o : Option ItemView) → ((item : ItemView) → o ≡ Some item → IsItemIn r item) → option_and_then as_interface o ≡ Some i
      → i < length r.interfaces
  plain_in_range i None items is = absurd (let bad : ⊥ = cc is in bad)
  plain_in_range i (Some (interface_item k external)) items is =
      subst (λ (z : ℕ). z < length r.interfaces) (let e : k ≡ i = cc is in e) (items (interface_item k external) refl)
  plain_in_range i (Some (function_item f)) items is = absurd (let bad : ⊥ = cc is in bad)
  plain_in_range i (Some (type_item t)) items is = absurd (let bad : ⊥ = cc is in bad)

  -- the interface of a text
  pub interface_in_range : (s : Scheme) (text : List ℕ) (f : FoundInterface) → NamesInterface s r entries text f → f.1 < length r.interfaces
  interface_in_range standard text f h = first_in_range (IsCanonicalEntry r text) (canonical_in_range text) entries in_range f h
  interface_in_range (legacy hook) text f (inl h) =
      subst (λ (z : FoundInterface). z.1 < length r.interfaces) (sym h.2)
      (plain_in_range h.0 (item_under entries (plain_key text)) (λ item here. item_in_range r entries (plain_key text) item in_range here) h.1)
  interface_in_range (legacy hook) text f (inr (no_plain, inl h)) = id_match_in_range h.0 h.1 f h.3
  interface_in_range (legacy hook) text f (inr (no_plain, inr h)) = absurd h.1
