-- Interfaces that texts are about are in range.
use Rattle.std.proofs.Common.{◌≡◌, ℕ, ◌<◌, Bool, List, [], ◌∷◌, length, Option, Some, None, All, inl, inr, refl, sym, subst}
use Rattle.std.specs.Prelude.{slice_get}
use Rattle.std.specs.Option.{option_and_then}
use Rattle.std.proofs.lemmas.List.Elements.{All-head, All-tail}
use Rattle.wc_resolve.specs.declared.ids.InterfaceId.{InterfaceId}
use Rattle.wc_resolve.specs.Ranges.{AreIdsInRange, IsEntryIn, IsItemIn, IsPackageIn}
use Rattle.wc_resolve.specs.Views.{KeyView, plain_key, interface_key, ItemView, interface_item, function_item, type_item, PackageView, PackageNameView, WorldView}
use Rattle.wc_resolve.specs.WellFormed.{IsWellFormed}
use Rattle.wc_resolve.specs.Kinds.{ResolveView}
use Rattle.wc_adapters.specs.Entries.{Entries}
use Rattle.wc_names.specs.First.{FirstOf}
use Rattle.wc_names.specs.Interfaces.{FoundInterface, IsMemberOf, IsOnTrack, IsCloneOf, IsEntryOf, id_matches, IsIdMatch, IsCanonicalEntry, NamesInterface}
use Rattle.wc_names.specs.Keys.{as_interface, item_under, world_entries}
use Rattle.wc_names.specs.Mangling.{Scheme, standard, legacy}
use Rattle.wc_resolve.proofs.WellFormedLemmas.{all_get, item_in, key_in}
use Rattle.wc_validate.proofs.ScopeLemmas.{entries_in_range, holds_of_found, item_in_range}

-- the one that is first is one of the list
first_with : {K O : Type 0} (H : K → O → Type 0) (P : K → Type 0) (ks : List K) (o : O) → All P ks → FirstOf H ks o → (k : K) × P k × H k o
first_with H P [] o all f = absurd f
first_with H P (k ∷ ks) o all (inl h) = (k, All-head P k ks all, h)
first_with H P (k ∷ ks) o all (inr h) = first_with H P ks o (All-tail P k ks all) h.1

module _ (r : ResolveView) (formed : IsWellFormed r) (es : Entries) where
  packages_in : AreIdsInRange r → All (IsPackageIn r) r.packages
  unfolding AreIdsInRange
  packages_in h = h.3

  members_in : (p : PackageView) → IsPackageIn r p → All (λ e. e.1 < length r.interfaces) p.interfaces
  unfolding IsPackageIn
  members_in p h = h

  member_in : (p : PackageNameView) (n : List ℕ) (i : ℕ) → IsMemberOf r p n i → i < length r.interfaces
  member_in p n i m =
      (holds_of_found (λ e. e.1 < length r.interfaces) _ m.in_package.interfaces i
      (members_in m.in_package (all_get (IsPackageIn r) r.packages m.index m.in_package (packages_in formed.in_range) m.is_package)) m.is_member).1

  module _ (all : All (IsEntryIn r) es) where
    entry_found : (P : ℕ → Type 0) (k : KeyView × ItemView) (f : FoundInterface) → IsEntryIn r k → IsEntryOf P k f → f.1 < length r.interfaces
    entry_found P (plain_key n, item) f there h = absurd h
    entry_found P (interface_key i, item) f there h = subst (λ z. z.1 < length r.interfaces) (sym h.1) (key_in r (interface_key i, item) there)

    entry_first : (P : ℕ → Type 0) (f : FoundInterface) → FirstOf (IsEntryOf P) es f → f.1 < length r.interfaces
    entry_first P f h = let found = first_with (IsEntryOf P) (IsEntryIn r) es f all h in entry_found P found.0 f found.1 found.2

    canonical_found : (text : List ℕ) (k : KeyView × ItemView) (f : FoundInterface) → IsEntryIn r k → IsCanonicalEntry r text k f → f.1 < length r.interfaces
    canonical_found text (plain_key n, interface_item i x) f there h =
        subst (λ z. z.1 < length r.interfaces) (sym h.1) (item_in r (plain_key n, interface_item i x) there)
    canonical_found text (plain_key n, function_item x) f there h = absurd h
    canonical_found text (plain_key n, type_item x) f there h = absurd h
    canonical_found text (interface_key i, item) f there h = subst (λ z. z.1 < length r.interfaces) (sym h.1) (key_in r (interface_key i, item) there)

    as_interface_is : (o : Option ItemView) (i : ℕ) → option_and_then as_interface o ≡ Some i → ((item : ItemView) → o ≡ Some item → IsItemIn r item)
        → i < length r.interfaces
    as_interface_is None i is each = absurd (let bad : ⊥ = cc is in bad)
    as_interface_is (Some (interface_item j x)) i is each =
        subst (λ z. z < length r.interfaces) (let same : j ≡ i = cc is in same) (each (interface_item j x) refl)
    as_interface_is (Some (function_item x)) i is each = absurd (let bad : ⊥ = cc is in bad)
    as_interface_is (Some (type_item x)) i is each = absurd (let bad : ⊥ = cc is in bad)

    id_match_in : (p : PackageNameView) (n : List ℕ) (f : FoundInterface) → FirstOf (IsIdMatch r es p n) id_matches f → f.1 < length r.interfaces
    id_match_in p n f (inl h) = subst (λ z. z.1 < length r.interfaces) (sym h.3) (member_in p n h.0 h.1)
    id_match_in p n f (inr (x, inl h)) = entry_first (IsCloneOf r h.0) f h.2
    id_match_in p n f (inr (x, inr (y, inl h))) = entry_first (IsOnTrack r p n) f h
    id_match_in p n f (inr (x, inr (y, inr h))) = absurd h.1

    -- and in range
    pub interface_in_range : (s : Scheme) (text : List ℕ) (f : FoundInterface) → NamesInterface s r es text f → f.1 < length r.interfaces
    interface_in_range standard text f h =
        let found = first_with (IsCanonicalEntry r text) (IsEntryIn r) es f all h in canonical_found text found.0 f found.1 found.2
    interface_in_range (legacy hook) text f (inl h) =
        subst (λ z. z.1 < length r.interfaces) (sym h.2) (as_interface_is (item_under es (plain_key text)) h.0 h.1
        (λ item is. item_in_range r es (plain_key text) item all is))
    interface_in_range (legacy hook) text f (inr (x, inl h)) = id_match_in h.0 h.1 f h.3
    interface_in_range (legacy hook) text f (inr (x, inr h)) = absurd h.1

-- the interface that is found among what a world imports or exports is in range
pub found_in_range : (r : ResolveView) → IsWellFormed r → (w : WorldView) (k : ℕ) (imported : Bool) → slice_get r.worlds k ≡ Some w
    → (s : Scheme) (text : List ℕ) (key : KeyView) (id x : InterfaceId)
    → NamesInterface s r (world_entries w imported) text (key, id.0) → Some id ≡ Some x → x.0 < length r.interfaces
found_in_range r formed w k imported at s text key id x is same =
    let id_is : id ≡ x = cc same in
    subst (λ z. z.0 < length r.interfaces) id_is (interface_in_range r formed (world_entries w imported) (entries_in_range r w k imported formed at) s text
    (key, id.0) is)

-- an interface that is in range, under another name
pub id_in_range : (r : ResolveView) (id x : InterfaceId) → id.0 < length r.interfaces → Some id ≡ Some x → x.0 < length r.interfaces
id_in_range r id x below same =
    let id_is : id ≡ x = cc same in
    subst (λ z. z.0 < length r.interfaces) id_is below
