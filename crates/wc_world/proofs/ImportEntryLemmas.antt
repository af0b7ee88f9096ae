-- Entries for what a world imports, added one after another.
use Rattle.std.proofs.Common.{◌≡◌, ◌≢◌, ℕ, ◌<◌, List, [], ◌∷◌, ◌++◌, Bool, true, false, length, Option, Some, None, is_some, All, AllPairs, map, refl, sym, ap}
use Rattle.std.proofs.Common.{◌∙◌, subst, append_assoc}
use Rattle.std.specs.Prelude.{slice_get}
use Rattle.std.specs.List.{cons_option, filter_map}
use Rattle.std.specs.Option.{IsSome, option_map_or}
use Rattle.std.proofs.lemmas.List.Elements.{All-cons, All-head, All-nil, All-tail, All-weaker}
use Rattle.std.proofs.lemmas.List.Kept.{AllPairs-cons}
use Rattle.semver.specs.Identifiers.{parts_text}
use Rattle.wc_resolve.specs.Resolve.{external_id, implemented, key_text}
use Rattle.wc_resolve.specs.Ranges.{IsItemIn}
use Rattle.wc_resolve.specs.Views.{ItemView, KeyView, WorldView, function_item, interface_item, type_item}
use Rattle.wc_resolve.specs.WellFormed.{IsWellFormed}
use Rattle.wc_resolve.specs.Kinds.{ResolveView}
use Rattle.wc_resolve.proofs.ViewedLemmas.{all_unviewed}
use Rattle.wc_resolve.proofs.WellFormedLemmas.{IsUsableItem, import_functions_usable, import_items_in, import_keys_have_texts, import_keys_in}
use Rattle.wc_encoder.specs.Distinct.{AreNamesDistinct, import_name, item_interface}
use Rattle.wc_encoder.specs.EncoderParts.{EncoderView, HasWorld, world_imports}
use Rattle.wc_adapters.specs.Entries.{Entries}
use Rattle.wc_maps.proofs.PairLemmas.{pairs_head, pairs_none, pairs_tail}
use Rattle.wc_validate.specs.Imports.Map.{memory_in}
use Rattle.wc_validate.specs.Validate.{ModuleRecord}
use Rattle.wc_world.specs.Lowering.{AreEntriesDistinct, ImportEntry, IsImportable, IsLowerable, KeyedLowering, Lowerer, all_entries, entries_from}
use Rattle.wc_world.specs.Lowering.{interface_entry, interface_lowerings, lowered, lowerer_of, own_entry, own_lowerings}
use Rattle.wc_world.specs.Options.{OptionsOf}
use Rattle.wc_world.specs.Slots.{all_imports, imports_of}
use Rattle.wc_world.specs.Views.{ImportMapView, ImportedView, NamedWorldAdapter}
use Rattle.wc_world.proofs.PairListLemmas.{pairs_front}

abbrev Differ : ImportEntry → ImportEntry → Type 0
Differ x y = x.0 ≢ y.0

-- the items of a world can be imported

lowerable : (r : ResolveView) (item : ItemView) → IsItemIn r item → IsUsableItem r item → IsLowerable r item
lowerable r (interface_item i external) there usable = tt
lowerable r (function_item f) there usable = usable
lowerable r (type_item t) there usable = there

pub all_importable : (r : ResolveView) → IsWellFormed r → (i : ℕ) (w : WorldView) → slice_get r.worlds i ≡ Some w → All (IsImportable r) w.imports
all_importable r formed i w at = λ j d small. record {
  key_in = import_keys_in r formed i w at j d small;
  named = import_keys_have_texts r formed i w at parts_text j d small;
  item_in = import_items_in r formed i w at j d small;
  lowerable = lowerable r _ (import_items_in r formed i w at j d small) (import_functions_usable r formed i w at j d small);
}

pub interface_there : (r : ResolveView) (item : ItemView) (i : ℕ) → item_interface item ≡ Some i → IsItemIn r item → i < length r.interfaces
interface_there r (interface_item j external) i is there = subst (λ (z : ℕ). z < length r.interfaces) (let same : j ≡ i = cc is in same) there
interface_there r (function_item f) i is there = absurd (let bad : ⊥ = cc is in bad)
interface_there r (type_item t) i is there = absurd (let bad : ⊥ = cc is in bad)

-- one entry

abbrev entry_of : Option (List ℕ) → List KeyedLowering → Option ℕ → Option ℕ → Option (List ℕ) → ImportEntry
entry_of name lowerings interface implements external =
    (name, record { lowerings = lowerings; interface = interface; implements = implements; external_id = external })

same_entry : (n m : Option (List ℕ)) (a b : List KeyedLowering) (i j s t : Option ℕ) (x y : Option (List ℕ)) → n ≡ m → a ≡ b → i ≡ j → s ≡ t → x ≡ y
    → entry_of n a i s x ≡ entry_of m b j t y
same_entry n m a b i j s t x y h k p q e =
    ap (λ z. entry_of z a i s x) h ∙ (ap (λ z. entry_of m z i s x) k
    ∙ (ap (λ z. entry_of m b z s x) p ∙ (ap (λ z. entry_of m b j z x) q ∙ ap (λ z. entry_of m b j t z) e)))

module _ (l : Lowerer) where
  abbrev lowerings_at : ℕ → List KeyedLowering
  lowerings_at i = option_map_or (interface_lowerings l i) (slice_get l.resolve.interfaces i) []

  pub interface_is : (key : KeyView) (item : ItemView) (i : ℕ) (name : List ℕ) (v : ImportedView) → item_interface item ≡ Some i
      → key_text parts_text l.resolve key ≡ Some name → v.lowerings ≡ option_map_or (interface_lowerings l i) (slice_get l.resolve.interfaces i) []
      → v.interface ≡ Some i → v.implements ≡ implemented l.resolve key item → v.external_id ≡ external_id item
      → interface_entry l (key, item) ≡ Some (Some name, v)
  interface_is key (interface_item j external) i name v is text lowerings interface implements outer =
      let same : j ≡ i = cc is in
      ap (λ (z : ImportEntry). Some z)
      (same_entry (key_text parts_text l.resolve key) (Some name) (lowerings_at j) v.lowerings (Some j) v.interface
      (implemented l.resolve key (interface_item j external)) v.implements external v.external_id
      text (ap lowerings_at same ∙ sym lowerings) (ap (λ (z : ℕ). Some z) same ∙ sym interface) (sym implements) (sym outer))
  interface_is key (function_item f) i name v is text lowerings interface implements outer = absurd (let bad : ⊥ = cc is in bad)
  interface_is key (type_item t) i name v is text lowerings interface implements outer = absurd (let bad : ⊥ = cc is in bad)

  abbrev entry_at : KeyView → ℕ → Option (List ℕ) → ImportEntry
  entry_at key i external = entry_of (key_text parts_text l.resolve key) (lowerings_at i) (Some i)
      (implemented l.resolve key (interface_item i external)) external

  pub has_entry : (key : KeyView) (item : ItemView) (i : ℕ) → item_interface item ≡ Some i → (e : ImportEntry) × (interface_entry l (key, item) ≡ Some e)
  has_entry key (interface_item j external) i is = (entry_at key j external, refl)
  has_entry key (function_item f) i is = absurd (let bad : ⊥ = cc is in bad)
  has_entry key (type_item t) i is = absurd (let bad : ⊥ = cc is in bad)

  no_entry : (key : KeyView) (item : ItemView) → item_interface item ≡ None → interface_entry l (key, item) ≡ None
  no_entry key (interface_item j external) is = absurd (let bad : ⊥ = cc is in bad)
  no_entry key (function_item f) is = refl
  no_entry key (type_item t) is = refl

  pub own_is : (imports : Entries) (v : ImportedView) → v.lowerings ≡ own_lowerings l imports → v.interface ≡ None → v.implements ≡ None
      → v.external_id ≡ None → own_entry l imports ≡ (None, v)
  own_is imports v lowerings interface implements outer =
      same_entry None None (own_lowerings l imports) v.lowerings None v.interface None v.implements None v.external_id refl (sym lowerings)
      (sym interface) (sym implements) (sym outer)

  -- what is left to be added, once the world itself has an entry, or before

  abbrev pub entries_left : Entries → Bool → Entries → ImportMapView
  entries_left imports true rest = filter_map (interface_entry l) rest
  entries_left imports false rest = entries_from l imports rest

  module _ (imports : Entries) where
    left_interface : (has_own : Bool) (x : KeyView × ItemView) (rest : Entries) (e : ImportEntry) → interface_entry l x ≡ Some e
        → entries_left imports has_own (x ∷ rest) ≡ e ∷ entries_left imports has_own rest
    left_interface true x rest e is = ap (λ o. cons_option o (filter_map (interface_entry l) rest)) is
    left_interface false x rest e is = ap (λ o. option_map_or (λ (entry : ImportEntry). entry ∷ entries_from l imports rest) o
        (own_entry l imports ∷ filter_map (interface_entry l) rest)) is

    left_own : (x : KeyView × ItemView) (rest : Entries) → interface_entry l x ≡ None
        → entries_left imports false (x ∷ rest) ≡ own_entry l imports ∷ entries_left imports true rest
    left_own x rest is = ap (λ o. option_map_or (λ (entry : ImportEntry). entry ∷ entries_from l imports rest) o
        (own_entry l imports ∷ filter_map (interface_entry l) rest)) is

    left_same : (x : KeyView × ItemView) (rest : Entries) → interface_entry l x ≡ None → entries_left imports true (x ∷ rest) ≡ entries_left imports true rest
    left_same x rest is = ap (λ o. cons_option o (filter_map (interface_entry l) rest)) is

    pub left_none : (has_own : Bool) → entries_left imports has_own [] ≡ []
    left_none true = refl
    left_none false = refl

    -- no two entries have one name

    interfaces_all : (P : Option (List ℕ) → Type 0) (rest : Entries) → All (λ x. P (import_name l.resolve x)) rest
        → All (λ (e : ImportEntry). P e.0) (filter_map (interface_entry l) rest)
    interfaces_all P [] h = All-nil (λ (e : ImportEntry). P e.0)
    interfaces_all P ((key, interface_item i external) ∷ rest) h =
        All-cons (λ (e : ImportEntry). P e.0) (entry_at key i external) (filter_map (interface_entry l) rest)
        (All-head (λ x. P (import_name l.resolve x)) (key, interface_item i external) rest h)
        (interfaces_all P rest (All-tail (λ x. P (import_name l.resolve x)) (key, interface_item i external) rest h))
    interfaces_all P ((key, function_item f) ∷ rest) h = interfaces_all P rest (All-tail (λ x. P (import_name l.resolve x)) (key, function_item f) rest h)
    interfaces_all P ((key, type_item t) ∷ rest) h = interfaces_all P rest (All-tail (λ x. P (import_name l.resolve x)) (key, type_item t) rest h)

    entries_all : (P : Option (List ℕ) → Type 0) (rest : Entries) → P None → All (λ x. P (import_name l.resolve x)) rest
        → All (λ (e : ImportEntry). P e.0) (entries_from l imports rest)
    entries_all P [] none h = All-nil (λ (e : ImportEntry). P e.0)
    entries_all P ((key, interface_item i external) ∷ rest) none h =
        All-cons (λ (e : ImportEntry). P e.0) (entry_at key i external) (entries_from l imports rest)
        (All-head (λ x. P (import_name l.resolve x)) (key, interface_item i external) rest h)
        (entries_all P rest none (All-tail (λ x. P (import_name l.resolve x)) (key, interface_item i external) rest h))
    entries_all P ((key, function_item f) ∷ rest) none h =
        All-cons (λ (e : ImportEntry). P e.0) (own_entry l imports) (filter_map (interface_entry l) rest) none
        (interfaces_all P rest (All-tail (λ x. P (import_name l.resolve x)) (key, function_item f) rest h))
    entries_all P ((key, type_item t) ∷ rest) none h =
        All-cons (λ (e : ImportEntry). P e.0) (own_entry l imports) (filter_map (interface_entry l) rest) none
        (interfaces_all P rest (All-tail (λ x. P (import_name l.resolve x)) (key, type_item t) rest h))

    abbrev HaveDistinctNames : Entries → Type 0
    HaveDistinctNames rest = AllPairs (λ n m. n ≢ m) (map (import_name l.resolve) rest)

    names_after : (x : KeyView × ItemView) (rest : Entries) → HaveDistinctNames (x ∷ rest) → All (λ y. import_name l.resolve x ≢ import_name l.resolve y) rest
    names_after x rest h = all_unviewed (import_name l.resolve) (λ m. import_name l.resolve x ≢ m) rest
        (pairs_head (λ n m. n ≢ m) (import_name l.resolve x) (map (import_name l.resolve) rest) h)

    names_rest : (x : KeyView × ItemView) (rest : Entries) → HaveDistinctNames (x ∷ rest) → HaveDistinctNames rest
    names_rest x rest h = pairs_tail (λ n m. n ≢ m) (import_name l.resolve x) (map (import_name l.resolve) rest) h

    interfaces_distinct : (rest : Entries) → HaveDistinctNames rest → AreEntriesDistinct (filter_map (interface_entry l) rest)
    interfaces_distinct [] h = pairs_none Differ
    interfaces_distinct ((key, interface_item i external) ∷ rest) h =
        AllPairs-cons Differ (entry_at key i external) (filter_map (interface_entry l) rest)
        (interfaces_all (λ m. key_text parts_text l.resolve key ≢ m) rest (names_after (key, interface_item i external) rest h))
        (interfaces_distinct rest (names_rest (key, interface_item i external) rest h))
    interfaces_distinct ((key, function_item f) ∷ rest) h = interfaces_distinct rest (names_rest (key, function_item f) rest h)
    interfaces_distinct ((key, type_item t) ∷ rest) h = interfaces_distinct rest (names_rest (key, type_item t) rest h)

    is_not_none : (o : Option (List ℕ)) → IsSome o → o ≢ None
    is_not_none None some same = let bad : ⊥ = cc some in bad
    is_not_none (Some n) some same = let bad : ⊥ = cc same in bad

    abbrev HaveNames : Entries → Type 0
    HaveNames rest = All (λ x. IsSome (import_name l.resolve x)) rest

    own_distinct : (x : KeyView × ItemView) (rest : Entries) → HaveNames (x ∷ rest) → HaveDistinctNames (x ∷ rest)
        → AreEntriesDistinct (own_entry l imports ∷ filter_map (interface_entry l) rest)
    own_distinct x rest named h =
        AllPairs-cons Differ (own_entry l imports) (filter_map (interface_entry l) rest)
        (interfaces_all (λ m. None ≢ m) rest
        (All-weaker (λ y. IsSome (import_name l.resolve y)) (λ y. None ≢ import_name l.resolve y)
        (λ y some same. is_not_none (import_name l.resolve y) some (sym same)) rest (All-tail (λ y. IsSome (import_name l.resolve y)) x rest named)))
        (interfaces_distinct rest (names_rest x rest h))

    pub entries_distinct : (rest : Entries) → HaveNames rest → HaveDistinctNames rest → AreEntriesDistinct (entries_from l imports rest)
    entries_distinct [] named h = pairs_none Differ
    entries_distinct ((key, interface_item i external) ∷ rest) named h =
        AllPairs-cons Differ (entry_at key i external) (entries_from l imports rest)
        (entries_all (λ m. key_text parts_text l.resolve key ≢ m) rest
        (is_not_none (key_text parts_text l.resolve key)
        (All-head (λ y. IsSome (import_name l.resolve y)) (key, interface_item i external) rest named)) (names_after (key, interface_item i external) rest h))
        (entries_distinct rest (All-tail (λ y. IsSome (import_name l.resolve y)) (key, interface_item i external) rest named)
        (names_rest (key, interface_item i external) rest h))
    entries_distinct ((key, function_item f) ∷ rest) named h = own_distinct (key, function_item f) rest named h
    entries_distinct ((key, type_item t) ∷ rest) named h = own_distinct (key, type_item t) rest named h

    -- one more import

    -- entries that were found, and those that are left, are all
    abbrev pub AreAll : ImportMapView → Bool → Entries → Type 0
    AreAll found has_own rest = found ++ entries_left imports has_own rest ≡ all_entries l imports

    module _ (distinct : AreEntriesDistinct (all_entries l imports)) (found : ImportMapView) (left rest : Entries) (key : KeyView) (item : ItemView)
        (next : left ≡ (key, item) ∷ rest) where
      one_more : (e : ImportEntry) (old new : Bool) → entries_left imports old ((key, item) ∷ rest) ≡ e ∷ entries_left imports new rest
          → AreAll found old left → (found ++ e ∷ []) ++ entries_left imports new rest ≡ all_entries l imports
      one_more e old new step all = append_assoc found (e ∷ []) (entries_left imports new rest)
          ∙ (ap (λ z. found ++ z) (sym step) ∙ subst (AreAll found old) next all)

      one_distinct : (e : ImportEntry) (old new : Bool) → entries_left imports old ((key, item) ∷ rest) ≡ e ∷ entries_left imports new rest
          → AreAll found old left → AreEntriesDistinct (found ++ e ∷ [])
      one_distinct e old new step all = pairs_front Differ (found ++ e ∷ []) (entries_left imports new rest)
          (subst AreEntriesDistinct (sym (one_more e old new step all)) distinct)

      pub add_interface : (has_own : Bool) (i : ℕ) (new : ImportMapView) → item_interface item ≡ Some i
          → ((e : ImportEntry) → interface_entry l (key, item) ≡ Some e → AreEntriesDistinct (found ++ e ∷ []) → new ≡ found ++ e ∷ [])
          → AreAll found has_own left → AreAll new has_own rest
      add_interface has_own i new is put all =
          let e = has_entry key item i is in
          let step : entries_left imports has_own ((key, item) ∷ rest) ≡ e.0 ∷ entries_left imports has_own rest =
          left_interface has_own (key, item) rest e.0 e.1 in
          ap (λ z. z ++ entries_left imports has_own rest) (put e.0 e.1 (one_distinct e.0 has_own has_own step all)) ∙ one_more e.0 has_own has_own step all

      pub add_own : (new : ImportMapView) → item_interface item ≡ None
          → (AreEntriesDistinct (found ++ own_entry l imports ∷ []) → new ≡ found ++ own_entry l imports ∷ []) → AreAll found false left → AreAll new true rest
      add_own new is put all =
          let step : entries_left imports false ((key, item) ∷ rest) ≡ own_entry l imports ∷ entries_left imports true rest =
          left_own (key, item) rest (no_entry key item is) in
          ap (λ z. z ++ entries_left imports true rest) (put (one_distinct (own_entry l imports) false true step all))
          ∙ one_more (own_entry l imports) false true step all

      pub add_nothing : item_interface item ≡ None → AreAll found true left → AreAll found true rest
      add_nothing is all = ap (λ z. found ++ z) (sym (left_same (key, item) rest (no_entry key item is))) ∙ subst (AreAll found true) next all

-- the encoder's world

module _ (e : EncoderView) (r : ResolveView) (i : ℕ) (same : r ≡ e.resolve) (index : i ≡ e.world) where
  pub world_there : HasWorld e → i < length r.worlds
  world_there h = subst (λ (z : ResolveView). i < length z.worlds) (sym same) (subst (λ (z : ℕ). z < length e.resolve.worlds) (sym index) h)

  module _ (w : WorldView) (at : slice_get r.worlds i ≡ Some w) where
    imports_are : w.imports ≡ world_imports e
    imports_are =
        let there : slice_get e.resolve.worlds e.world ≡ Some w = sym (ap (λ (z : ResolveView). slice_get z.worlds i) same
        ∙ ap (slice_get e.resolve.worlds) index) ∙ at in
        sym (ap (λ o. option_map_or (λ (z : WorldView). z.imports) o []) there)

    pub names_distinct : AreNamesDistinct e.resolve (world_imports e) → AreNamesDistinct r w.imports
    names_distinct h = subst (λ (z : ResolveView). AreNamesDistinct z w.imports) (sym same) (subst (AreNamesDistinct e.resolve) (sym imports_are) h)

    -- what is found is what this world imports
    pub lowered_is : (options : OptionsOf) (main : ModuleRecord) (adapters : List NamedWorldAdapter) (has_memory : Bool)
        → has_memory ≡ is_some (memory_in main.imports)
        → all_entries (lowerer_of r options has_memory (imports_of (all_imports main adapters))) w.imports ≡ lowered e options main adapters
    lowered_is options main adapters has_memory memory =
        ap (λ (z : ResolveView). all_entries (lowerer_of z options has_memory (imports_of (all_imports main adapters))) w.imports) same
        ∙ (ap (λ (z : Bool). all_entries (lowerer_of e.resolve options z (imports_of (all_imports main adapters))) w.imports) memory
        ∙ ap (all_entries (lowerer_of e.resolve options (is_some (memory_in main.imports)) (imports_of (all_imports main adapters)))) imports_are)
