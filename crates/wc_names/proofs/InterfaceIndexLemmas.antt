-- Indices that keep, under each key, the first entry that has it; and those of the interfaces of a world.
use Rattle.std.proofs.Common.{◌≡◌, ◌↔◌, Bool, true, false, cond, List, [], ◌∷◌, ◌++◌, Option, Some, None, is_some, refl, sym, ap, subst, ◌∙◌, inl, inr, ℕ, map, Result, Ok, Err, String, string_bytes}
use Rattle.std.specs.Prelude.{MatchOption, IfOk}
use Rattle.std.specs.Map.{lookup}
use Rattle.std.specs.Option.{option_map, option_or, option_and_then}
use Rattle.indexmap.specs.IndexMap.{insert_entry}
use Rattle.wc_names.specs.Finds.{Finds}
use Rattle.wc_names.specs.First.{FirstOf}
use Rattle.wc_names.specs.Views.{keyed_view}
use Rattle.wc_names.specs.InterfaceIndex.{KeepsFirst, with_first, IsKeyOf, InterfaceNamesView, IsTrackEntry, TrackNameView, interface_names_view, is_index, is_text, is_track_name, track_name_in, track_name_view}
use Rattle.wc_names.proofs.SearchLemmas.{IsFirstInRest, none_found, rest_after, first_found}
use Rattle.std.specs.declared.alloc.AllocError.{AllocError}
use Rattle.std.specs.Borrow.{Bor}
use Rattle.std.specs.declared.alloc.Global.{Global}
use Rattle.std.proofs.lemmas.Slice.Eq.{bytes_eq-Decides}
use Rattle.std.proofs.lemmas.Bool.{and_from, and_parts}
use Rattle.wc_maps.proofs.OptionLemmas.{none_of_false}
use Rattle.wc_resolve.specs.declared.ids.InterfaceId.{InterfaceId}
use Rattle.wc_resolve.specs.declared.worlds.WorldKey.{WorldKey}
use Rattle.wc_resolve.specs.declared.worlds.WorldItem.{WorldItem}
use Rattle.wc_resolve.specs.Names.{track}
use Rattle.wc_resolve.specs.Resolve.{VersionView, qualified_name}
use Rattle.wc_resolve.specs.Views.{ItemView, KeyView, PackageNameView, interface_key, item_view, key_view, plain_key, world_entry}
use Rattle.wc_resolve.specs.Kinds.{ResolveView}
use Rattle.wc_resolve.proofs.KeyLemmas.{nat_from, nat_to}
use Rattle.wc_adapters.specs.Entries.{Entries}
use Rattle.wc_names.specs.declared.interface_index.TrackName.{TrackName}
use Rattle.wc_names.specs.Interfaces.{FoundInterface, HaveSameTrack, IsAbout, IsCanonicalEntry, IsEntryOf, IsOnTrack, NamesInterface, found_interface, interface_texts, under_own_key}
use Rattle.wc_names.specs.Mangling.{Scheme}
use Rattle.wc_names.proofs.InterfaceLemmas.{without_version}

-- of the entries that were passed the first is kept; a key with nothing kept has its first, if any, in the rest
abbrev pub KeepsPassed : {T E O : Type 0} → (T → E → O → Type 0) → List E → List E → (T → Option O) → Type 0
KeepsPassed {T} Has all rest at = (t : T) → MatchOption (at t) (IsFirstInRest (Has t) all rest) (FirstOf (Has t) all)

pub lookup_at : {X : Type 0} (b : Bool) (x : X) (p q r : Option X) → p ≡ option_or q r → cond b (Some x) p ≡ option_or (cond b (Some x) q) r
lookup_at true x p q r h = refl
lookup_at false x p q r h = h

-- what is found with one more entry after the others
pub lookup_push : {K X : Type 0} (test : K → Bool) (es : List (K × X)) (k : K) (v : X)
    → lookup test (es ++ (k, v) ∷ []) ≡ option_or (lookup test es) (cond (test k) (Some v) None)
lookup_push test [] k v = refl
lookup_push test (e ∷ es) k v =
    lookup_at (test e.0) e.1 (lookup test (es ++ (k, v) ∷ [])) (lookup test es) (cond (test k) (Some v) None) (lookup_push test es k v)

passed_at : {E O : Type 0} (Has : E → O → Type 0) (all rest : List E) (e : E) (o : Option O) → ((p : O) → o ≡ None → ¬ Has e p)
    → MatchOption o (IsFirstInRest Has all (e ∷ rest)) (FirstOf Has all) → MatchOption o (IsFirstInRest Has all rest) (FirstOf Has all)
passed_at Has all rest e None none h = rest_after Has all rest e h (λ p. none p refl)
passed_at Has all rest e (Some x) none h = h

-- what is kept after an entry without a key
pub keeps_as_before : {T E O : Type 0} (Has : T → E → O → Type 0) (all rest : List E) (e : E) (at : T → Option O) → ((t : T) (o : O) → ¬ Has t e o)
    → KeepsPassed Has all (e ∷ rest) at → KeepsPassed Has all rest at
keeps_as_before Has all rest e at none h t = passed_at (Has t) all rest e (at t) (λ p empty. none t p) (h t)

module _ {T E O K V : Type 0} (Has : T → E → O → Type 0) (test : T → K → Bool) (key : K → T) (view : V → O)
    (law : (t : T) (k : K) → (test t k ≡ true) ↔ (t ≡ key k)) where
  module _ (all rest : List E) (e : E) (kept : List (K × V)) (k : K) (v : V) (holds : Has (key k) e (view v)) (only : (t : T) (o : O) → Has t e o → t ≡ key k)
      (t : T) where
    -- an entry whose key is there already
    there_at : (o : Option V) → lookup (test t) kept ≡ o → is_some (lookup (test (key k)) kept) ≡ true → (p : O) → option_map view o ≡ None → ¬ Has t e p
    there_at None is there p none h =
        let gone : lookup (test (key k)) kept ≡ None = subst (λ z. lookup (test z) kept ≡ None) (only t p h) is in
        let both : false ≡ true = sym (ap is_some gone) ∙ there in
        let bad : ⊥ = cc both in bad
    there_at (Some x) is there p none h = let bad : ⊥ = cc none in bad

    -- an entry that is the first of its key
    new_at : (o : Option V) (b : Bool) → test t k ≡ b → MatchOption (option_map view o) (IsFirstInRest (Has t) all (e ∷ rest)) (FirstOf (Has t) all)
        → MatchOption (option_map view (option_or o (cond b (Some v) None))) (IsFirstInRest (Has t) all rest) (FirstOf (Has t) all)
    new_at (Some x) b is h = h
    new_at None true is h = first_found (Has t) all rest e (view v) h (subst (λ z. Has z e (view v)) (sym ((law t k).0 is)) holds)
    new_at None false is h =
        rest_after (Has t) all rest e h
        (λ p q. let same : test t k ≡ true = (law t k).1 (only t p q) in let both : true ≡ false = sym same ∙ is in let bad : ⊥ = cc both in bad)

    next_at : (b : Bool) → is_some (lookup (test (key k)) kept) ≡ b
        → MatchOption (option_map view (lookup (test t) kept)) (IsFirstInRest (Has t) all (e ∷ rest)) (FirstOf (Has t) all)
        → MatchOption (option_map view (lookup (test t) (cond b kept (kept ++ (k, v) ∷ [])))) (IsFirstInRest (Has t) all rest) (FirstOf (Has t) all)
    next_at true there h = passed_at (Has t) all rest e (option_map view (lookup (test t) kept)) (there_at (lookup (test t) kept) refl there) h
    next_at false there h =
        subst (λ z. MatchOption (option_map view z) (IsFirstInRest (Has t) all rest) (FirstOf (Has t) all)) (sym (lookup_push (test t) kept k v))
        (new_at (lookup (test t) kept) (test t k) refl h)

  -- what is kept after an entry with a key
  pub keeps_next : (all rest : List E) (e : E) (kept new : List (K × V)) (k : K) (v : V) → Has (key k) e (view v) → ((t : T) (o : O) → Has t e o → t ≡ key k)
      → new ≡ with_first (λ x. test (key x)) kept k v
      → KeepsPassed Has all (e ∷ rest) (λ t. option_map view (lookup (test t) kept)) → KeepsPassed Has all rest (λ t. option_map view (lookup (test t) new))
  keeps_next all rest e kept new k v holds only is h t =
      subst (λ z. MatchOption (option_map view (lookup (test t) z)) (IsFirstInRest (Has t) all rest) (FirstOf (Has t) all)) (sym is)
      (next_at all rest e kept k v holds only t (is_some (lookup (test (key k)) kept)) refl (h t))

all_at : {E O : Type 0} (Has : E → O → Type 0) (all : List E) (o : Option O) → MatchOption o (IsFirstInRest Has all []) (FirstOf Has all)
    → Finds o (FirstOf Has all)
all_at Has all None h = none_found Has all h
all_at Has all (Some x) h = h

-- what is kept after the last entry
pub keeps_all : {T E O K V : Type 0} (Has : T → E → O → Type 0) (test : T → K → Bool) (view : V → O) (all rest : List E) (kept : List (K × V)) → rest ≡ []
    → KeepsPassed Has all rest (λ t. option_map view (lookup (test t) kept)) → KeepsFirst Has test view all kept
keeps_all Has test view all rest kept none h t =
    all_at (Has t) all (option_map view (lookup (test t) kept)) (subst
    (λ z. MatchOption (option_map view (lookup (test t) kept)) (IsFirstInRest (Has t) all z) (FirstOf (Has t) all)) none (h t))

-- the first by other words for what entries have

first_as : {E O : Type 0} (Has G : E → O → Type 0) → ((e : E) (o : O) → Has e o ↔ G e o) → (es : List E) (o : O) → FirstOf Has es o → FirstOf G es o
first_as Has G same [] o f = f
first_as Has G same (e ∷ es) o (inl h) = inl ((same e o).0 h)
first_as Has G same (e ∷ es) o (inr h) = inr ((λ p g. h.0 p ((same e p).1 g)), first_as Has G same es o h.1)

pub finds_as : {E O : Type 0} (Has G : E → O → Type 0) → ((e : E) (o : O) → Has e o ↔ G e o) → (es : List E) (found : Option O) → Finds found (FirstOf Has es)
    → Finds found (FirstOf G es)
finds_as Has G same es None none = λ o f. none o (first_as G Has (λ e p. ((same e p).1, (same e p).0)) es o f)
finds_as Has G same es (Some x) f = first_as Has G same es x f

-- a value under a key that was not there
pub put_first : {K V : Type 0} (eq : K → K → Bool) (kept new : List (K × V)) (k : K) (v : V) (there : Bool) → new ≡ insert_entry eq kept k v
    → (lookup (eq k) kept ≡ None → insert_entry eq kept k v ≡ kept ++ (k, v) ∷ []) → there ≡ is_some (lookup (eq k) kept) → there ≡ false
    → new ≡ with_first eq kept k v
put_first eq kept new k v there put last is absent =
    let gone : is_some (lookup (eq k) kept) ≡ false = sym is ∙ absent in
    put ∙ (last (none_of_false (lookup (eq k) kept) gone) ∙ sym (ap (λ z. cond z kept (kept ++ (k, v) ∷ [])) gone))

-- the tests of keys

pub text_law : (t : List ℕ) (k : String Global) → (is_text t k ≡ true) ↔ (t ≡ string_bytes k)
text_law t k = bytes_eq-Decides t (string_bytes k)

pub index_law : (i : ℕ) (k : InterfaceId) → (is_index i k ≡ true) ↔ (i ≡ k.0)
index_law i k = (nat_from i k.0, nat_to i k.0)

pub track_law : (t : TrackNameView) (k : TrackName) → (is_track_name t k ≡ true) ↔ (t ≡ track_name_view k)
track_law (a, b, c, d) k = (
  (λ h.
      let h1 = and_parts _ _ h in
      let h2 = and_parts _ _ h1.1 in
      let h3 = and_parts _ _ h2.1 in
      ap (λ x. (x, b, c, d)) ((bytes_eq-Decides a (string_bytes k.namespace)).0 h1.0)
      ∙ (ap (λ x. (string_bytes k.namespace, x, c, d)) ((bytes_eq-Decides b (string_bytes k.package_name)).0 h2.0)
      ∙ (ap (λ x. (string_bytes k.namespace, string_bytes k.package_name, x, d)) ((bytes_eq-Decides c (string_bytes k.interface)).0 h3.0)
      ∙ ap (λ x. (string_bytes k.namespace, string_bytes k.package_name, string_bytes k.interface, x)) ((bytes_eq-Decides d (string_bytes k.track)).0 h3.1)))),
  (λ e.
      and_from _ _ ((bytes_eq-Decides a (string_bytes k.namespace)).1 (ap (λ p. p.0) e))
      (and_from _ _ ((bytes_eq-Decides b (string_bytes k.package_name)).1 (ap (λ p. p.1) e))
      (and_from _ _ ((bytes_eq-Decides c (string_bytes k.interface)).1 (ap (λ p. p.2) e))
      ((bytes_eq-Decides d (string_bytes k.track)).1 (ap (λ p. p.3) e))))),
)

-- what is kept after an entry of a world with a key by which it is found
module _ {T K V : Type 0} (Has : T → KeyView × ItemView → FoundInterface → Type 0) (test : T → K → Bool) (key : K → T) (view : V → FoundInterface)
    (law : (t : T) (k : K) → (test t k ≡ true) ↔ (t ≡ key k)) where
  pub entry_kept : (es left rest : List (WorldKey × WorldItem)) (k : WorldKey) (item : WorldItem) (kept new : List (K × V)) (own : K) (v : V)
      → left ≡ (k, item) ∷ rest
      → IsKeyOf Has (key_view k, item_view item) (Some (key own, view v)) → new ≡ with_first (λ x. test (key x)) kept own v
      → KeepsPassed Has (map world_entry es) (map world_entry left) (λ t. option_map view (lookup (test t) kept))
      → KeepsPassed Has (map world_entry es) (map world_entry rest) (λ t. option_map view (lookup (test t) new))
  entry_kept es left rest k item kept new own v next is_key put before =
      keeps_next Has test key view law (map world_entry es) (map world_entry rest) (key_view k, item_view item) kept new own v is_key.0 is_key.1 put
      (subst (λ z. KeepsPassed Has (map world_entry es) (map world_entry z) (λ t. option_map view (lookup (test t) kept))) next before)

-- what is kept after an entry of a world without a key by which it is found
pub entry_passed : {T K V : Type 0} (Has : T → KeyView × ItemView → FoundInterface → Type 0) (test : T → K → Bool) (view : V → FoundInterface)
    (es left rest : List (WorldKey × WorldItem)) (k : WorldKey) (item : WorldItem) (kept : List (K × V)) → left ≡ (k, item) ∷ rest
    → IsKeyOf Has (key_view k, item_view item) None → KeepsPassed Has (map world_entry es) (map world_entry left) (λ t. option_map view (lookup (test t) kept))
    → KeepsPassed Has (map world_entry es) (map world_entry rest) (λ t. option_map view (lookup (test t) kept))
entry_passed Has test view es left rest k item kept next none before =
    keeps_as_before Has (map world_entry es) (map world_entry rest) (key_view k, item_view item) (λ t. option_map view (lookup (test t) kept)) none
    (subst (λ z. KeepsPassed Has (map world_entry es) (map world_entry z) (λ t. option_map view (lookup (test t) kept))) next before)

-- what is on a track

module _ (p : PackageNameView) (n : List ℕ) (v : VersionView) (has_version : p.version ≡ Some v) where
  same_at : (q : PackageNameView) (m : List ℕ) (w : Option VersionView) → q.version ≡ w
      → option_map {U = TrackNameView} (λ (v : VersionView). (q.namespace, q.name, m, track v)) w ≡ Some (p.namespace, p.name, n, track v)
      → (m ≡ n) × (q.namespace ≡ p.namespace) × (q.name ≡ p.name) × HaveSameTrack w (Some v)
  same_at q m None is e = absurd (let bad : ⊥ = cc e in bad)
  same_at q m (Some u) is e =
      let same : ◌≡◌ {A = TrackNameView} (q.namespace, q.name, m, track u) (p.namespace, p.name, n, track v) = cc e in
      (ap (λ (z : TrackNameView). z.2) same, ap (λ (z : TrackNameView). z.0) same, ap (λ (z : TrackNameView). z.1) same, ap (λ (z : TrackNameView). z.3) same)

  on_track_at : (r : ResolveView) (i : ℕ) (o : Option (PackageNameView × List ℕ)) → qualified_name r i ≡ o
      → option_and_then (λ (m : PackageNameView × List ℕ). track_name_in m.0 m.1) o ≡ Some (p.namespace, p.name, n, track v) → IsOnTrack r p n i
  on_track_at r i None is e = absurd (let bad : ⊥ = cc e in bad)
  on_track_at r i (Some (q, m)) is e =
      let same = same_at q m q.version refl e in
      (q, is ∙ ap (λ (z : List ℕ). Some (q, z)) same.0, (same.1, same.2, subst (λ z. HaveSameTrack q.version z) (sym has_version) same.3))

  named_at : (q : PackageNameView) (w : Option VersionView) → HaveSameTrack w (Some v) → q.namespace ≡ p.namespace → q.name ≡ p.name
      → option_map {U = TrackNameView} (λ (v : VersionView). (q.namespace, q.name, n, track v)) w ≡ Some (p.namespace, p.name, n, track v)
  named_at q None h a b = absurd h
  named_at q (Some u) h a b =
      let with : List ℕ → List ℕ → List ℕ → Option TrackNameView = λ x y z. Some (x, y, n, z) in
      ap (λ z. with z q.name (track u)) a ∙ (ap (λ z. with p.namespace z (track u)) b ∙ ap (λ z. with p.namespace p.name z) h)

  -- interfaces of one track share a name
  on_track : (r : ResolveView) (e : KeyView × ItemView) (f : FoundInterface)
      → IsTrackEntry r (p.namespace, p.name, n, track v) e f ↔ IsEntryOf (IsOnTrack r p n) e f
  on_track r (plain_key k, item) f = ((λ h. h), (λ h. h))
  on_track r (interface_key i, item) f = (
    (λ h. (on_track_at r i (qualified_name r i) refl h.0, h.1)),
    (λ h. (
      ap (λ o. option_and_then (λ (m : PackageNameView × List ℕ). track_name_in m.0 m.1) o) h.0.1 ∙ named_at h.0.0 h.0.0.version
          (subst (λ z. HaveSameTrack h.0.0.version z) has_version h.0.2.2) h.0.2.0 h.0.2.1,
      h.1,
    )),
  )

module _ (r : ResolveView) (es : Entries) (kept : List (TrackName × InterfaceId)) (tracks : KeepsFirst (IsTrackEntry r) is_track_name under_own_key es kept)
    (p : PackageNameView) (n : List ℕ) where
  track_at : (v : Option VersionView) → p.version ≡ v → (found : Option InterfaceId)
      → found ≡ option_and_then (λ t. lookup (is_track_name t) kept) (option_map {U = TrackNameView} (λ (v : VersionView). (p.namespace, p.name, n, track v)) v)
      → Finds (option_map under_own_key found) (FirstOf (IsEntryOf (IsOnTrack r p n)) es)
  track_at None is found at = subst (λ z. Finds (option_map under_own_key z) (FirstOf (IsEntryOf (IsOnTrack r p n)) es)) (sym at) (without_version r p n es is)
  track_at (Some v) is found at =
      subst (λ z. Finds (option_map under_own_key z) (FirstOf (IsEntryOf (IsOnTrack r p n)) es)) (sym at)
      (finds_as (IsTrackEntry r (p.namespace, p.name, n, track v)) (IsEntryOf (IsOnTrack r p n)) (on_track p n v is r) es
      (option_map under_own_key (lookup (is_track_name (p.namespace, p.name, n, track v)) kept)) (tracks (p.namespace, p.name, n, track v)))

  -- the first interface on the track of an id
  pub track_looked_up : (found : Option InterfaceId) → found ≡ option_and_then (λ t. lookup (is_track_name t) kept) (track_name_in p n)
      → Finds (option_map under_own_key found) (FirstOf (IsEntryOf (IsOnTrack r p n)) es)
  track_looked_up found at = track_at p.version refl found at

-- the interface of a text by plain keys and canonical ids
pub canonical_looked_up : (r : ResolveView) (es : Entries) (kept : List (String Global × (Bor WorldKey × InterfaceId))) (text : List ℕ)
    (o : Result (Option (WorldKey × InterfaceId)) AllocError) → KeepsFirst (IsCanonicalEntry r) is_text keyed_view es kept
    → IfOk o (λ found. option_map found_interface found ≡ option_map keyed_view (lookup (is_text text) kept))
    → IfOk o (λ found. Finds (option_map found_interface found) (FirstOf (IsCanonicalEntry r text) es))
canonical_looked_up r es kept text (Err e) all same = tt
canonical_looked_up r es kept text (Ok found) all same =
    subst (λ (z : Option FoundInterface). Finds z (FirstOf (IsCanonicalEntry r text) es)) (sym same) (all text)

-- what an index answers is what the scheme's names mean: for callers that have the index of a scheme
pub interface_named : (s : Scheme) (r : ResolveView) (es : Entries) (names : InterfaceNamesView) (text : List ℕ)
    (o : Result (Option (WorldKey × InterfaceId)) AllocError) → names ≡ interface_names_view (interface_texts s) r es
    → IfOk o (λ found. Finds (option_map found_interface found) (IsAbout names.texts names.resolve names.entries text))
    → IfOk o (λ found. Finds (option_map found_interface found) (NamesInterface s r es text))
interface_named s r es names text o is found =
    subst (λ (z : InterfaceNamesView). IfOk o (λ found. Finds (option_map found_interface found) (IsAbout z.texts z.resolve z.entries text))) is found
