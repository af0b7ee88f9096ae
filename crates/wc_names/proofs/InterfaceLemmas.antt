-- Ids of interfaces; how the legacy scheme finds the interface of a text, one way after another; and that interfaces that
-- are found are among the entries, under their keys.
use Rattle.std.proofs.Common.{◌≡◌, ℕ, List, ◌∷◌, ◌++◌, Option, Some, None, Ok, refl, sym, ap, ◌∙◌, ◌<◌, ◌^◌, subst, ◌↔◌, Bool, true, false, is_some, [], Result, Err, inl, inr, get_or, All, Contains}
use Rattle.std.specs.Option.{IfSome, option_map, option_and_then, IsSome}
use Rattle.semver.specs.Grammar.{IsValid}
use Rattle.semver.specs.Identifiers.{parts_text}
use Rattle.semver.specs.Parse.{version_parts}
use Rattle.semver.proofs.Grammar.{version_parts-complete}
use Rattle.wc_texts.specs.Characters.{slash, colon, at_sign}
use Rattle.wc_resolve.specs.Resolve.{VersionView, versioned}
use Rattle.wc_resolve.specs.Views.{PackageNameView, ItemView, KeyView, PackageView, interface_key, plain_key, function_item, interface_item, type_item}
use Rattle.wc_names.specs.Interfaces.{IsIdText, IsVersionText, FoundInterface, HaveSameTrack, IsEntryOf, IsMemberOf, IsOnTrack, IsCloneOf, IsIdMatch, IsTextMatch, by_plain_key, clone, exact_version, id_matches, same_track, text_matches, IsCanonicalEntry, NamesInterface, FindsOwnKey}
use Rattle.wc_names.specs.Texts.{Lacks, IsSplitAtFirst}
use Rattle.wc_names.proofs.TextLemmas.{split_unique, not_lacking}
use Rattle.std.specs.Prelude.{slice_get}
use Rattle.wc_resolve.specs.Dependencies.{id_of_interface}
use Rattle.wc_resolve.specs.declared.ids.InterfaceId.{InterfaceId}
use Rattle.wc_resolve.specs.WellFormed.{HaveDistinctNames, IsMatchingKey}
use Rattle.wc_resolve.specs.Kinds.{ResolveView}
use Rattle.wc_names.specs.Finds.{Finds}
use Rattle.wc_names.specs.First.{FirstOf}
use Rattle.wc_names.specs.Keys.{as_interface, item_under, key_eq}
use Rattle.wc_texts.specs.Names.{under_name}
use Rattle.wc_adapters.specs.Entries.{Entries}
use Rattle.wc_resolve.proofs.KeyLemmas.{nat_from}
use Rattle.wc_names.proofs.SearchLemmas.{first_kind}
use Rattle.wc_names.proofs.KeyLemmas.{package_unique, lookup_passes}
use Rattle.std.specs.declared.alloc.AllocError.{AllocError}
use Rattle.std.proofs.lemmas.Slice.Eq.{bytes_eq-Decides}
use Rattle.std.proofs.lemmas.List.Elements.{All-head, All-tail}
use Rattle.std.proofs.lemmas.List.{get_or_default}
use Rattle.wc_names.specs.Laws.{IsInterfaceEntry}
use Rattle.wc_names.specs.Mangling.{Scheme, legacy, standard}

-- the text of a version is of one version
version_unique : (v w : VersionView) → IsValid v → IsValid w → parts_text v ≡ parts_text w → v ≡ w
version_unique v w valid valid_too e =
    let same : Ok v ≡ Ok w = sym (version_parts-complete v valid) ∙ (ap version_parts e ∙ version_parts-complete w valid_too) in
    cc same

pub versioned_unique : (n m : List ℕ) (v w : Option VersionView) → Lacks at_sign n → Lacks at_sign m → IfSome v IsValid → IfSome w IsValid
    → versioned parts_text n v ≡ versioned parts_text m w → (v ≡ w) × (n ≡ m)
versioned_unique n m None None ln lm valid valid_too e = (refl, e)
versioned_unique n m None (Some w) ln lm valid valid_too e = absurd (not_lacking at_sign n m (parts_text w) ln e)
versioned_unique n m (Some v) None ln lm valid valid_too e = absurd (not_lacking at_sign m n (parts_text v) lm (sym e))
versioned_unique n m (Some v) (Some w) ln lm valid valid_too e =
    let both : (n ≡ m) × (parts_text v ≡ parts_text w) = split_unique at_sign n m (parts_text v) (parts_text w) ln lm e in
    (ap (λ (z : VersionView). Some z) (version_unique v w valid valid_too both.1), both.0)

-- the parts of an id, by a text that is split in the same way
pub id_parts : (text first after middle more : List ℕ) (p : PackageNameView) (n : List ℕ) → IsIdText text p n → IsSplitAtFirst colon text first after
    → IsSplitAtFirst slash after middle more
    → (p.namespace ≡ first) × (p.name ≡ middle) × (versioned parts_text n p.version ≡ more)
id_parts text first after middle more p n is one two =
    let namespaces : (p.namespace ≡ first) × ((p.name ++ (slash ∷ versioned parts_text n p.version)) ≡ after) =
    split_unique colon p.namespace first (p.name ++ (slash ∷ versioned parts_text n p.version)) after is.namespace_ends one.1 (sym is.is_text ∙ one.0) in
    let packages : (p.name ≡ middle) × (versioned parts_text n p.version ≡ more) =
    split_unique slash p.name middle (versioned parts_text n p.version) more is.package_ends two.1 (namespaces.1 ∙ two.0) in
    (namespaces.0, packages.0, packages.1)

-- a text without a colon or a slash is no id
pub no_colon : (text : List ℕ) (p : PackageNameView) (n : List ℕ) → Lacks colon text → ¬ IsIdText text p n
no_colon text p n lacks is = not_lacking colon text p.namespace (p.name ++ (slash ∷ versioned parts_text n p.version)) lacks is.is_text

pub no_slash : (text first after : List ℕ) (p : PackageNameView) (n : List ℕ) → IsSplitAtFirst colon text first after → Lacks slash after → ¬ IsIdText text p n
no_slash text first after p n one lacks is =
    let namespaces : (p.namespace ≡ first) × ((p.name ++ (slash ∷ versioned parts_text n p.version)) ≡ after) =
    split_unique colon p.namespace first (p.name ++ (slash ∷ versioned parts_text n p.version)) after is.namespace_ends one.1 (sym is.is_text ∙ one.0) in
    not_lacking slash after p.name (versioned parts_text n p.version) lacks (sym namespaces.1)

pub no_version : (text first after middle more name rest : List ℕ) (p : PackageNameView) (n : List ℕ) → IsSplitAtFirst colon text first after
    → IsSplitAtFirst slash after middle more → IsSplitAtFirst at_sign more name rest
    → ((v : VersionView) → ¬ IsVersionText rest v) → ¬ IsIdText text p n
no_version text first after middle more name rest p n one two three none is =
    at p.version is.valid (id_parts text first after middle more p n is one two).2 where
      at : (v : Option VersionView) → IfSome v IsValid → versioned parts_text n v ≡ more → ⊥
      at None valid e = not_lacking at_sign n name rest is.name_ends (e ∙ three.0)
      at (Some v) valid e =
          let both : (n ≡ name) × (parts_text v ≡ rest) = split_unique at_sign n name (parts_text v) rest is.name_ends three.1 (e ∙ three.0) in
          none v (sym both.1, valid)

package_name : List ℕ → List ℕ → Option VersionView → PackageNameView
package_name a b v = record { namespace = a; name = b; version = v }

same_parts : (p q : PackageNameView) → p.namespace ≡ q.namespace → p.name ≡ q.name → p.version ≡ q.version → p ≡ q
unfolding package_name
same_parts p q a b c =
    ap (λ z. package_name z p.name p.version) a ∙ (ap (λ z. package_name q.namespace z p.version) b ∙ ap (λ z. package_name q.namespace q.name z) c)

-- an id is of one interface of one package
pub id_unique : (text : List ℕ) (p q : PackageNameView) (n m : List ℕ) → IsIdText text p n → IsIdText text q m → (p ≡ q) × (n ≡ m)
id_unique text p q n m is also =
    let cut : (p.namespace ≡ q.namespace) × (p.name ≡ q.name) × (versioned parts_text n p.version ≡ versioned parts_text m q.version) =
    id_parts text q.namespace (q.name ++ (slash ∷ versioned parts_text m q.version)) q.name (versioned parts_text m q.version) p n is
    (also.is_text, also.namespace_ends) (refl, also.package_ends) in
    let both : (p.version ≡ q.version) × (n ≡ m) = versioned_unique n m p.version q.version is.name_ends also.name_ends is.valid also.valid cut.2 in
    (same_parts p q cut.0 cut.1 both.0, both.1)

-- the package that was found by its name, and its interface
pub member_found : (r : ResolveView) (p : PackageNameView) (n : List ℕ) (index : ℕ) (v : PackageView) (found : Option InterfaceId)
    → HaveDistinctNames r.packages → index < 2 ^ 32 → slice_get r.packages index ≡ Some v → v.name ≡ p
    → option_map id_of_interface found ≡ under_name v.interfaces n → Finds (option_map id_of_interface found) (IsMemberOf r p n)
member_found r p n index v None distinct small at named e = λ i h.
    let same : h.in_package ≡ v = package_unique r.packages h.index index h.in_package v distinct h.is_package at (h.is_package_name ∙ sym named) in
    let bad : None ≡ Some i = e ∙ subst (λ (z : PackageView). under_name z.interfaces n ≡ Some i) same h.is_member in
    let f : ⊥ = cc bad in f
member_found r p n index v (Some id) distinct small at named e =
    record { index = index; in_package = v; index_fits = small; is_package = at; is_package_name = named; is_member = sym e }

pub member_unique : (r : ResolveView) (p : PackageNameView) (n : List ℕ) (i j : ℕ) → HaveDistinctNames r.packages → IsMemberOf r p n i → IsMemberOf r p n j
    → i ≡ j
member_unique r p n i j distinct a b =
    let same : a.in_package ≡ b.in_package =
    package_unique r.packages a.index b.index a.in_package b.in_package distinct a.is_package b.is_package (a.is_package_name ∙ sym b.is_package_name) in
    let both : Some i ≡ Some j = sym a.is_member ∙ (ap (λ (z : PackageView). under_name z.interfaces n) same ∙ b.is_member) in cc both

no_track : (v w : Option VersionView) → w ≡ None → ¬ HaveSameTrack v w
no_track None w is h = h
no_track (Some v) None is h = h
no_track (Some v) (Some w) is h = let bad : ⊥ = cc is in bad

-- nothing is on the track of no version
pub without_version : (r : ResolveView) (p : PackageNameView) (n : List ℕ) (es : Entries) → p.version ≡ None → (f : FoundInterface)
    → ¬ FirstOf (IsEntryOf (IsOnTrack r p n)) es f
without_version r p n es none f first = let found = first_kind (IsEntryOf (IsOnTrack r p n)) es f first in at found.0 found.1 where
  at : (e : KeyView × ItemView) → IsEntryOf (IsOnTrack r p n) e f → ⊥
  at (plain_key k, item) h = h
  at (interface_key i, item) h = no_track h.0.0.version p.version none h.0.2.2

no_exact : (r : ResolveView) (es : Entries) (p : PackageNameView) (n : List ℕ) (i : ℕ) (b : Bool) → HaveDistinctNames r.packages → IsMemberOf r p n i
    → (b ≡ true) ↔ (is_some (item_under es (interface_key i)) ≡ true) → b ≡ false
    → (f : FoundInterface) → ¬ IsIdMatch r es p n exact_version f
no_exact r es p n i b distinct member is no_key f h =
    let here : is_some (item_under es (interface_key i)) ≡ true =
    subst (λ z. is_some (item_under es (interface_key z)) ≡ true) (member_unique r p n h.0 i distinct h.1 member) h.2 in
    let t : true ≡ false = sym (is.1 here) ∙ no_key in
    let bad : ⊥ = cc t in bad

pub clone_found : (r : ResolveView) (es : Entries) (p : PackageNameView) (n : List ℕ) (i : ℕ) (b : Bool) (f : FoundInterface) → HaveDistinctNames r.packages
    → IsMemberOf r p n i → (b ≡ true) ↔ (is_some (item_under es (interface_key i)) ≡ true) → b ≡ false
    → FirstOf (IsEntryOf (IsCloneOf r i)) es f → FirstOf (IsIdMatch r es p n) id_matches f
clone_found r es p n i b f distinct member is no_key first = inr (no_exact r es p n i b distinct member is no_key, inl (i, member, first))

after_both : (r : ResolveView) (es : Entries) (p : PackageNameView) (n : List ℕ) (o : Result (Option InterfaceId) AllocError)
    → ((f : FoundInterface) → ¬ IsIdMatch r es p n exact_version f) → ((f : FoundInterface) → ¬ IsIdMatch r es p n clone f)
    → FindsOwnKey o (FirstOf (IsEntryOf (IsOnTrack r p n)) es) → FindsOwnKey o (FirstOf (IsIdMatch r es p n) id_matches)
after_both r es p n (Err e) a b f = tt
after_both r es p n (Ok (Some id)) a b f = inr (a, inr (b, inl f))
after_both r es p n (Ok None) a b f = none where
  third : (g : FoundInterface) → FirstOf (IsIdMatch r es p n) (same_track ∷ []) g → ⊥
  third g (inl h) = f g h
  third g (inr h) = h.1

  second : (g : FoundInterface) → FirstOf (IsIdMatch r es p n) (clone ∷ same_track ∷ []) g → ⊥
  second g (inl h) = b g h
  second g (inr h) = third g h.1

  none : (g : FoundInterface) → FirstOf (IsIdMatch r es p n) id_matches g → ⊥
  none g (inl h) = a g h
  none g (inr h) = second g h.1

pub track_found : (r : ResolveView) (es : Entries) (p : PackageNameView) (n : List ℕ) (i : ℕ) (b : Bool) (o : Result (Option InterfaceId) AllocError)
    → HaveDistinctNames r.packages → IsMemberOf r p n i → (b ≡ true) ↔ (is_some (item_under es (interface_key i)) ≡ true) → b ≡ false
    → ((f : FoundInterface) → ¬ FirstOf (IsEntryOf (IsCloneOf r i)) es f)
    → FindsOwnKey o (FirstOf (IsEntryOf (IsOnTrack r p n)) es) → FindsOwnKey o (FirstOf (IsIdMatch r es p n) id_matches)
track_found r es p n i b o distinct member is no_key none f =
    after_both r es p n o (no_exact r es p n i b distinct member is no_key)
    (λ g h. none g (subst (λ z. FirstOf (IsEntryOf (IsCloneOf r z)) es g) (member_unique r p n h.0 i distinct h.1 member) h.2)) f

pub track_found_alone : (r : ResolveView) (es : Entries) (p : PackageNameView) (n : List ℕ) (o : Result (Option InterfaceId) AllocError)
    → ((i : ℕ) → ¬ IsMemberOf r p n i)
    → FindsOwnKey o (FirstOf (IsEntryOf (IsOnTrack r p n)) es) → FindsOwnKey o (FirstOf (IsIdMatch r es p n) id_matches)
track_found_alone r es p n o none f = after_both r es p n o (λ g h. none h.0 h.1) (λ g h. none h.0 h.1) f

no_plain : (r : ResolveView) (es : Entries) (text : List ℕ) → None ≡ option_and_then as_interface (item_under es (plain_key text)) → (f : FoundInterface)
    → ¬ IsTextMatch r es text by_plain_key f
no_plain r es text none f h = let e : None ≡ Some h.0 = none ∙ h.1 in let bad : ⊥ = cc e in bad

pub id_not_found : (r : ResolveView) (es : Entries) (text : List ℕ) (p : PackageNameView) (n : List ℕ)
    → None ≡ option_and_then as_interface (item_under es (plain_key text)) → IsIdText text p n
    → ((f : FoundInterface) → ¬ FirstOf (IsIdMatch r es p n) id_matches f) → (f : FoundInterface) → ¬ FirstOf (IsTextMatch r es text) text_matches f
id_not_found r es text p n none t no_match f (inl h) = no_plain r es text none f h
id_not_found r es text p n none t no_match f (inr (h, inl g)) =
    let same = id_unique text g.0 p g.1 n g.2 t in
    no_match f (subst (λ z. FirstOf (IsIdMatch r es z n) id_matches f) same.0 (subst (λ z. FirstOf (IsIdMatch r es g.0 z) id_matches f) same.1 g.3))
id_not_found r es text p n none t no_match f (inr (h, inr g)) = g.1

-- keys that are equal by the test are equal
pub same_key : (a b : KeyView) → key_eq a b ≡ true → a ≡ b
same_key (plain_key n) (plain_key m) h = ap plain_key ((bytes_eq-Decides n m).0 h)
same_key (plain_key n) (interface_key j) h = absurd (let bad : ⊥ = cc h in bad)
same_key (interface_key i) (plain_key m) h = absurd (let bad : ⊥ = cc h in bad)
same_key (interface_key i) (interface_key j) h = ap interface_key (nat_from i j h)

module _ (r : ResolveView) (entries : Entries) (matching : All (λ (x : KeyView × ItemView). IsMatchingKey r x.0 x.1) entries) where
  -- this is an entry, and its item is of its key
  abbrev IsThere : KeyView × ItemView → Type 0
  IsThere x = IsMatchingKey r x.0 x.1 × Contains entries x

  all_there : All IsThere entries
  all_there = λ k d lt. (matching k d lt, (k, lt, get_or_default entries k (get_or entries k d) d lt))

  item_is : (i : ℕ) (item : ItemView) → IsMatchingKey r (interface_key i) item → (external : Option (List ℕ)) × (item ≡ interface_item i external)
  item_is i (interface_item k external) h = (external, ap (λ (z : ℕ). interface_item z external) h)
  item_is i (function_item f) h = absurd h
  item_is i (type_item t) h = absurd h

  under_own : (i : ℕ) (item : ItemView) → IsThere (interface_key i, item) → IsInterfaceEntry entries (interface_key i) i
  under_own i item here = let is = item_is i item here.0 in (is.0, subst (λ (z : ItemView). Contains entries (interface_key i, z)) is.1 here.1)

  first_listed : (H : KeyView × ItemView → FoundInterface → Type 0)
      → ((e : KeyView × ItemView) (f : FoundInterface) → IsThere e → H e f → IsInterfaceEntry entries f.0 f.1)
      → (es : Entries) → All IsThere es → (f : FoundInterface) → FirstOf H es f → IsInterfaceEntry entries f.0 f.1
  first_listed H each [] all f first = absurd first
  first_listed H each (e ∷ es) all f (inl h) = each e f (All-head IsThere e es all) h
  first_listed H each (e ∷ es) all f (inr h) = first_listed H each es (All-tail IsThere e es all) f h.1

  of_entry : (P : ℕ → Type 0) (e : KeyView × ItemView) (f : FoundInterface) → IsThere e → IsEntryOf P e f → IsInterfaceEntry entries f.0 f.1
  of_entry P (plain_key n, item) f here h = absurd h
  of_entry P (interface_key i, item) f here h = subst (λ (z : FoundInterface). IsInterfaceEntry entries z.0 z.1) (sym h.1) (under_own i item here)

  of_canonical : (text : List ℕ) (e : KeyView × ItemView) (f : FoundInterface) → IsThere e → IsCanonicalEntry r text e f → IsInterfaceEntry entries f.0 f.1
  of_canonical text (plain_key n, interface_item i external) f here h =
      subst (λ (z : FoundInterface). IsInterfaceEntry entries z.0 z.1) (sym h.1) (external, here.1)
  of_canonical text (plain_key n, function_item d) f here h = absurd h
  of_canonical text (plain_key n, type_item t) f here h = absurd h
  of_canonical text (interface_key i, item) f here h = subst (λ (z : FoundInterface). IsInterfaceEntry entries z.0 z.1) (sym h.1) (under_own i item here)

  -- what is found under a key is an entry
  found_there : (key : KeyView) (item : ItemView) → item_under entries key ≡ Some item → IsThere (key, item)
  found_there key item is =
      let found = lookup_passes IsThere (key_eq key) entries item all_there is in
      subst (λ (z : KeyView). IsThere (z, item)) (sym (same_key key found.0 found.2)) found.1

  of_some : (i : ℕ) (o : Option ItemView) → item_under entries (interface_key i) ≡ o → IsSome o → IsInterfaceEntry entries (interface_key i) i
  of_some i None is some = absurd (let bad : ⊥ = cc some in bad)
  of_some i (Some item) is some = under_own i item (found_there (interface_key i) item is)

  of_plain : (text : List ℕ) (i : ℕ) (o : Option ItemView) → item_under entries (plain_key text) ≡ o → option_and_then as_interface o ≡ Some i
      → IsInterfaceEntry entries (plain_key text) i
  of_plain text i None is found = absurd (let bad : ⊥ = cc found in bad)
  of_plain text i (Some (interface_item k external)) is found =
      let same : k ≡ i = cc found in (
        external,
        subst (λ (z : ℕ). Contains entries (plain_key text, interface_item z external)) same
            (found_there (plain_key text) (interface_item k external) is).1,
      )
  of_plain text i (Some (function_item f)) is found = absurd (let bad : ⊥ = cc found in bad)
  of_plain text i (Some (type_item t)) is found = absurd (let bad : ⊥ = cc found in bad)

  of_id : (p : PackageNameView) (name : List ℕ) (f : FoundInterface) → FirstOf (IsIdMatch r entries p name) id_matches f → IsInterfaceEntry entries f.0 f.1
  of_id p name f (inl h) =
      subst (λ (z : FoundInterface). IsInterfaceEntry entries z.0 z.1) (sym h.3) (of_some h.0 (item_under entries (interface_key h.0)) refl h.2)
  of_id p name f (inr (no_exact, inl h)) = first_listed _ (of_entry _) entries all_there f h.2
  of_id p name f (inr (no_exact, inr (no_clone, inl h))) = first_listed _ (of_entry _) entries all_there f h
  of_id p name f (inr (no_exact, inr (no_clone, inr h))) = absurd h.1

  -- the interface of a text
  pub interface_listed : (s : Scheme) (text : List ℕ) (f : FoundInterface) → NamesInterface s r entries text f → IsInterfaceEntry entries f.0 f.1
  interface_listed standard text f h = first_listed (IsCanonicalEntry r text) (of_canonical text) entries all_there f h
  interface_listed (legacy hook) text f (inl h) =
      subst (λ (z : FoundInterface). IsInterfaceEntry entries z.0 z.1) (sym h.2) (of_plain text h.0 (item_under entries (plain_key text)) refl h.1)
  interface_listed (legacy hook) text f (inr (no_plain, inl h)) = of_id h.0 h.1 f h.3
  interface_listed (legacy hook) text f (inr (no_plain, inr h)) = absurd h.1
