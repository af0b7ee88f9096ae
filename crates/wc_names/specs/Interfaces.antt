-- Texts that are ids of interfaces, and which interface of a world's imports or exports a text is about.
use Rattle.std.specs.Prelude.{◌≡◌, ℕ, List, ◌<◌, ◌^◌, [], ◌∷◌, Option, Some, None, slice_get, IfOk, Result}
use Rattle.std.specs.Option.{IfSome, IsSome, option_and_then, option_map}
use Rattle.semver.specs.Grammar.{IsValid}
use Rattle.semver.specs.Identifiers.{parts_text}
use Rattle.wc_texts.specs.Characters.{slash, colon, at_sign}
use Rattle.wc_resolve.specs.Resolve.{VersionView, member_text, canonical_id, qualified_name}
use Rattle.wc_resolve.specs.Views.{PackageNameView, KeyView, key_view, plain_key, interface_key, ItemView, interface_item, InterfaceView, PackageView}
use Rattle.wc_names.specs.Texts.{Lacks}
use Rattle.wc_resolve.specs.declared.ids.InterfaceId.{InterfaceId}
use Rattle.wc_resolve.specs.declared.worlds.WorldKey.{WorldKey}
use Rattle.wc_resolve.specs.Names.{track}
use Rattle.wc_resolve.specs.Kinds.{ResolveView}
use Rattle.wc_adapters.specs.Entries.{Entries}
use Rattle.wc_names.specs.First.{FirstOf}
use Rattle.wc_names.specs.Keys.{as_interface, item_under}
use Rattle.wc_texts.specs.Names.{under_name}
use Rattle.wc_names.specs.Mangling.{Scheme, standard, legacy}
use Rattle.std.specs.declared.alloc.AllocError.{AllocError}
use Rattle.wc_names.specs.Finds.{Finds}

-- the text of a version (Semantic Versioning 2.0.0), whose numbers are below 2^64
abbrev pub IsVersionText : List ℕ → VersionView → Type 0
IsVersionText text v = (text ≡ parts_text v) × IsValid v

-- the text is the id of an interface of this name, in a package of this name and version; no part has the character that
-- ends it
pub record IsIdText (text : List ℕ) (p : PackageNameView) (name : List ℕ) : Type 0 where
  pub is_text : text ≡ member_text parts_text p name
  pub valid : IfSome p.version IsValid
  pub namespace_ends : Lacks colon p.namespace
  pub package_ends : Lacks slash p.name
  pub name_ends : Lacks at_sign name

-- a key, and the interface under it
abbrev pub FoundInterface : Type 0
FoundInterface = KeyView × ℕ

abbrev pub found_interface : WorldKey × InterfaceId → FoundInterface
found_interface f = (key_view f.0, f.1.0)

-- an interface under its own key
abbrev pub under_own_key : InterfaceId → FoundInterface
under_own_key id = (interface_key id.0, id.0)

-- the answer of a search for an interface of an own key, if memory did not run out
abbrev pub FindsOwnKey : Result (Option InterfaceId) AllocError → (FoundInterface → Type 0) → Type 0
FindsOwnKey result Passes = IfOk result (λ (found : Option InterfaceId). Finds (option_map under_own_key found) Passes)

-- the package of this name and version, build included, has this interface under this name; packages with indices past
-- 32 bits have no ids
pub record IsMemberOf (r : ResolveView) (p : PackageNameView) (name : List ℕ) (i : ℕ) : Type 0 where
  pub index : ℕ
  pub in_package : PackageView
  pub index_fits : index < 2 ^ 32
  pub is_package : slice_get r.packages index ≡ Some in_package
  pub is_package_name : in_package.name ≡ p
  pub is_member : under_name in_package.interfaces name ≡ Some i

-- versions of one track, such as 1.2.3 and 1.4.0
abbrev pub HaveSameTrack : Option VersionView → Option VersionView → Type 0
HaveSameTrack (Some v) (Some w) = track v ≡ track w
HaveSameTrack v w = ⊥

-- names of packages that differ at most in their versions, which are of one track
abbrev pub AreOnSameTrack : PackageNameView → PackageNameView → Type 0
AreOnSameTrack p q = (p.namespace ≡ q.namespace) × (p.name ≡ q.name) × HaveSameTrack p.version q.version

-- the interface at an index has this name, and its package this name, or this name at another version of the track
abbrev pub IsOnTrack : ResolveView → PackageNameView → List ℕ → ℕ → Type 0
IsOnTrack r p name i = (q : PackageNameView) × (qualified_name r i ≡ Some (q, name)) × AreOnSameTrack q p

-- the text is the track of the version
abbrev pub IsTrackOf : Option VersionView → List ℕ → Type 0
IsTrackOf None text = ⊥
IsTrackOf (Some v) text = text ≡ track v

-- the interface at an index is a clone of the one at another
abbrev pub IsCloneOf : ResolveView → ℕ → ℕ → Type 0
IsCloneOf r source i = option_and_then (λ (v : InterfaceView). v.clone_of) (slice_get r.interfaces i) ≡ Some source

-- an entry whose key is an interface that P holds of
abbrev pub IsEntryOf : (ℕ → Type 0) → KeyView × ItemView → FoundInterface → Type 0
IsEntryOf P (plain_key n, item) found = ⊥
IsEntryOf P (interface_key i, item) found = P i × (found ≡ (interface_key i, i))

-- the first interface with a key that is on the track of an id
abbrev pub IsFirstOnTrack : ResolveView → Entries → PackageNameView → List ℕ → FoundInterface → Type 0
IsFirstOnTrack r entries p name found = FirstOf (IsEntryOf (IsOnTrack r p name)) entries found

-- how the legacy scheme finds the interface of an id: the one of exactly that version, a clone of that one, or one on
-- the version's track
pub data IdMatch : Type 0 where
  exact_version : IdMatch
  clone : IdMatch
  same_track : IdMatch

abbrev pub id_matches : List IdMatch
id_matches = exact_version ∷ clone ∷ same_track ∷ []

abbrev pub IsIdMatch : ResolveView → Entries → PackageNameView → List ℕ → IdMatch → FoundInterface → Type 0
IsIdMatch r entries p name exact_version found =
    (i : ℕ) × IsMemberOf r p name i × IsSome (item_under entries (interface_key i)) × (found ≡ (interface_key i, i))
IsIdMatch r entries p name clone found = (source : ℕ) × IsMemberOf r p name source × FirstOf (IsEntryOf (IsCloneOf r source)) entries found
IsIdMatch r entries p name same_track found = FirstOf (IsEntryOf (IsOnTrack r p name)) entries found

-- how the legacy scheme finds the interface of any text: the one under it as a plain key, else the one of an id
pub data TextMatch : Type 0 where
  by_plain_key : TextMatch
  by_id : TextMatch

abbrev pub text_matches : List TextMatch
text_matches = by_plain_key ∷ by_id ∷ []

abbrev pub IsTextMatch : ResolveView → Entries → List ℕ → TextMatch → FoundInterface → Type 0
IsTextMatch r entries text by_plain_key found =
    (i : ℕ) × (option_and_then as_interface (item_under entries (plain_key text)) ≡ Some i) × (found ≡ (plain_key text, i))
IsTextMatch r entries text by_id found =
    (p : PackageNameView) × (name : List ℕ) × IsIdText text p name × FirstOf (IsIdMatch r entries p name) id_matches found

-- the standard scheme: an entry with an interface whose plain key, or whose canonical id, is the text
abbrev pub IsCanonicalEntry : ResolveView → List ℕ → KeyView × ItemView → FoundInterface → Type 0
IsCanonicalEntry r text (plain_key n, interface_item i external) found = (n ≡ text) × (found ≡ (plain_key n, i))
IsCanonicalEntry r text (plain_key n, item) found = ⊥
IsCanonicalEntry r text (interface_key i, item) found = (canonical_id r i ≡ Some text) × (found ≡ (interface_key i, i))

-- how a scheme finds the interface of a text: by canonical ids, or by ids
pub data InterfaceTexts : Type 0 where
  canonical_ids : InterfaceTexts
  full_ids : InterfaceTexts

abbrev pub interface_texts : Scheme → InterfaceTexts
interface_texts standard = canonical_ids
interface_texts (legacy hook) = full_ids

-- the interface that a text is about, among the entries of a world
abbrev pub IsAbout : InterfaceTexts → ResolveView → Entries → List ℕ → FoundInterface → Type 0
IsAbout canonical_ids r entries text found = FirstOf (IsCanonicalEntry r text) entries found
IsAbout full_ids r entries text found = FirstOf (IsTextMatch r entries text) text_matches found

-- the interface that a text is about by a scheme
abbrev pub NamesInterface : Scheme → ResolveView → Entries → List ℕ → FoundInterface → Type 0
NamesInterface s r entries text found = IsAbout (interface_texts s) r entries text found
