-- What fits the form: ids below 2^32, no two equal keys in a map, no plain key that is spelled as the id of its own
-- interface, names of packages that are cut where they were put together.
use Rattle.std.specs.Prelude.{◌≡◌, ◌≢◌, ℕ, ◌<◌, ◌^◌, List, map, length, Option, All, AllPairs, IfSome, ⊤}
use Rattle.std.specs.List.{zip}
use Rattle.semver.specs.Grammar.{IsValid}
use Rattle.wc_resolve.specs.Views.{FunctionView, InterfaceView, TypeView, KindView, record_kind, resource_kind, handle_kind, flags_kind, tuple_kind, variant_kind, enum_kind, option_kind, result_kind, list_kind, future_kind, stream_kind, alias_kind, KeyView, plain_key, interface_key, ItemView, interface_item, function_item, type_item, WorldView, PackageNameView, PackageView}
use Rattle.wc_resolve.specs.declared.functions.FunctionKind.{FunctionKind}
use Rattle.wc_resolve.specs.declared.functions.FunctionKind.TheVariants.{Freestanding, AsyncFreestanding, Method, AsyncMethod, Static, AsyncStatic, Constructor}
use Rattle.wc_resolve.specs.declared.types.Handle.{Handle}
use Rattle.wc_resolve.specs.declared.types.Handle.TheVariants.{Own, Borrow}
use Rattle.wc_resolve.specs.declared.types.TypeOwner.{TypeOwner}
use Rattle.wc_resolve.specs.declared.types.TypeOwner.TheVariants.{World, Interface, None as no_owner}
use Rattle.wc_resolve.specs.declared.types.WitType.{WitType}
use Rattle.wc_resolve.specs.declared.types.WitType.TheVariants.{Id}
use Rattle.wc_json.specs.Document.{DocumentView}
use Rattle.wc_json.specs.ToJson.{key_text}

abbrev pub TypeFits : WitType → Type 0
TypeFits (Id t) = t.0 < 2 ^ 32
TypeFits t = ⊤

abbrev pub NamedTypeFits : List ℕ × WitType → Type 0
NamedTypeFits p = TypeFits p.1

abbrev pub CaseFits : List ℕ × Option WitType → Type 0
CaseFits p = IfSome p.1 TypeFits

abbrev pub FunctionKindFits : FunctionKind → Type 0
FunctionKindFits Freestanding = ⊤
FunctionKindFits AsyncFreestanding = ⊤
FunctionKindFits (Method t) = t.0 < 2 ^ 32
FunctionKindFits (AsyncMethod t) = t.0 < 2 ^ 32
FunctionKindFits (Static t) = t.0 < 2 ^ 32
FunctionKindFits (AsyncStatic t) = t.0 < 2 ^ 32
FunctionKindFits (Constructor t) = t.0 < 2 ^ 32

pub record FunctionFits (f : FunctionView) : Type 0 where
  pub kind : FunctionKindFits f.kind
  pub params : All NamedTypeFits f.params
  pub outcome : IfSome f.outcome TypeFits

abbrev pub HandleFits : Handle → Type 0
HandleFits (Own t) = t.0 < 2 ^ 32
HandleFits (Borrow t) = t.0 < 2 ^ 32

abbrev pub KindFits : KindView → Type 0
KindFits (record_kind fields) = All NamedTypeFits fields
KindFits resource_kind = ⊤
KindFits (handle_kind h) = HandleFits h
KindFits (flags_kind labels) = ⊤
KindFits (tuple_kind types) = All TypeFits types
KindFits (variant_kind cases) = All CaseFits cases
KindFits (enum_kind cases) = ⊤
KindFits (option_kind t) = TypeFits t
KindFits (result_kind ok err) = IfSome ok TypeFits × IfSome err TypeFits
KindFits (list_kind t) = TypeFits t
KindFits (future_kind t) = IfSome t TypeFits
KindFits (stream_kind t) = IfSome t TypeFits
KindFits (alias_kind t) = TypeFits t

abbrev pub OwnerFits : TypeOwner → Type 0
OwnerFits (World w) = w.0 < 2 ^ 32
OwnerFits (Interface i) = i.0 < 2 ^ 32
OwnerFits no_owner = ⊤

pub record DefinedTypeFits (t : TypeView) : Type 0 where
  pub kind : KindFits t.kind
  pub owner : OwnerFits t.owner

-- no two entries have one key
abbrev pub HasDistinctKeys : {L A : Type 0} → List (L × A) → Type 0
HasDistinctKeys es = AllPairs (λ a b. a ≢ b) (map (λ e. e.0) es)

abbrev pub IdEntryFits : List ℕ × ℕ → Type 0
IdEntryFits e = e.1 < 2 ^ 32

abbrev pub FunctionEntryFits : List ℕ × FunctionView → Type 0
FunctionEntryFits e = FunctionFits e.1

pub record InterfaceFits (i : InterfaceView) : Type 0 where
  pub types : All IdEntryFits i.types
  pub type_names : HasDistinctKeys i.types
  pub functions : All FunctionEntryFits i.functions
  pub function_names : HasDistinctKeys i.functions
  pub in_package : IfSome i.in_package (λ n. n < 2 ^ 32)
  pub clone_of : IfSome i.clone_of (λ n. n < 2 ^ 32)

-- a plain key is not spelled as the id of its own interface, and the id that is a key is that of its own interface
abbrev pub PlainKeyFits : List ℕ → ItemView → Type 0
PlainKeyFits name (interface_item n external_id) = name ≢ key_text (interface_key n)
PlainKeyFits name (function_item f) = ⊤
PlainKeyFits name (type_item n) = ⊤

abbrev pub InterfaceKeyFits : ℕ → ItemView → Type 0
InterfaceKeyFits n (interface_item m external_id) = n ≡ m
InterfaceKeyFits n (function_item f) = ⊥
InterfaceKeyFits n (type_item m) = ⊥

abbrev pub KeyFits : KeyView → ItemView → Type 0
KeyFits (plain_key name) i = PlainKeyFits name i
KeyFits (interface_key n) i = InterfaceKeyFits n i

abbrev pub ItemFits : ItemView → Type 0
ItemFits (interface_item n external_id) = n < 2 ^ 32
ItemFits (function_item f) = FunctionFits f
ItemFits (type_item n) = n < 2 ^ 32

abbrev pub WorldEntryFits : KeyView × ItemView → Type 0
WorldEntryFits e = KeyFits e.0 e.1 × ItemFits e.1

-- no two keys are spelled alike
abbrev pub HasDistinctTexts : List (KeyView × ItemView) → Type 0
HasDistinctTexts es = AllPairs (λ a b. a ≢ b) (map (λ (e : KeyView × ItemView). key_text e.0) es)

pub record WorldFits (p : WorldView × Option ℕ) : Type 0 where
  pub imports : All WorldEntryFits p.0.imports
  pub import_keys : HasDistinctTexts p.0.imports
  pub exports : All WorldEntryFits p.0.exports
  pub export_keys : HasDistinctTexts p.0.exports
  pub in_package : IfSome p.1 (λ n. n < 2 ^ 32)

-- no colon in the namespace and no `@` in the name
pub record PackageNameFits (p : PackageNameView) : Type 0 where
  pub namespace : All (λ c. c ≢ 58) p.namespace
  pub name : All (λ c. c ≢ 64) p.name
  pub version : IfSome p.version IsValid

pub record PackageFits (p : PackageView × List (List ℕ × ℕ)) : Type 0 where
  pub name : PackageNameFits p.0.name
  pub interfaces : All IdEntryFits p.0.interfaces
  pub interface_names : HasDistinctKeys p.0.interfaces
  pub worlds : All IdEntryFits p.1
  pub world_names : HasDistinctKeys p.1

pub record DocumentFits (d : DocumentView) : Type 0 where
  pub worlds : All WorldFits (zip d.parts.worlds d.world_packages)
  pub world_packages : length d.world_packages ≡ length d.parts.worlds
  pub interfaces : All InterfaceFits d.parts.interfaces
  pub types : All DefinedTypeFits d.parts.types
  pub packages : All PackageFits (zip d.parts.packages d.package_worlds)
  pub package_worlds : length d.package_worlds ≡ length d.parts.packages
