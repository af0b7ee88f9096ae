-- What contracts see of types, functions, interfaces, worlds and packages: texts as their bytes, lists and maps as
-- lists in order.
use Rattle.std.specs.Prelude.{ℕ, List, map, Option, String, string_bytes}
use Rattle.std.specs.Option.{option_map}
use Rattle.std.specs.Rc.{rc_slice_items}
use Rattle.std.specs.declared.alloc.Global.{Global}
use Rattle.wc_texts.specs.Names.{named_view}
use Rattle.semver.specs.Identifiers.{parts_of}
use Rattle.wc_resolve.specs.declared.ids.InterfaceId.{InterfaceId}
use Rattle.wc_resolve.specs.declared.ids.PackageId.{PackageId}
use Rattle.wc_resolve.specs.declared.ids.TypeId.{TypeId}
use Rattle.wc_resolve.specs.declared.types.WitType.{WitType}
use Rattle.wc_resolve.specs.declared.types.Handle.{Handle as HandleOf}
use Rattle.wc_resolve.specs.declared.types.TypeOwner.{TypeOwner}
use Rattle.wc_resolve.specs.declared.types.TypeDefKind.{TypeDefKind}
use Rattle.wc_resolve.specs.declared.types.TypeDefKind.TheVariants.{Record, Resource, Handle, Flags, Tuple, Variant, Enum, Option as OptionKind, Result as ResultKind, List as ListKind, Future, Stream, Alias}
use Rattle.wc_resolve.specs.declared.types.TypeDef.{TypeDef}
use Rattle.wc_resolve.specs.declared.functions.FunctionKind.{FunctionKind}
use Rattle.wc_resolve.specs.declared.functions.Function.{Function}
use Rattle.wc_resolve.specs.declared.worlds.WorldKey.{WorldKey}
use Rattle.wc_resolve.specs.declared.worlds.WorldKey.TheVariants.{Name, Interface as InterfaceKey}
use Rattle.wc_resolve.specs.declared.worlds.WorldItem.{WorldItem}
use Rattle.wc_resolve.specs.declared.worlds.WorldItem.TheVariants.{Interface as InterfaceItem, Function as FunctionItem, TypeItem}
use Rattle.wc_resolve.specs.declared.worlds.World.{World}
use Rattle.wc_resolve.specs.declared.worlds.Interface.{Interface}
use Rattle.wc_resolve.specs.declared.packages.PackageName.{PackageName}
use Rattle.wc_resolve.specs.declared.packages.Package.{Package}

pub data KindView : Type 0 where
  record_kind : List (List ℕ × WitType) → KindView
  resource_kind : KindView
  handle_kind : HandleOf → KindView
  flags_kind : List (List ℕ) → KindView
  tuple_kind : List WitType → KindView
  variant_kind : List (List ℕ × Option WitType) → KindView
  enum_kind : List (List ℕ) → KindView
  option_kind : WitType → KindView
  result_kind : Option WitType → Option WitType → KindView
  list_kind : WitType → KindView
  future_kind : Option WitType → KindView
  stream_kind : Option WitType → KindView
  alias_kind : WitType → KindView

abbrev pub kind_view : TypeDefKind → KindView
kind_view (Record fields) = record_kind (map named_view fields.items)
kind_view Resource = resource_kind
kind_view (Handle h) = handle_kind h
kind_view (Flags labels) = flags_kind (map string_bytes labels.items)
kind_view (Tuple types) = tuple_kind types.items
kind_view (Variant cases) = variant_kind (map named_view cases.items)
kind_view (Enum cases) = enum_kind (map string_bytes cases.items)
kind_view (OptionKind t) = option_kind t
kind_view (ResultKind ok err) = result_kind ok err
kind_view (ListKind t) = list_kind t
kind_view (Future t) = future_kind t
kind_view (Stream t) = stream_kind t
kind_view (Alias t) = alias_kind t

pub record TypeView : Type 0 where
  pub name : Option (List ℕ)
  pub kind : KindView
  pub owner : TypeOwner

abbrev pub type_view : TypeDef → TypeView
type_view t = record { name = option_map string_bytes t.name; kind = kind_view t.kind; owner = t.owner }

pub record FunctionView : Type 0 where
  pub name : List ℕ
  pub kind : FunctionKind
  pub params : List (List ℕ × WitType)
  pub outcome : Option WitType

abbrev pub function_view : Function → FunctionView
function_view f = record { name = string_bytes f.name; kind = f.kind; params = map named_view (rc_slice_items f.params); outcome = f.result }

pub data KeyView : Type 0 where
  plain_key : List ℕ → KeyView
  interface_key : ℕ → KeyView

abbrev pub key_view : WorldKey → KeyView
key_view (Name n) = plain_key (string_bytes n)
key_view (InterfaceKey id) = interface_key id.0

pub data ItemView : Type 0 where
  interface_item : ℕ → Option (List ℕ) → ItemView
  function_item : FunctionView → ItemView
  type_item : ℕ → ItemView

abbrev pub item_view : WorldItem → ItemView
item_view (InterfaceItem id external) = interface_item id.0 (option_map string_bytes external)
item_view (FunctionItem f) = function_item (function_view f)
item_view (TypeItem id) = type_item id.0

abbrev pub world_entry : WorldKey × WorldItem → KeyView × ItemView
world_entry e = (key_view e.0, item_view e.1)

pub record WorldView : Type 0 where
  pub name : List ℕ
  pub imports : List (KeyView × ItemView)
  pub exports : List (KeyView × ItemView)

abbrev pub world_view : World → WorldView
world_view w = record { name = string_bytes w.name; imports = map world_entry w.imports.entries; exports = map world_entry w.exports.entries }

-- a name with the index of the type that is listed under it
abbrev pub type_entry : String Global × TypeId → List ℕ × ℕ
type_entry e = (string_bytes e.0, e.1.0)

abbrev pub function_entry : String Global × Function → List ℕ × FunctionView
function_entry e = (string_bytes e.0, function_view e.1)

pub record InterfaceView : Type 0 where
  pub name : Option (List ℕ)
  pub types : List (List ℕ × ℕ)
  pub functions : List (List ℕ × FunctionView)
  pub in_package : Option ℕ
  pub clone_of : Option ℕ

abbrev pub interface_view : Interface → InterfaceView
interface_view i = record {
  name = option_map string_bytes i.name;
  types = map type_entry i.types.entries;
  functions = map function_entry i.functions.entries;
  in_package = option_map (λ (p : PackageId). p.0) i.package;
  clone_of = option_map (λ (c : InterfaceId). c.0) i.clone_of;
}

-- a package's name: namespace, name, and the version's numbers, prerelease and build, where it has a version
pub record PackageNameView : Type 0 where
  pub namespace : List ℕ
  pub name : List ℕ
  pub version : Option (ℕ × ℕ × ℕ × List ℕ × List ℕ)

abbrev pub package_name_view : PackageName → PackageNameView
package_name_view p = record { namespace = string_bytes p.namespace; name = string_bytes p.name; version = option_map parts_of p.version }

-- a name with the index of the interface that is listed under it
abbrev pub interface_entry : String Global × InterfaceId → List ℕ × ℕ
interface_entry e = (string_bytes e.0, e.1.0)

pub record PackageView : Type 0 where
  pub name : PackageNameView
  pub interfaces : List (List ℕ × ℕ)

abbrev pub package_view : Package → PackageView
package_view p = record { name = package_name_view p.name; interfaces = map interface_entry p.interfaces.entries }
