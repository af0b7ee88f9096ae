-- The JSON value that each thing is written as, in the form in which wit-parser writes it.
use Rattle.std.specs.Prelude.{ℕ, List, [], ◌∷◌, ◌++◌, map, Option, Some, None, codes, decimal}
use Rattle.std.specs.List.{zip}
use Rattle.json.specs.Json.{Json, null, string, array, object, Items, Members, no_members, member}
use Rattle.semver.specs.Identifiers.{parts_text}
use Rattle.wc_resolve.specs.Views.{FunctionView, InterfaceView, TypeView, KindView, record_kind, resource_kind, handle_kind, flags_kind, tuple_kind, variant_kind, enum_kind, option_kind, result_kind, list_kind, future_kind, stream_kind, alias_kind, KeyView, plain_key, interface_key, ItemView, interface_item, function_item, type_item, WorldView, PackageNameView, PackageView}
use Rattle.wc_resolve.specs.declared.functions.FunctionKind.{FunctionKind}
use Rattle.wc_resolve.specs.declared.functions.FunctionKind.TheVariants.{Freestanding, AsyncFreestanding, Method, AsyncMethod, Static, AsyncStatic, Constructor}
use Rattle.wc_resolve.specs.declared.types.Handle.{Handle}
use Rattle.wc_resolve.specs.declared.types.Handle.TheVariants.{Own, Borrow}
use Rattle.wc_resolve.specs.declared.types.TypeOwner.{TypeOwner}
use Rattle.wc_resolve.specs.declared.types.TypeOwner.TheVariants.{World, Interface, None as no_owner}
use Rattle.wc_resolve.specs.declared.types.WitType.{WitType}
use Rattle.wc_resolve.specs.declared.types.WitType.TheVariants.{Bool, U8, U16, U32, U64, S8, S16, S32, S64, F32, F64, Char, String, ErrorContext, Id}
use Rattle.wc_json.specs.Document.{DocumentView}
use Rattle.wc_texts.specs.Shapes.{items_of, members_of, nullable_json, number_json}

-- shapes

abbrev pub items_json : {A : Type 0} → (A → Json) → List A → Items
items_json write xs = items_of (map write xs)

abbrev pub list_json : {A : Type 0} → (A → Json) → List A → Json
list_json write xs = array (items_json write xs)

abbrev pub members_json : {L A : Type 0} → (L → List ℕ) → (A → Json) → List (L × A) → Members
members_json text write es = members_of (map (λ e. (text e.0, write e.1)) es)

abbrev pub name_map_json : {A : Type 0} → (A → Json) → List (List ℕ × A) → Json
name_map_json write es = object (members_json (λ name. name) write es)

-- an object of one member
abbrev pub variant_json : List ℕ → Json → Json
variant_json name j = object (member name j no_members)

-- types and functions

abbrev pub wit_type_json : WitType → Json
wit_type_json Bool = string (codes "bool")
wit_type_json U8 = string (codes "u8")
wit_type_json U16 = string (codes "u16")
wit_type_json U32 = string (codes "u32")
wit_type_json U64 = string (codes "u64")
wit_type_json S8 = string (codes "s8")
wit_type_json S16 = string (codes "s16")
wit_type_json S32 = string (codes "s32")
wit_type_json S64 = string (codes "s64")
wit_type_json F32 = string (codes "f32")
wit_type_json F64 = string (codes "f64")
wit_type_json Char = string (codes "char")
wit_type_json String = string (codes "string")
wit_type_json ErrorContext = string (codes "error-context")
wit_type_json (Id t) = number_json t.0

abbrev pub named_type_json : List ℕ × WitType → Json
named_type_json p =
    object (member (codes "name") (string p.0)
    (member (codes "type") (wit_type_json p.1)
    no_members))

abbrev pub function_kind_json : FunctionKind → Json
function_kind_json Freestanding = string (codes "freestanding")
function_kind_json AsyncFreestanding = string (codes "async-freestanding")
function_kind_json (Method t) = variant_json (codes "method") (number_json t.0)
function_kind_json (AsyncMethod t) = variant_json (codes "async-method") (number_json t.0)
function_kind_json (Static t) = variant_json (codes "static") (number_json t.0)
function_kind_json (AsyncStatic t) = variant_json (codes "async-static") (number_json t.0)
function_kind_json (Constructor t) = variant_json (codes "constructor") (number_json t.0)

abbrev pub function_json : FunctionView → Json
function_json f =
    object (member (codes "name") (string f.name)
    (member (codes "kind") (function_kind_json f.kind)
    (member (codes "params") (list_json named_type_json f.params)
    (member (codes "result") (nullable_json wit_type_json f.outcome)
    no_members))))

abbrev pub label_json : List ℕ → Json
label_json l = object (member (codes "name") (string l) no_members)

abbrev pub variant_case_json : List ℕ × Option WitType → Json
variant_case_json p =
    object (member (codes "name") (string p.0)
    (member (codes "type") (nullable_json wit_type_json p.1)
    no_members))

abbrev pub handle_json : Handle → Json
handle_json (Own t) = variant_json (codes "own") (number_json t.0)
handle_json (Borrow t) = variant_json (codes "borrow") (number_json t.0)

abbrev pub kind_json : KindView → Json
kind_json (record_kind fields) = variant_json (codes "record") (variant_json (codes "fields") (list_json named_type_json fields))
kind_json resource_kind = string (codes "resource")
kind_json (handle_kind h) = variant_json (codes "handle") (handle_json h)
kind_json (flags_kind labels) = variant_json (codes "flags") (variant_json (codes "flags") (list_json label_json labels))
kind_json (tuple_kind types) = variant_json (codes "tuple") (variant_json (codes "types") (list_json wit_type_json types))
kind_json (variant_kind cases) = variant_json (codes "variant") (variant_json (codes "cases") (list_json variant_case_json cases))
kind_json (enum_kind cases) = variant_json (codes "enum") (variant_json (codes "cases") (list_json label_json cases))
kind_json (option_kind t) = variant_json (codes "option") (wit_type_json t)
kind_json (result_kind ok err) =
    variant_json (codes "result") (object (member (codes "ok") (nullable_json wit_type_json ok)
    (member (codes "err") (nullable_json wit_type_json err)
    no_members)))
kind_json (list_kind t) = variant_json (codes "list") (wit_type_json t)
kind_json (future_kind t) = variant_json (codes "future") (nullable_json wit_type_json t)
kind_json (stream_kind t) = variant_json (codes "stream") (nullable_json wit_type_json t)
kind_json (alias_kind t) = variant_json (codes "type") (wit_type_json t)

abbrev pub owner_json : TypeOwner → Json
owner_json (World w) = variant_json (codes "world") (number_json w.0)
owner_json (Interface i) = variant_json (codes "interface") (number_json i.0)
owner_json no_owner = null

abbrev pub type_json : TypeView → Json
type_json t =
    object (member (codes "name") (nullable_json string t.name)
    (member (codes "kind") (kind_json t.kind)
    (member (codes "owner") (owner_json t.owner)
    no_members)))

-- interfaces, worlds and packages

abbrev pub interface_json : InterfaceView → Json
interface_json i =
    object (member (codes "name") (nullable_json string i.name)
    (member (codes "types") (name_map_json number_json i.types)
    (member (codes "functions") (name_map_json function_json i.functions)
    (member (codes "package") (nullable_json number_json i.in_package)
    (member (codes "clone_of") (nullable_json number_json i.clone_of)
    no_members)))))

abbrev pub key_text : KeyView → List ℕ
key_text (plain_key name) = name
key_text (interface_key n) = codes "interface-" ++ decimal n

abbrev pub item_json : ItemView → Json
item_json (interface_item n external_id) =
    variant_json (codes "interface") (object (member (codes "id") (number_json n)
    (member (codes "external_id") (nullable_json string external_id)
    no_members)))
item_json (function_item f) = variant_json (codes "function") (function_json f)
item_json (type_item n) = variant_json (codes "type") (number_json n)

abbrev pub world_items_json : List (KeyView × ItemView) → Json
world_items_json es = object (members_json key_text item_json es)

-- a world, and the package that it is of
abbrev pub world_json : WorldView × Option ℕ → Json
world_json p =
    object (member (codes "name") (string p.0.name)
    (member (codes "imports") (world_items_json p.0.imports)
    (member (codes "exports") (world_items_json p.0.exports)
    (member (codes "package") (nullable_json number_json p.1)
    no_members))))

abbrev pub version_suffix : Option (ℕ × ℕ × ℕ × List ℕ × List ℕ) → List ℕ
version_suffix None = []
version_suffix (Some v) = 64 ∷ parts_text v

-- `namespace:name` or `namespace:name@version`; 58 is the colon and 64 is `@`
abbrev pub package_name_text : PackageNameView → List ℕ
package_name_text p = p.namespace ++ (58 ∷ (p.name ++ version_suffix p.version))

-- a package, and its worlds by their names
abbrev pub package_json : PackageView × List (List ℕ × ℕ) → Json
package_json p =
    object (member (codes "name") (string (package_name_text p.0.name))
    (member (codes "interfaces") (name_map_json number_json p.0.interfaces)
    (member (codes "worlds") (name_map_json number_json p.1)
    no_members)))

abbrev pub document_json : DocumentView → Json
document_json d =
    object (member (codes "worlds") (list_json world_json (zip d.parts.worlds d.world_packages))
    (member (codes "interfaces") (list_json interface_json d.parts.interfaces)
    (member (codes "types") (list_json type_json d.parts.types)
    (member (codes "packages") (list_json package_json (zip d.parts.packages d.package_worlds))
    no_members))))
