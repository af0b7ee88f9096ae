-- Names of exports: of functions of a world and of its interfaces, and of destructors of resources. They count for the
-- keys of an export set alone, in the set's order.
use Rattle.std.specs.Prelude.{◌≡◌, ◌≢◌, ℕ, List, [], ◌∷◌, ◌++◌, take, Option, Some, None, Contains, slice_get, codes, if◌then◌else◌}
use Rattle.std.specs.List.{filter_map}
use Rattle.std.specs.Option.{option_and_then, option_map, option_map_or}
use Rattle.std.specs.Str.{bytes_eq}
use Rattle.semver.specs.Identifiers.{parts_text}
use Rattle.wc_texts.specs.Characters.{hash_sign}
use Rattle.wc_resolve.specs.Names.{track}
use Rattle.wc_resolve.specs.Resolve.{core_name, key_text}
use Rattle.wc_resolve.specs.Views.{KeyView, plain_key, FunctionView, InterfaceView, WorldView}
use Rattle.wc_resolve.specs.Kinds.{ResolveView}
use Rattle.wc_adapters.specs.Entries.{Entries}
use Rattle.wc_names.specs.declared.export_names.ExportSyntax.{ExportSyntax}
use Rattle.wc_names.specs.declared.export_names.ExportSyntax.TheVariants.{Standard, Legacy}
use Rattle.wc_names.specs.First.{FirstOf}
use Rattle.wc_names.specs.Interfaces.{FoundInterface}
use Rattle.wc_names.specs.Keys.{as_function, as_interface, item_under, resource_at}
use Rattle.wc_texts.specs.Names.{under_name}
use Rattle.wc_names.specs.Mangling.{Scheme, standard, legacy}
use Rattle.wc_names.specs.Texts.{Lacks}

abbrev pub export_syntax : Scheme → ExportSyntax
export_syntax standard = Standard
export_syntax (legacy hook) = Legacy

abbrev pub bar : ℕ
bar = 124

-- the name of a member of an interface with this text, or of the world: `|I|M` and `||M`, or `I#M` and `M`; an interface's
-- text has no bar, or no `#`
abbrev pub IsExportName : ExportSyntax → List ℕ → Option (List ℕ) → List ℕ → Type 0
IsExportName Standard name None member = name ≡ bar ∷ (bar ∷ member)
IsExportName Standard name (Some text) member = (name ≡ bar ∷ (text ++ (bar ∷ member))) × Lacks bar text × (text ≢ [])
IsExportName Legacy name None member = (name ≡ core_name None member) × Lacks hash_sign name
IsExportName Legacy name (Some text) member = (name ≡ core_name (Some text) member) × Lacks hash_sign text

-- a text is no name of an export
abbrev pub IsNoExportName : ExportSyntax → List ℕ → Type 0
IsNoExportName x name = (interface : Option (List ℕ)) (member : List ℕ) → ¬ IsExportName x name interface member

-- what a world exports
abbrev pub world_exports : ResolveView → ℕ → Entries
world_exports r index = option_map_or (λ (w : WorldView). w.exports) (slice_get r.worlds index) []

-- the interface that is exported under a key
abbrev pub exported_interface : Entries → KeyView → Option ℕ
exported_interface exports key = option_and_then as_interface (item_under exports key)

-- the text of an interface: its plain key, or its id, of which the standard scheme has the canonical one
abbrev pub interface_text : ExportSyntax → ResolveView → KeyView → Option (List ℕ)
interface_text Standard r key = key_text track r key
interface_text Legacy r key = key_text parts_text r key

-- the interface that is exported under a key, with its text
abbrev pub interface_with_text : ExportSyntax → ResolveView → Entries → KeyView → Option (List ℕ × ℕ)
interface_with_text x r exports key =
    option_and_then (λ (i : ℕ). option_map (λ (text : List ℕ). (text, i)) (interface_text x r key)) (exported_interface exports key)

abbrev pub if_text : List ℕ → KeyView → List ℕ × ℕ → Option FoundInterface
if_text text key p = if bytes_eq text p.0 then Some (key, p.1) else None

-- the interfaces of an export set that have this text, in the set's order
unfoldable pub interfaces_of_text : ExportSyntax → ResolveView → Entries → List KeyView → List ℕ → List FoundInterface
interfaces_of_text x r exports keys text = filter_map (λ (key : KeyView). option_and_then (if_text text key) (interface_with_text x r exports key)) keys

-- the interfaces of a text in which members are looked up: by the standard scheme the first alone
abbrev pub searched_interfaces : ExportSyntax → ResolveView → Entries → List KeyView → List ℕ → List FoundInterface
searched_interfaces Standard r exports keys text = take 1 (interfaces_of_text Standard r exports keys text)
searched_interfaces Legacy r exports keys text = interfaces_of_text Legacy r exports keys text

-- a function that is exported: the key of the set, the interface, if it is of one, and the function
pub record ExportTarget : Type 0 where
  pub key : KeyView
  pub interface : Option ℕ
  pub function : FunctionView

abbrev pub target : KeyView → Option ℕ → FunctionView → ExportTarget
target key interface f = record { key = key; interface = interface; function = f }

-- the function of this name that the interface at an index has
abbrev pub interface_function : ResolveView → ℕ → List ℕ → Option FunctionView
interface_function r i name = option_and_then (λ (v : InterfaceView). under_name v.functions name) (slice_get r.interfaces i)

-- the resource of this name that the interface at an index has
abbrev pub interface_resource : ResolveView → ℕ → List ℕ → Option ℕ
interface_resource r i name = option_and_then (resource_at r) (option_and_then (λ (v : InterfaceView). under_name v.types name) (slice_get r.interfaces i))

abbrev pub HasFunction : ResolveView → List ℕ → FoundInterface → ExportTarget → Type 0
HasFunction r name found t = (f : FunctionView) × (interface_function r found.1 name ≡ Some f) × (t ≡ target found.0 (Some found.1) f)

abbrev pub HasResource : ResolveView → List ℕ → FoundInterface → ℕ → Type 0
HasResource r name found t = interface_resource r found.1 name ≡ Some t

-- the function of this name that the world itself has in the export set
abbrev pub IsWorldFunction : Entries → List KeyView → List ℕ → ExportTarget → Type 0
IsWorldFunction exports keys name t =
    Contains keys (plain_key name) × (f : FunctionView) × (option_and_then as_function (item_under exports (plain_key name)) ≡ Some f)
    × (t ≡ target (plain_key name) None f)

-- the function of this name that an interface with this text has in the export set, or else the world itself
abbrev pub IsExportedFunction : ExportSyntax → ResolveView → Entries → List KeyView → Option (List ℕ) → List ℕ → ExportTarget → Type 0
IsExportedFunction x r exports keys None name t = IsWorldFunction exports keys name t
IsExportedFunction x r exports keys (Some text) name t = FirstOf (HasFunction r name) (searched_interfaces x r exports keys text) t

-- an export of this name is for this function
abbrev pub NamesFunctionExport : ExportSyntax → ResolveView → Entries → List KeyView → List ℕ → ExportTarget → Type 0
NamesFunctionExport x r exports keys name t =
    (interface : Option (List ℕ)) × (member : List ℕ) × IsExportName x name interface member × IsExportedFunction x r exports keys interface member t

-- an export of this name by a scheme is for this function, which the world at an index exports
abbrev pub NamesWorldFunction : Scheme → ResolveView → ℕ → List KeyView → List ℕ → ExportTarget → Type 0
NamesWorldFunction s r world keys name t = NamesFunctionExport (export_syntax s) r (world_exports r world) keys name t

-- the destructor of a resource, as a member of its interface
abbrev pub destructor_member : ExportSyntax → List ℕ → List ℕ
destructor_member Standard resource = resource ++ codes "_dtor"
destructor_member Legacy resource = codes "[dtor]" ++ resource

-- an export of this name is the destructor of this resource
abbrev pub NamesDestructor : ExportSyntax → ResolveView → Entries → List KeyView → List ℕ → ℕ → Type 0
NamesDestructor x r exports keys name t =
    (text resource : List ℕ) × IsExportName x name (Some text) (destructor_member x resource)
    × FirstOf (HasResource r resource) (searched_interfaces x r exports keys text) t

-- an export of this name by a scheme is the destructor of this resource, in an interface that the world at an index exports
abbrev pub NamesWorldDestructor : Scheme → ResolveView → ℕ → List KeyView → List ℕ → ℕ → Type 0
NamesWorldDestructor s r world keys name t = NamesDestructor (export_syntax s) r (world_exports r world) keys name t
