-- The kinds of names that an import of a function is tried for, in groups.
use Rattle.std.specs.Prelude.{◌≡◌, ℕ, ◌<◌, List, [], ◌∷◌, ◌++◌, map, length, slice_get, true, false, Some}
use Rattle.std.specs.Option.{ForSome, option_map_or}
use Rattle.wc_read.specs.Types.{FuncTypeValue}
use Rattle.wc_resolve.specs.declared.functions.AbiVariant.{AbiVariant}
use Rattle.wc_resolve.specs.Views.{FunctionView, world_view}
use Rattle.wc_names.specs.Environment.{environment_meaning, environment_module, NamesEnvironment}
use Rattle.wc_names.specs.First.{FirstOf}
use Rattle.wc_names.specs.Imports.{NameScope, Kind, root_builtin, root_function, root_intrinsic, root_other_item, root_unknown, export_root_intrinsic, without_prefix, export_unknown, export_intrinsic, export_other_name, interface_unknown, interface_function, interface_intrinsic, interface_other_name, IsKind, by_scheme, func_type, function_type, kinds, IsRule}
use Rattle.wc_names.specs.Interfaces.{FoundInterface, NamesInterface}
use Rattle.wc_names.specs.Keys.{Scope, scope_key}
use Rattle.wc_names.specs.Meanings.{Meaning, means}
use Rattle.wc_names.specs.Mangling.{Scheme, ResourceOperation, export_prefix, interface_prefix, root_module}
use Rattle.wc_names.specs.declared.payloads.PayloadLookupContext.{PayloadLookupContext}
use Rattle.wc_names.specs.Views.{ImportView, world_func, interface_func}
use Rattle.wc_names.specs.WitIntrinsics.{WitIntrinsic, wit_intrinsics, IsWitIntrinsic, resource_row, no_task_return, of_async_value, task_cancel, task_return}
use Rattle.wc_validate.specs.Private.Imports.Lookups.{LookupScope, function_in, resource_in}
use Rattle.wc_validate.specs.NameScope.{imported_function}

-- the kinds of the root, and those of them that are tried last
abbrev pub other_root_kinds : List Kind
other_root_kinds = map root_intrinsic (wit_intrinsics true) ++ (root_other_item ∷ root_unknown ∷ [])

abbrev pub root_kinds : List Kind
root_kinds = root_builtin ∷ root_function ∷ other_root_kinds

-- the kinds of the root of exports
abbrev pub export_root_kinds : List Kind
export_root_kinds = map export_root_intrinsic (wit_intrinsics false)

-- the kinds of an interface that is exported
abbrev pub export_kinds : List Kind
export_kinds = export_unknown ∷ (map export_intrinsic (wit_intrinsics false) ++ (export_other_name ∷ []))

-- the kinds of an interface that is imported
abbrev pub interface_kinds : List Kind
interface_kinds = interface_unknown ∷ interface_function ∷ (map interface_intrinsic (wit_intrinsics true) ++ (interface_other_name ∷ []))

-- what the name of a function that is imported from a module means, of some of the kinds
abbrev pub MeansAmong : Scheme → NameScope → List Kind → List ℕ → List ℕ → FuncTypeValue → Meaning → Type 0
MeansAmong s e some_kinds from name ty m = FirstOf (IsKind s e (imported_function from name ty)) some_kinds m

-- what the name of a function that is imported from the root means, of some of the kinds
abbrev pub MeansInRoot : Scheme → NameScope → List Kind → List ℕ → FuncTypeValue → Meaning → Type 0
MeansInRoot s e some_kinds name ty m = MeansAmong s e some_kinds (root_module s) name ty m

abbrev pub IsRootKind : Scheme → NameScope → Kind → List ℕ → FuncTypeValue → Meaning → Type 0
IsRootKind s e kind name ty m = IsKind s e (imported_function (root_module s) name ty) kind m

-- a text is about an interface that the world imports, or exports
abbrev pub NamesImport : Scheme → NameScope → List ℕ → FoundInterface → Type 0
NamesImport s e text found = NamesInterface s e.resolve e.world.imports text found

abbrev pub NamesExport : Scheme → NameScope → List ℕ → FoundInterface → Type 0
NamesExport s e text found = NamesInterface s e.resolve e.world.exports text found

-- what the name of a function means that is imported from the module of an imported or exported interface, by the text
-- that the module's name has for it
abbrev pub MeansInImport : Scheme → NameScope → List ℕ → List ℕ → FuncTypeValue → Meaning → Type 0
MeansInImport s e text name ty m = MeansAmong s e interface_kinds (interface_prefix s ++ text) name ty m

abbrev pub MeansInExport : Scheme → NameScope → List ℕ → List ℕ → FuncTypeValue → Meaning → Type 0
MeansInExport s e text name ty m = MeansAmong s e export_kinds (interface_prefix s ++ (export_prefix s ++ text)) name ty m

-- what the name of a built-in means of the world or of one of its interfaces
abbrev pub IsIntrinsic : Scheme → LookupScope → List ℕ → WitIntrinsic → Meaning → Type 0
IsIntrinsic s l name intrinsic m = IsWitIntrinsic s l.resolve l.world l.imported l.scope name intrinsic m

abbrev pub MeansIntrinsic : Scheme → LookupScope → List WitIntrinsic → List ℕ → Meaning → Type 0
MeansIntrinsic s l some_intrinsics name m = FirstOf (IsIntrinsic s l name) some_intrinsics m

-- the import of an operation on a resource, by its name and its index
abbrev pub resource_import : LookupScope → ResourceOperation → List ℕ → ℕ → ImportView
resource_import l op resource t = (resource_row l.imported op).meaning (scope_key l.scope resource) l.scope.interface t

-- what an operation on the resource of a name means
abbrev pub MeansOnResource : LookupScope → ResourceOperation → List ℕ → Meaning → Type 0
MeansOnResource l op resource m =
    (t : ℕ) × (resource_in l resource ≡ Some t) × (m ≡ means (resource_import l op resource t) (Some (resource_row l.imported op).ty))

-- the import of a function: of the world, or of an interface
abbrev pub function_import : Scope → List ℕ → List ℕ → AbiVariant → ImportView
function_import scope name own_name abi = option_map_or (λ i. interface_func (scope_key scope name) i own_name abi) scope.interface (world_func (scope_key scope name) own_name abi)

-- what the name of a function means, lowered so
abbrev pub MeansFunction : LookupScope → List ℕ → AbiVariant → Meaning → Type 0
MeansFunction l name abi m =
    (f : FunctionView) × (function_in l name ≡ Some f)
    × (m ≡ means (function_import l.scope name f.name abi) (Some (function_type l.resolve abi f)))

-- the world is one of the `Resolve`, and the interface, if there is one, is in range
pub record IsContextFormed (c : PayloadLookupContext) : Type 0 where
  pub index : ℕ
  pub is_world : slice_get c.resolve.now.worlds index ≡ Some (world_view c.world.now)
  pub interface_in : ForSome c.id (λ id. id.0 < length c.resolve.now.interfaces)

-- the kinds of a module that is not the root
abbrev pub other_kinds : List Kind
other_kinds = without_prefix ∷ (export_kinds ++ interface_kinds)

-- what the name of a function of the environment means
abbrev pub MeansEnvironment : Scheme → List ℕ → List ℕ → FuncTypeValue → Meaning → Type 0
MeansEnvironment s from name ty m = (from ≡ environment_module) × (i : ImportView) × NamesEnvironment s name ty i × (m ≡ environment_meaning i)

-- what the name of a function means by the scheme that reads it
abbrev pub MeansByScheme : NameScope → List ℕ → List ℕ → FuncTypeValue → Meaning → Type 0
MeansByScheme e from name ty m = FirstOf (IsRule e (record { from = from; name = name; ty = func_type ty })) (map by_scheme kinds) m

-- the built-ins of a task, a future or a stream, for what is exported; and those of them by which a task returns
abbrev pub task_returns : List WitIntrinsic
task_returns = task_return ∷ no_task_return ∷ []

abbrev pub task_intrinsics : List WitIntrinsic
task_intrinsics = task_return ∷ no_task_return ∷ task_cancel ∷ of_async_value ∷ []
