-- What is done with a resource, and what built-ins of interfaces are, as the code has them.
use Rattle.std.specs.Prelude.{ℕ, Bool, true, false, List, Option, Result}
use Rattle.wc_names.specs.Mangling.{ResourceOperation, resource_drop, resource_new, resource_rep, Scheme}
use Rattle.wc_validate.specs.declared.imports.intrinsics.ResourceOperation.{ResourceOperation as CodeOperation}
use Rattle.wc_validate.specs.declared.imports.intrinsics.ResourceOperation.TheVariants.{Drop, New, Rep}
use Rattle.wc_resolve.specs.declared.functions.AbiVariant.{AbiVariant}
use Rattle.wc_read.specs.declared.types.FuncType.{FuncType}
use Rattle.wc_resolve.specs.declared.functions.Function.{Function}
use Rattle.wc_names.specs.declared.imports.Import.{Import}
use Rattle.wc_names.specs.Views.{ImportView}
use Rattle.wc_validate.specs.Fault.{IsClassifiedBy}
use Rattle.wc_validate.specs.Private.Imports.Kinds.{IsIntrinsic, MeansIntrinsic, MeansOnResource, function_import, resource_import}
use Rattle.wc_names.specs.declared.payloads.PayloadLookupContext.{PayloadLookupContext}
use Rattle.wc_validate.specs.declared.name_fault.NameFault.{NameFault}
use Rattle.wc_names.specs.WitIntrinsics.{WitIntrinsic}
use Rattle.wc_names.specs.Contexts.{context_scope}
use Rattle.wc_resolve.specs.Views.{function_view}
use Rattle.wc_validate.specs.Private.Imports.Lookups.{lookup_scope}

abbrev pub operation_of : CodeOperation → ResourceOperation
operation_of Drop = resource_drop
operation_of New = resource_new
operation_of Rep = resource_rep

-- whether the signature has a result
abbrev pub has_result : Bool → ResourceOperation → Bool
has_result true op = false
has_result false resource_drop = false
has_result false resource_new = true
has_result false resource_rep = true

-- what a part of the classification answers of some built-ins, or of one, of the world or of one of its interfaces
abbrev pub IsIntrinsicAmong : Scheme → PayloadLookupContext → List WitIntrinsic → List ℕ → FuncType → Result (Option Import) NameFault → Type 0
IsIntrinsicAmong s c some_intrinsics name ty result = IsClassifiedBy (MeansIntrinsic s (lookup_scope c) some_intrinsics name) ty result

abbrev pub IsIntrinsicOf : Scheme → PayloadLookupContext → WitIntrinsic → List ℕ → FuncType → Result (Option Import) NameFault → Type 0
IsIntrinsicOf s c intrinsic name ty result = IsClassifiedBy (IsIntrinsic s (lookup_scope c) name intrinsic) ty result

-- what a part of the classification answers of an operation on a resource
abbrev pub IsOnResource : PayloadLookupContext → CodeOperation → List ℕ → FuncType → Result (Option Import) NameFault → Type 0
IsOnResource c op resource ty result = IsClassifiedBy (MeansOnResource (lookup_scope c) (operation_of op) resource) ty result

-- the imports of an operation on a resource, and of a function by its name
abbrev pub import_on_resource : PayloadLookupContext → CodeOperation → List ℕ → ℕ → ImportView
import_on_resource c op resource t = resource_import (lookup_scope c) (operation_of op) resource t

abbrev pub import_of_function : PayloadLookupContext → List ℕ → Function → AbiVariant → ImportView
import_of_function c name f abi = function_import (context_scope c) name (function_view f).name abi
