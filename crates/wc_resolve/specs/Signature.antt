-- Core signatures: the core function type of a function (component model, Canonical ABI, "Flattening",
-- `flatten_functype`).
use Rattle.std.specs.Prelude.{ℕ, Bool, true, false, List, [], ◌∷◌, ◌++◌, map, length, nat_lt, is_some, if◌then◌else◌}
use Rattle.wc_resolve.specs.declared.flat.WasmType.{WasmType}
use Rattle.wc_resolve.specs.declared.flat.WasmType.TheVariants.{I32, Pointer}
use Rattle.wc_resolve.specs.declared.functions.AbiVariant.{AbiVariant}
use Rattle.wc_resolve.specs.declared.functions.AbiVariant.TheVariants.{GuestImport, GuestExport, GuestImportAsync, GuestExportAsync, GuestExportAsyncStackful}
use Rattle.wc_resolve.specs.declared.functions.FunctionKind.{FunctionKind}
use Rattle.wc_resolve.specs.declared.functions.FunctionKind.TheVariants.{Method, AsyncMethod}
use Rattle.wc_resolve.specs.declared.signature.WasmSignature.{WasmSignature}
use Rattle.wc_resolve.specs.Flat.{flatten_types, flat_payload, max_flat_params, max_flat_async_params, max_flat_results}
use Rattle.wc_resolve.specs.Views.{FunctionView}

-- the core types of parameters and results, whether all parameters are passed indirectly, by one pointer, and whether
-- the result is passed indirectly
pub record SignatureView : Type 0 where
  pub params : List WasmType
  pub results : List WasmType
  pub indirect_params : Bool
  pub retptr : Bool

abbrev pub signature_view : WasmSignature → SignatureView
signature_view s = record { params = s.params.items; results = s.results.items; indirect_params = s.indirect_params; retptr = s.retptr }

-- the most flat parameters that are passed one by one
abbrev pub max_flat_params_of : AbiVariant → ℕ
max_flat_params_of GuestImportAsync = max_flat_async_params
max_flat_params_of abi = max_flat_params

abbrev pub is_export : AbiVariant → Bool
is_export GuestExport = true
is_export GuestExportAsync = true
is_export GuestExportAsyncStackful = true
is_export abi = false

-- whether the first parameter is the representation of a resource that the guest itself implements
abbrev pub is_exported_method : FunctionKind → AbiVariant → Bool
is_exported_method (Method r) abi = is_export abi
is_exported_method (AsyncMethod r) abi = is_export abi
is_exported_method kind abi = false

abbrev pub first_as_pointer : List WasmType → List WasmType
first_as_pointer (I32 ∷ rest) = Pointer ∷ rest
first_as_pointer params = params

-- the core parameters, but for a pointer to the result
abbrev pub passed_types : AbiVariant → FunctionKind → List WasmType → List WasmType
passed_types abi kind params =
    if nat_lt (max_flat_params_of abi) (length params) then Pointer ∷ [] else if is_exported_method kind abi then first_as_pointer params else params

-- whether the result is passed indirectly
abbrev pub has_indirect_result : AbiVariant → List WasmType → Bool → Bool
has_indirect_result GuestImport results has_result = nat_lt max_flat_results (length results)
has_indirect_result GuestExport results has_result = nat_lt max_flat_results (length results)
has_indirect_result GuestImportAsync results has_result = has_result
has_indirect_result GuestExportAsync results has_result = false
has_indirect_result GuestExportAsyncStackful results has_result = false

-- the pointer to the result that is a parameter of an import
abbrev pub result_pointer : AbiVariant → Bool → List WasmType
result_pointer GuestImport true = Pointer ∷ []
result_pointer GuestImportAsync true = Pointer ∷ []
result_pointer abi indirect_result = []

-- the core results: of an asynchronous function a state, of a stackful one none
abbrev pub returned_types : AbiVariant → Bool → List WasmType → List WasmType
returned_types GuestImport true results = []
returned_types GuestImport false results = results
returned_types GuestExport true results = Pointer ∷ []
returned_types GuestExport false results = results
returned_types GuestImportAsync indirect_result results = I32 ∷ []
returned_types GuestExportAsync indirect_result results = I32 ∷ []
returned_types GuestExportAsyncStackful indirect_result results = []

-- a core signature by the flat types of the parameters and of the result, and by whether there is a result
abbrev pub core_of : AbiVariant → FunctionKind → List WasmType → List WasmType → Bool → SignatureView
core_of abi kind params results has_result = record {
  params = passed_types abi kind params ++ result_pointer abi (has_indirect_result abi results has_result);
  results = returned_types abi (has_indirect_result abi results has_result) results;
  indirect_params = nat_lt (max_flat_params_of abi) (length params);
  retptr = has_indirect_result abi results has_result;
}

-- the core signature of a function by the flat types of the defined types
abbrev pub flatten_functype : (ℕ → List WasmType) → AbiVariant → FunctionView → SignatureView
flatten_functype flat abi f = core_of abi f.kind (flatten_types flat (map (λ p. p.1) f.params)) (flat_payload flat f.outcome) (is_some f.outcome)
