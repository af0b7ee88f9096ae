-- Keys of worlds, ways to call functions, and core signatures as JSON.
use Rattle.std.specs.Prelude.{ℕ, List, [], ◌∷◌, map, codes}
use Rattle.json.specs.Json.{Json, boolean, string}
use Rattle.wc_adapters.specs.declared.encoding.StringEncoding.{StringEncoding}
use Rattle.wc_adapters.specs.declared.encoding.StringEncoding.TheVariants.{UTF8, UTF16, CompactUTF16}
use Rattle.wc_resolve.specs.Signature.{SignatureView}
use Rattle.wc_resolve.specs.Views.{KeyView, plain_key, interface_key}
use Rattle.wc_resolve.specs.declared.flat.WasmType.{WasmType}
use Rattle.wc_resolve.specs.declared.flat.WasmType.TheVariants.{I32, I64, F32, F64, Pointer, PointerOrI64, Length}
use Rattle.wc_resolve.specs.declared.functions.AbiVariant.{AbiVariant}
use Rattle.wc_resolve.specs.declared.functions.AbiVariant.TheVariants.{GuestImport, GuestExport, GuestImportAsync, GuestExportAsync, GuestExportAsyncStackful}
use Rattle.wc_texts.specs.Shapes.{array_of, number_json, object_of}

-- a plain name, or an interface
abbrev pub key_json : KeyView → Json
key_json (plain_key name) = object_of ((codes "name", string name) ∷ [])
key_json (interface_key id) = object_of ((codes "interface", number_json id) ∷ [])

abbrev pub abi_text : AbiVariant → List ℕ
abi_text GuestImport = codes "guest-import"
abi_text GuestExport = codes "guest-export"
abi_text GuestImportAsync = codes "guest-import-async"
abi_text GuestExportAsync = codes "guest-export-async"
abi_text GuestExportAsyncStackful = codes "guest-export-async-stackful"

abbrev pub abi_json : AbiVariant → Json
abi_json abi = string (abi_text abi)

abbrev pub wasm_type_text : WasmType → List ℕ
wasm_type_text I32 = codes "i32"
wasm_type_text I64 = codes "i64"
wasm_type_text F32 = codes "f32"
wasm_type_text F64 = codes "f64"
wasm_type_text Pointer = codes "pointer"
wasm_type_text PointerOrI64 = codes "pointer-or-i64"
wasm_type_text Length = codes "length"

abbrev pub wasm_type_json : WasmType → Json
wasm_type_json t = string (wasm_type_text t)

abbrev pub signature_json : SignatureView → Json
signature_json s =
    object_of (
    (codes "params", array_of (map wasm_type_json s.params)) ∷ (codes "results", array_of (map wasm_type_json s.results))
    ∷ (codes "indirect_params", boolean s.indirect_params) ∷ (codes "retptr", boolean s.retptr) ∷ []
    )

abbrev pub encoding_text : StringEncoding → List ℕ
encoding_text UTF8 = codes "utf8"
encoding_text UTF16 = codes "utf16"
encoding_text CompactUTF16 = codes "compact-utf16"

abbrev pub encoding_json : StringEncoding → Json
encoding_json e = string (encoding_text e)
