-- What a component has to say where it lifts an exported function (component model, Canonical ABI, "canonopt"), as bits.
use Rattle.std.specs.Prelude.{Bool, true, false, ◌||◌}
use Rattle.wc_resolve.specs.declared.functions.AbiVariant.{AbiVariant}
use Rattle.wc_resolve.specs.declared.functions.AbiVariant.TheVariants.{GuestExport, GuestExportAsync, GuestExportAsyncStackful}
use Rattle.wc_resolve.specs.declared.types.WitType.{WitType}
use Rattle.wc_resolve.specs.Contents.{holds_string, holds_string_or_list}
use Rattle.wc_resolve.specs.Signature.{SignatureView}
use Rattle.wc_world.specs.Options.{OptionsOf, any_param, function_does, option_bits, signature_of}

abbrev pub is_async_export : AbiVariant → Bool
is_async_export GuestExportAsync = true
is_async_export GuestExportAsyncStackful = true
is_async_export abi = false

-- memory, where something is passed through it; realloc, where parameters are put into memory; the encoding, where there
-- are strings: by the core signature, and by tests for types that hold strings, and strings or lists
abbrev pub export_options_by : (WitType → Bool) → (WitType → Bool) → SignatureView → OptionsOf
export_options_by strings texts s r f abi =
    option_bits
    (s.indirect_params || (s.retptr || function_does texts f))
    (s.indirect_params || any_param texts f)
    (function_does strings f)
    (is_async_export abi)

-- the options of an exported function by what its types hold; they go by its core signature where it is lifted
-- synchronously, so that `task.return` of an asynchronous one has the same memory and encoding
abbrev pub export_options : OptionsOf
export_options r f = export_options_by (holds_string r) (holds_string_or_list r) (signature_of r GuestExport f) r f
