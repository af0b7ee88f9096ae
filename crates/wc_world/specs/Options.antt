-- What a component has to say where it lowers an imported function (component model, Canonical ABI, "canonopt"), as
-- bits.
use Rattle.std.specs.Prelude.{ℕ, ◌+◌, List, Bool, true, false, ◌||◌, if◌then◌else◌}
use Rattle.std.specs.List.{list_any}
use Rattle.std.specs.Option.{option_map_or}
use Rattle.wc_resolve.specs.declared.functions.AbiVariant.{AbiVariant}
use Rattle.wc_resolve.specs.declared.functions.AbiVariant.TheVariants.{GuestImportAsync}
use Rattle.wc_resolve.specs.declared.types.WitType.{WitType}
use Rattle.wc_resolve.specs.Contents.{has_text, holds_string, holds_string_or_list, text_of}
use Rattle.wc_resolve.specs.Flat.{flat_of}
use Rattle.wc_resolve.specs.Signature.{SignatureView, flatten_functype}
use Rattle.wc_resolve.specs.Views.{FunctionView}
use Rattle.wc_resolve.specs.Kinds.{ResolveView}

-- which options a function has when it is lowered in this way
abbrev pub OptionsOf : Type 0
OptionsOf = ResolveView → FunctionView → AbiVariant → ℕ

-- the flags of the options
abbrev pub memory_flag : ℕ
memory_flag = 1

abbrev pub realloc_flag : ℕ
realloc_flag = 2

abbrev pub string_encoding_flag : ℕ
string_encoding_flag = 4

abbrev pub async_flag : ℕ
async_flag = 8

abbrev pub bit_if : ℕ → Bool → ℕ
bit_if bit b = if b then bit else 0

abbrev pub option_bits : Bool → Bool → Bool → Bool → ℕ
option_bits memory realloc encoding is_async =
    bit_if memory_flag memory + (bit_if realloc_flag realloc + (bit_if string_encoding_flag encoding + bit_if async_flag is_async))

-- one of the parameters of a function passes a test; its result passes a test
abbrev pub any_param : (WitType → Bool) → FunctionView → Bool
any_param test f = list_any (λ (p : List ℕ × WitType). test p.1) f.params

abbrev pub outcome_does : (WitType → Bool) → FunctionView → Bool
outcome_does test f = option_map_or test f.outcome false

-- a parameter passes a test, or the result does
abbrev pub function_does : (WitType → Bool) → FunctionView → Bool
function_does test f = any_param test f || outcome_does test f

-- a string is in the type, or, if lists count too, a string or a list
abbrev pub holds_text : Bool → ResolveView → WitType → Bool
holds_text lists r = has_text (text_of lists r.types)

abbrev pub signature_of : ResolveView → AbiVariant → FunctionView → SignatureView
signature_of r abi f = flatten_functype (flat_of r.types) abi f

abbrev pub is_async_import : AbiVariant → Bool
is_async_import GuestImportAsync = true
is_async_import abi = false

-- memory, where something is passed through it; realloc, where the result is put into memory; the encoding, where there
-- are strings: by tests for types that hold strings, and strings or lists
abbrev pub options_by : (WitType → Bool) → (WitType → Bool) → OptionsOf
options_by strings texts r f abi =
    option_bits
    ((signature_of r abi f).indirect_params || ((signature_of r abi f).retptr || (any_param texts f || outcome_does texts f)))
    (outcome_does texts f)
    (any_param strings f || outcome_does strings f)
    (is_async_import abi)

-- the options of a function by what its types hold
abbrev pub plain_options : OptionsOf
plain_options r = options_by (holds_string r) (holds_string_or_list r) r
