-- Flat types: the core types that represent a value of a type (component model, Canonical ABI, "Flattening").
use Rattle.std.specs.Prelude.{◌≡◌, ℕ, ◌<◌, List, [], ◌∷◌, map, fold, take, length, replicate, Option, Some, None, Vec, slice_index_or}
use Rattle.std.specs.Int.{div_ceil}
use Rattle.std.specs.List.{flat_map}
use Rattle.std.specs.Option.{option_map_or}
use Rattle.std.specs.Prelude.{String as Text}
use Rattle.std.specs.declared.alloc.Global.{Global}
use Rattle.wc_resolve.specs.declared.flat.WasmType.{WasmType}
use Rattle.wc_resolve.specs.declared.flat.WasmType.TheVariants.{I32, I64, F32, F64, Pointer, PointerOrI64, Length}
use Rattle.wc_resolve.specs.declared.types.WitType.{WitType}
use Rattle.wc_resolve.specs.declared.types.WitType.TheVariants.{Bool, U8, U16, U32, U64, S8, S16, S32, S64, F32 as FloatSingle, F64 as FloatDouble, Char, String, ErrorContext, Id}
use Rattle.wc_resolve.specs.Views.{KindView, record_kind, resource_kind, handle_kind, flags_kind, tuple_kind, variant_kind, enum_kind, option_kind, result_kind, list_kind, future_kind, stream_kind, alias_kind, TypeView}
use Rattle.wc_resolve.specs.TypeRules.{Rule, value_by_rule}

-- the core type that can represent a value of either
abbrev pub join : WasmType → WasmType → WasmType
join PointerOrI64 b = PointerOrI64
join a PointerOrI64 = PointerOrI64
join Pointer I64 = PointerOrI64
join Pointer F64 = PointerOrI64
join I64 Pointer = PointerOrI64
join F64 Pointer = PointerOrI64
join Pointer b = Pointer
join a Pointer = Pointer
join Length I64 = I64
join Length F64 = I64
join I64 Length = I64
join F64 Length = I64
join Length b = Length
join a Length = Length
join I32 I32 = I32
join I32 F32 = I32
join F32 I32 = I32
join F32 F32 = F32
join F64 F64 = F64
join a b = I64

-- index by index; those past the end of the shorter list stay as they are
abbrev pub join_flats : List WasmType → List WasmType → List WasmType
join_flats [] ys = ys
join_flats (x ∷ xs) [] = x ∷ xs
join_flats (x ∷ xs) (y ∷ ys) = join x y ∷ join_flats xs ys

-- the flat types of a type, by those of the defined types
abbrev pub flatten_type : (ℕ → List WasmType) → WitType → List WasmType
flatten_type flat Bool = I32 ∷ []
flatten_type flat U8 = I32 ∷ []
flatten_type flat U16 = I32 ∷ []
flatten_type flat U32 = I32 ∷ []
flatten_type flat U64 = I64 ∷ []
flatten_type flat S8 = I32 ∷ []
flatten_type flat S16 = I32 ∷ []
flatten_type flat S32 = I32 ∷ []
flatten_type flat S64 = I64 ∷ []
flatten_type flat FloatSingle = F32 ∷ []
flatten_type flat FloatDouble = F64 ∷ []
flatten_type flat Char = I32 ∷ []
flatten_type flat String = Pointer ∷ Length ∷ []
flatten_type flat ErrorContext = I32 ∷ []
flatten_type flat (Id i) = flat i.0

-- of types, in order
abbrev pub flatten_types : (ℕ → List WasmType) → List WitType → List WasmType
flatten_types flat types = flat_map (flatten_type flat) types

-- no core types where there is no type
abbrev pub flat_payload : (ℕ → List WasmType) → Option WitType → List WasmType
flat_payload flat t = option_map_or (flatten_type flat) t []

-- of named fields
abbrev pub flat_fields : (ℕ → List WasmType) → List (Text Global × WitType) → List WasmType
flat_fields flat fields = flatten_types flat (map (λ f. f.1) fields)

-- how many labels one core type has bits for
abbrev pub labels_per_flag_word : ℕ
labels_per_flag_word = 32

abbrev pub flat_flags : ℕ → List WasmType
flat_flags labels = replicate (div_ceil labels labels_per_flag_word) I32

-- an I32 for the case, and the payloads, joined index by index
abbrev pub flat_cases : (ℕ → List WasmType) → List (Option WitType) → List WasmType
flat_cases flat payloads = I32 ∷ fold (λ shared t. join_flats shared (flat_payload flat t)) [] payloads

-- of named cases
abbrev pub flat_variant : (ℕ → List WasmType) → List (Text Global × Option WitType) → List WasmType
flat_variant flat cases = flat_cases flat (map (λ c. c.1) cases)

-- the flat types of a defined type: of flags an I32 for each 32 labels begun; none of a resource, which never occurs
-- by value
abbrev pub flat_kind : (ℕ → List WasmType) → KindView → List WasmType
flat_kind flat (record_kind fields) = flatten_types flat (map (λ f. f.1) fields)
flat_kind flat resource_kind = []
flat_kind flat (handle_kind h) = I32 ∷ []
flat_kind flat (flags_kind labels) = flat_flags (length labels)
flat_kind flat (tuple_kind types) = flatten_types flat types
flat_kind flat (variant_kind cases) = flat_cases flat (map (λ c. c.1) cases)
flat_kind flat (enum_kind cases) = I32 ∷ []
flat_kind flat (option_kind t) = flat_cases flat (None ∷ Some t ∷ [])
flat_kind flat (result_kind ok err) = flat_cases flat (ok ∷ err ∷ [])
flat_kind flat (list_kind t) = Pointer ∷ Length ∷ []
flat_kind flat (future_kind t) = I32 ∷ []
flat_kind flat (stream_kind t) = I32 ∷ []
flat_kind flat (alias_kind t) = flatten_type flat t

abbrev pub flat_rule : Rule (List WasmType)
flat_rule flat x kind = option_map_or (flat_kind flat) kind []

-- the flat types of the type at an index
abbrev pub flat_of : List TypeView → ℕ → List WasmType
flat_of types = value_by_rule flat_rule [] types

-- the lists of core types in vectors
abbrev pub lists : List (Vec WasmType Global) → List (List WasmType)
lists vectors = map (λ (v : Vec WasmType Global). v.items) vectors

-- the flat types that a table has for an index
abbrev pub flat_entry : List (List WasmType) → ℕ → List WasmType
flat_entry flats x = slice_index_or flats x []

-- the flat types that a table of vectors has for an index
abbrev pub flats_in : List (Vec WasmType Global) → ℕ → List WasmType
flats_in vectors = flat_entry (lists vectors)

-- the most flat parameters that are passed one by one, those of an asynchronous import, and the most flat results
abbrev pub max_flat_params : ℕ
max_flat_params = 16

abbrev pub max_flat_async_params : ℕ
max_flat_async_params = 4

abbrev pub max_flat_results : ℕ
max_flat_results = 1

-- how many core types are kept of each type: one more than can be passed one by one
abbrev pub flat_types_kept : ℕ
flat_types_kept = 17

abbrev pub cut : List WasmType → List WasmType
cut flat = take flat_types_kept flat

-- a table of the flat types of all types, as many of each as are kept
pub record AreFlattened (types : List TypeView) (flats : List (List WasmType)) : Type 0 where
  pub same_length : length flats ≡ length types
  pub each : (x : ℕ) → x < length types → flat_entry flats x ≡ cut (flat_of types x)
