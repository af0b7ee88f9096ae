-- Built-ins of futures and streams (component model, "Asynchronous Value Types"): `[W-OPERATION-S]F`, W being `future` or
-- `stream`.
use Rattle.std.specs.Prelude.{◌≡◌, ◌⊎◌, ℕ, List, [], ◌∷◌, ◌++◌, Bool, true, false, Some, codes}
use Rattle.std.specs.List.{slice_get}
use Rattle.wc_read.specs.declared.types.ValType.{ValType}
use Rattle.wc_read.specs.declared.types.ValType.TheVariants.{I32, I64}
use Rattle.wc_read.specs.Types.{FuncTypeValue}
use Rattle.wc_texts.specs.Characters.{hyphen, opening_bracket, closing_bracket}
use Rattle.wc_resolve.specs.Futures.{function_futures}
use Rattle.wc_resolve.specs.Views.{FunctionView, WorldView}
use Rattle.wc_resolve.specs.Kinds.{ResolveView}
use Rattle.wc_names.specs.Builtins.{signature}
use Rattle.wc_names.specs.Keys.{Scope, scope_key, function_named}
use Rattle.wc_names.specs.Mangling.{Scheme, standard, legacy, lowered_name}
use Rattle.wc_names.specs.Texts.{Lacks, SpellsNumber}
use Rattle.wc_names.specs.declared.async_values.AsyncValue.{AsyncValue}
use Rattle.wc_names.specs.declared.async_values.AsyncValue.TheVariants.{Future, Stream}
use Rattle.wc_names.specs.declared.async_values.Operation.{Operation}
use Rattle.wc_names.specs.declared.async_values.Operation.TheVariants.{New, Write, Read, CancelWrite, CancelRead, Forward, DropWritable, DropReadable}
use Rattle.wc_names.specs.Views.{PayloadTypeView, typed, unit_future, unit_stream, PayloadView, ImportView, async_value}

abbrev pub value_text : AsyncValue → List ℕ
value_text Future = codes "future"
value_text Stream = codes "stream"

-- the parameters of reading and writing: the end, and a pointer to the values; of a stream also how many
abbrev pub copy_params : AsyncValue → List ValType
copy_params Future = I32 ∷ I32 ∷ []
copy_params Stream = I32 ∷ I32 ∷ I32 ∷ []

-- the text of an operation, its signature, and whether `[async-lower]` may precede its name
pub record OperationRow : Type 0 where
  pub text : List ℕ
  pub ty : FuncTypeValue
  pub may_be_lowered : Bool

abbrev pub row : List ℕ → List ValType → List ValType → Bool → OperationRow
row text params results may_be_lowered = record { text = text; ty = signature params results; may_be_lowered = may_be_lowered }

-- the text and the signature of each operation
abbrev pub operation_row : AsyncValue → Operation → OperationRow
operation_row v New = row (codes "new") [] (I64 ∷ []) false
operation_row v Write = row (codes "write") (copy_params v) (I32 ∷ []) true
operation_row v Read = row (codes "read") (copy_params v) (I32 ∷ []) true
operation_row v CancelWrite = row (codes "cancel-write") (I32 ∷ []) (I32 ∷ []) true
operation_row v CancelRead = row (codes "cancel-read") (I32 ∷ []) (I32 ∷ []) true
operation_row v Forward = row (codes "forward") (I32 ∷ I32 ∷ []) [] false
operation_row v DropWritable = row (codes "drop-writable") (I32 ∷ []) [] false
operation_row v DropReadable = row (codes "drop-readable") (I32 ∷ []) [] false

-- an operation, a hyphen, and what says which future or stream it is for
abbrev pub operation_text : AsyncValue → Operation → List ℕ → List ℕ
operation_text v op which = (operation_row v op).text ++ (hyphen ∷ which)

-- `W-OPERATION-S`
abbrev pub bracketed_text : AsyncValue → Operation → List ℕ → List ℕ
bracketed_text v op which = value_text v ++ (hyphen ∷ operation_text v op which)

-- `[W-OPERATION-S]F`
abbrev pub async_value_name : AsyncValue → Operation → List ℕ → List ℕ → List ℕ
async_value_name v op which function = opening_bracket ∷ (bracketed_text v op which ++ (closing_bracket ∷ function))

abbrev pub unit_text : List ℕ
unit_text = codes "unit"

-- a future or stream without a payload
abbrev pub unit_type : AsyncValue → PayloadTypeView
unit_type Future = unit_future
unit_type Stream = unit_stream

-- F is a function, and S the number of a type in its list of futures and streams, whichever of the two it is
pub record IsListedType (r : ResolveView) (w : WorldView) (imported : Bool) (scope : Scope) (which function : List ℕ) (ty : PayloadTypeView) : Type 0 where
  pub number : ℕ
  pub definition : FunctionView
  pub id : ℕ
  pub is_number : SpellsNumber number which
  pub is_function : function_named r w imported scope function ≡ Some definition
  pub is_listed : slice_get (function_futures r definition) number ≡ Some id
  pub is_type : ty ≡ typed id definition.name

-- the future or stream of S and F: with S `unit` one without a payload, whatever F is
abbrev pub IsPayloadType : ResolveView → WorldView → Bool → Scope → AsyncValue → List ℕ → List ℕ → PayloadTypeView → Type 0
IsPayloadType r w imported scope v which function ty = ((which ≡ unit_text) × (ty ≡ unit_type v)) ⊎ IsListedType r w imported scope which function ty

-- the text of an operation on a future or stream; S has no closing bracket
pub record IsAsyncValueName (r : ResolveView) (w : WorldView) (imported : Bool) (scope : Scope) (v : AsyncValue) (op : Operation) (is_async : Bool)
    (info : PayloadView) (name : List ℕ) : Type 0 where
  pub which : List ℕ
  pub function : List ℕ
  pub which_ends : Lacks closing_bracket which
  pub is_own_name : info.name ≡ async_value_name v op which function
  pub is_name : name ≡ lowered_name is_async info.name
  pub may_be_lowered : is_async ≡ true → (operation_row v op).may_be_lowered ≡ true
  pub is_payload_type : IsPayloadType r w imported scope v which function info.ty
  pub is_key : info.key ≡ scope_key scope info.name
  pub is_interface : info.interface ≡ scope.interface
  pub is_imported : info.imported ≡ imported

-- the standard scheme has no names of built-ins of futures and streams
abbrev pub NamesAsyncValue : Scheme → ResolveView → WorldView → Bool → Scope → AsyncValue → Operation → Bool → PayloadView → List ℕ → Type 0
NamesAsyncValue standard r w imported scope v op is_async info name = ⊥
NamesAsyncValue (legacy hook) r w imported scope v op is_async info name = IsAsyncValueName r w imported scope v op is_async info name

-- a name is of an operation on a future or stream, with these S and F; S has no closing bracket
abbrev pub HasParts : List ℕ → AsyncValue → Operation → List ℕ → List ℕ → Type 0
HasParts name v op which function = (name ≡ async_value_name v op which function) × Lacks closing_bracket which

-- a name is of no operation on a future or stream
abbrev pub HasNoParts : List ℕ → Type 0
HasNoParts name =
    (v : AsyncValue) (op : Operation) (which function : List ℕ) → Lacks closing_bracket which → ¬ (name ≡ async_value_name v op which function)

-- the import of the name of a built-in of a future or stream
abbrev pub NamesAsyncImport : Scheme → ResolveView → WorldView → Bool → Scope → List ℕ → ImportView → Type 0
NamesAsyncImport s r w imported scope name i =
    (v : AsyncValue) × (op : Operation) × (is_async : Bool) × (info : PayloadView)
    × NamesAsyncValue s r w imported scope v op is_async info name × (i ≡ async_value v op is_async info)

-- the import of the name of a built-in of a future or stream, without the `[async-lower]` that is before it or isn't
abbrev pub IsOwnNameImport : ResolveView → WorldView → Bool → Scope → List ℕ → Bool → ImportView → Type 0
IsOwnNameImport r w imported scope name is_async i =
    (v : AsyncValue) × (op : Operation) × (info : PayloadView)
    × IsAsyncValueName r w imported scope v op is_async info (lowered_name is_async name) × (info.name ≡ name) × (i ≡ async_value v op is_async info)
