-- The locals of a body that are passed over (5.5.13).
use Rattle.std.specs.Prelude.{◌≡◌, ◌≢◌, ◌==◌, ◌+◌, length, false, ℕ, ◌^◌, ◌<◌, ◌≤◌, List, [], ◌∷◌, ◌++◌, Bool, true, Some, None, Result, Ok, Err}
use Rattle.wc_read.specs.Types.{type_index, type_indices}
use Rattle.wc_read.specs.Bodies.{local_count, local_types}
use Rattle.wc_read.specs.Text.{number_text, val_type_text, vector_text, locals_text}
use Rattle.wc_read.specs.Reading.Reader.{number_at, vector_at}
use Rattle.wc_read.specs.Reading.Types.{val_type_at}
use Rattle.wc_read.specs.Reading.Bodies.{locals_at, locals_of}
use Rattle.wc_read.specs.declared.bodies.Locals.{Locals}
use Rattle.wc_read.specs.declared.types.ValType.{ValType}
use Rattle.wc_read.specs.declared.types.ValType.TheVariants.{FuncRefNonNull, ExternRefNonNull, TypeRef}
use Rattle.wc_read.specs.declared.fault.ReadFault.{ReadFault}
use Rattle.wc_read.specs.declared.fault.ReadFault.TheVariants.{Memory as memory_fault, Component as component_fault}

abbrev pub IsPlainFault : ReadFault → Type 0
IsPlainFault e = (e ≢ memory_fault) × (e ≢ component_fault)

-- whether so many bytes are as many as the text of a type that names none
abbrev pub is_plain_text : ValType → ℕ → Bool
is_plain_text (TypeRef nullable index) size = false
is_plain_text FuncRefNonNull size = size == 2
is_plain_text ExternRefNonNull size = size == 2
is_plain_text ty size = size == 1

-- the bytes before others are more than so many, where they are not a text
abbrev pub AreMoreIfNot : Bool → ℕ → List ℕ → List ℕ → Type 0
AreMoreIfNot is_text size old new = is_text ≡ false → size + length new < length old

-- a number is read, and whether its text was: else more bytes than that
abbrev pub ReadsNumber : Result (ℕ × Bool) ReadFault → List ℕ → List ℕ → Type 0
ReadsNumber (Ok r) old new =
    (number_at 32 old ≡ Some (r.0, new)) × (r.1 ≡ true → old ≡ number_text r.0 ++ new) × AreMoreIfNot r.1 (length (number_text r.0)) old new
ReadsNumber (Err e) old new = (number_at 32 old ≡ None) × IsPlainFault e

-- a byte that is a value type by itself
pub record IsPlainValType (byte : ℕ) : Type 0 where
  pub ty : ValType
  pub names_none : type_index ty ≡ None
  pub text : val_type_text ty ≡ byte ∷ []
  pub reads : (left : List ℕ) → val_type_at (byte ∷ left) ≡ Some (ty, left)

-- a run of locals is read whose count is one byte, and its type is another one
abbrev pub IsShortRun : List ℕ → List ℕ → Type 0
IsShortRun old new = (count byte : ℕ) × (old ≡ count ∷ byte ∷ new) × (count < 128) × IsPlainValType byte

-- a run of so many locals is read, and whether its text was, and its type names none
abbrev pub ReadsLocals : Result (ℕ × Bool) ReadFault → List ℕ → List ℕ → Type 0
ReadsLocals (Ok r) old new =
    (ty : ValType) × (locals_at old ≡ Some (locals_of r.0 ty, new))
    × (r.1 ≡ true → (old ≡ locals_text (locals_of r.0 ty) ++ new) × (type_index ty ≡ None))
    × (type_index ty ≡ None → AreMoreIfNot r.1 (length (locals_text (locals_of r.0 ty))) old new)
ReadsLocals (Err e) old new = (locals_at old ≡ None) × IsPlainFault e

-- less than 2 ^ 32 locals are read, and whether their text was, and their types name none; or no locals are read
abbrev pub PassesLocals : Result Bool ReadFault → List ℕ → List ℕ → Type 0
PassesLocals (Ok is_text) old new =
    (runs : List Locals) × (vector_at locals_at old ≡ Some (runs, new)) × (local_count runs < 2 ^ 32)
    × (is_text ≡ true → (old ≡ vector_text locals_text runs ++ new) × (type_indices (local_types runs) ≡ []))
    × (is_text ≡ false → type_indices (local_types runs) ≡ [] → old ≢ vector_text locals_text runs ++ new)
PassesLocals (Err e) old new = ((runs : List Locals) (rest : List ℕ) → vector_at locals_at old ≡ Some (runs, rest) → 2 ^ 32 ≤ local_count runs) × IsPlainFault e
