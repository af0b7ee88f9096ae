-- What the kinds of operators that are passed over say of their forms.
use Rattle.std.proofs.Common.{◌≡◌, ◌≢◌, ◌⊎◌, inl, inr, ℕ, ◌<◌, List, map, Bool, true, false, Option, Some, None, refl, sym, ap, arith, subst, eqb-true}
use Rattle.std.specs.Prelude.{◌==◌, if◌then◌else◌, slice_index_or}
use Rattle.std.specs.List.{range_with_len}
use Rattle.std.proofs.lemmas.List.FromFn.{get_or-map-range_with_len}
use Rattle.wc_read.specs.Operators.{byte_form, index_of}
use Rattle.wc_read.specs.References.{reference, is_segment}
use Rattle.wc_read.specs.Nesting.{byte_token}
use Rattle.wc_read.specs.PassKinds.{item_pass_kind, plain_pass_kind, form_pass_kind, pass_kind, short_size_of, short_size}
use Rattle.wc_read.specs.declared.operators.Space.{Space}
use Rattle.wc_read.specs.declared.operators.Space.TheVariants.{Types, Funcs, Tables, Memories, Globals}
use Rattle.wc_read.specs.declared.operators.IndexKind.{IndexKind}
use Rattle.wc_read.specs.declared.operators.IndexKind.TheVariants.{In, Elem, Data, Local, Label}
use Rattle.wc_read.specs.declared.operators.Form.{Form}
use Rattle.wc_read.specs.declared.operators.Form.TheVariants.{None as form_none, Block as form_block, Index as form_index, Indices as form_indices, Labels as form_labels, ValTypes as form_val_types, RefType as form_ref_type, MemArg as form_mem_arg, MemArgLane as form_mem_arg_lane, I32 as form_i32, I64 as form_i64, Bytes as form_bytes, Lane as form_lane, Zero as form_zero}
use Rattle.wc_read.specs.declared.nesting.Token.{Token}
use Rattle.wc_read.specs.declared.nesting.Token.TheVariants.{Plain, Block, If, Else, End}
use Rattle.wc_read.specs.declared.pass_kinds.PassKind.{PassKind}
use Rattle.wc_read.specs.declared.pass_kinds.PassKind.TheVariants.{Never, CodeOnly, Index, I32 as ConstI32, I64 as ConstI64, FourBytes, EightBytes, MemArg, Memory, Labels, Block as OpensBlock, If as OpensIf, Else as MeetsElse, End as MeetsEnd}

-- a table with an entry for each byte
pub by_table : (kinds : List PassKind) → kinds ≡ map pass_kind (range_with_len 0 256) → (code : ℕ) → code < 256 → (d : PassKind) → slice_index_or kinds code d ≡ pass_kind code
by_table kinds e code byte d = rw e (get_or-map-range_with_len pass_kind 0 256 code code d byte (omega arith))

pub by_sizes : (sizes : List ℕ) → sizes ≡ map short_size (range_with_len 0 256) → (code : ℕ) → code < 256 → (d : ℕ) → slice_index_or sizes code d ≡ short_size code
by_sizes sizes e code byte d = rw e (get_or-map-range_with_len short_size 0 256 code code d byte (omega arith))

-- what a size says of the kind

-- an operator's code alone, or a number besides
abbrev pub IsShortKind : ℕ → PassKind → Type 0
IsShortKind size k = ((size ≡ 1) × (CodeOnly ≡ k)) ⊎ ((size ≡ 2) × ((Index ≡ k) ⊎ ((ConstI32 ≡ k) ⊎ (ConstI64 ≡ k))))

pub is_short_kind : (k : PassKind) (size : ℕ) → size ≡ short_size_of k → size ≢ 0 → IsShortKind size k
is_short_kind Never size e some = absurd (some e)
is_short_kind CodeOnly size e some = inl (e, refl)
is_short_kind Index size e some = inr (e, inl refl)
is_short_kind ConstI32 size e some = inr (e, inr (inl refl))
is_short_kind ConstI64 size e some = inr (e, inr (inr refl))
is_short_kind FourBytes size e some = absurd (some e)
is_short_kind EightBytes size e some = absurd (some e)
is_short_kind MemArg size e some = absurd (some e)
is_short_kind Memory size e some = absurd (some e)
is_short_kind Labels size e some = absurd (some e)
is_short_kind OpensBlock size e some = absurd (some e)
is_short_kind OpensIf size e some = absurd (some e)
is_short_kind MeetsElse size e some = absurd (some e)
is_short_kind MeetsEnd size e some = absurd (some e)

-- what each kind says of the form and the token

abbrev pub IsKind : Option Form → Token → PassKind → Type 0
IsKind form t Never = Unit {0}
IsKind form t CodeOnly = (form ≡ Some form_none) × (t ≡ Plain)
IsKind form t Index = (kind : IndexKind) × (form ≡ Some (form_index kind)) × (t ≡ Plain) × ((n : ℕ) → reference (index_of kind n) ≡ None) × (is_segment kind ≡ false)
IsKind form t ConstI32 = (form ≡ Some form_i32) × (t ≡ Plain)
IsKind form t ConstI64 = (form ≡ Some form_i64) × (t ≡ Plain)
IsKind form t FourBytes = (form ≡ Some (form_bytes 4)) × (t ≡ Plain)
IsKind form t EightBytes = (form ≡ Some (form_bytes 8)) × (t ≡ Plain)
IsKind form t MemArg = (form ≡ Some form_mem_arg) × (t ≡ Plain)
IsKind form t Memory = (form ≡ Some (form_index (In Memories))) × (t ≡ Plain)
IsKind form t Labels = (form ≡ Some form_labels) × (t ≡ Plain)
IsKind form t OpensBlock = t ≡ Block
IsKind form t OpensIf = t ≡ If
IsKind form t MeetsElse = t ≡ Else
IsKind form t MeetsEnd = t ≡ End

bytes_kind : (n : ℕ) (four eight : Bool) → (n == 4) ≡ four → (n == 8) ≡ eight → IsKind (Some (form_bytes n)) Plain (if four then FourBytes else (if eight then EightBytes else Never))
bytes_kind n true eight e f = (ap (λ (k : ℕ). Some (form_bytes k)) (eqb-true n 4 e), refl)
bytes_kind n false true e f = (ap (λ (k : ℕ). Some (form_bytes k)) (eqb-true n 8 f), refl)
bytes_kind n false false e f = tt

item_is : (space : Space) → IsKind (Some (form_index (In space))) Plain (item_pass_kind space)
item_is Types = tt
item_is Funcs = tt
item_is Tables = tt
item_is Memories = (refl, refl)
item_is Globals = tt

plain_is : (form : Option Form) → IsKind form Plain (plain_pass_kind form)
plain_is None = tt
plain_is (Some form_none) = (refl, refl)
plain_is (Some form_block) = tt
plain_is (Some (form_index (In space))) = item_is space
plain_is (Some (form_index Elem)) = tt
plain_is (Some (form_index Data)) = tt
plain_is (Some (form_index Local)) = (Local, refl, refl, (λ n. refl), refl)
plain_is (Some (form_index Label)) = (Label, refl, refl, (λ n. refl), refl)
plain_is (Some (form_indices first second)) = tt
plain_is (Some form_labels) = (refl, refl)
plain_is (Some form_val_types) = tt
plain_is (Some form_ref_type) = tt
plain_is (Some form_mem_arg) = (refl, refl)
plain_is (Some form_mem_arg_lane) = tt
plain_is (Some form_i32) = (refl, refl)
plain_is (Some form_i64) = (refl, refl)
plain_is (Some (form_bytes n)) = bytes_kind n (n == 4) (n == 8) refl refl
plain_is (Some form_lane) = tt
plain_is (Some form_zero) = tt

kind_is : (form : Option Form) (t : Token) → IsKind form t (form_pass_kind form t)
kind_is form Plain = plain_is form
kind_is form Block = refl
kind_is form If = refl
kind_is form Else = refl
kind_is form End = refl

pub kind_at : (b : ℕ) (kind : PassKind) → kind ≡ pass_kind b → IsKind (byte_form b) (byte_token b) kind
kind_at b kind e = subst (λ (w : PassKind). IsKind (byte_form b) (byte_token b) w) (sym e) (kind_is (byte_form b) (byte_token b))
