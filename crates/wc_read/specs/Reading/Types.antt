-- Value types, types of globals, and functions without parameters and results (5.3.1 to 5.3.4 and 5.3.10).
use Rattle.std.specs.Prelude.{ℕ, ℤ, pos, negsuc, ◌==◌, if◌then◌else◌, Option, Some, None, Bool, true, false, length, ◌&&◌}
use Rattle.std.specs.List.{list_all}
use Rattle.wc_read.specs.Options.{◌>>=◌}
use Rattle.wc_read.specs.Types.{FuncTypeValue, func_ref, extern_ref, has_type_index}
use Rattle.wc_read.specs.Reading.Reader.{Read, as_made, byte_at, coded_at}
use Rattle.wc_read.specs.Reading.Signed.{signed_at}
use Rattle.wc_read.specs.declared.types.ValType.{ValType}
use Rattle.wc_read.specs.declared.types.ValType.TheVariants.{I32, I64, F32, F64, V128, FuncRef, ExternRef, TypeRef}
use Rattle.wc_read.specs.declared.types.GlobalType.{GlobalType}

abbrev pub val_type_of : ℕ → Option ValType
val_type_of b =
    if b == 0x7f then Some I32 else if b == 0x7e then Some I64 else if b == 0x7d then Some F32 else if b == 0x7c then Some F64
    else if b == 0x7b then Some V128 else if b == 0x70 then Some FuncRef else if b == 0x6f then Some ExternRef else None

-- the index of a type
abbrev pub natural : ℤ → Option ℕ
natural (pos n) = Some n
natural (negsuc m) = None

unfoldable pub type_index_at : Read ℕ
type_index_at bytes = signed_at 33 bytes >>= λ z. natural z.0 >>= λ n. Some (n, z.1)

abbrev pub type_ref : Bool → ℕ → ValType
type_ref nullable index = TypeRef nullable index

-- what references refer to, by its first byte
abbrev pub reference_after : Bool → ℕ → Read ValType
reference_after nullable b bytes =
    if b == 0x70 then byte_at bytes >>= as_made (λ _. func_ref nullable)
    else if b == 0x6f then byte_at bytes >>= as_made (λ _. extern_ref nullable)
    else type_index_at bytes >>= as_made (type_ref nullable)

unfoldable pub reference_at : Bool → Read ValType
reference_at nullable bytes = do
  b ← byte_at bytes
  reference_after nullable b.0 bytes

-- a value type, after its first byte
abbrev pub val_type_after : ℕ → Read ValType
val_type_after b bytes =
    if b == 0x63 then reference_at true bytes
    else if b == 0x64 then reference_at false bytes else val_type_of b >>= λ t. Some (t, bytes)

unfoldable pub val_type_at : Read ValType
val_type_at bytes = do
  b ← byte_at bytes
  val_type_after b.0 b.1

abbrev pub mutable_of : ℕ → Option Bool
mutable_of b = if b == 0 then Some false else if b == 1 then Some true else None

unfoldable pub mutable_at : Read Bool
mutable_at bytes = coded_at mutable_of bytes

unfoldable pub global_at : Read GlobalType
global_at bytes = do
  content ← val_type_at bytes
  mutable ← mutable_at content.1
  Some (record { content_type = content.0; mutable = mutable.0 }, mutable.1)

-- whether each index of a type in a function type is below a number
abbrev pub have_type_indices : ℕ → FuncTypeValue → Bool
have_type_indices types f = list_all (has_type_index types) f.params && list_all (has_type_index types) f.results

-- whether nothing is taken and nothing given
abbrev pub is_nullary : FuncTypeValue → Bool
is_nullary f = length f.params == 0 && length f.results == 0
