-- The types that kept types, tables and globals name are types of the image.
use Rattle.std.proofs.Common.{◌≡◌, ℕ, ◌<◌, List, [], ◌∷◌, map, refl, ap, Option, Some, None, ltb-true}
use Rattle.std.specs.Prelude.{All}
use Rattle.std.specs.List.{AllByRecursion, cons_option, slice_get}
use Rattle.std.specs.Option.{option_map_or}
use Rattle.std.proofs.lemmas.Bool.{lt-ltb}
use Rattle.std.proofs.lemmas.List.Elements.{All-from_recursion, recursion_from_All}
use Rattle.wc_read.specs.Items.{TableValue}
use Rattle.wc_read.specs.Modules.{ModuleValue}
use Rattle.wc_read.specs.Renumbering.{Renumbering, renumber_func_type, renumber_val_type}
use Rattle.wc_read.specs.Types.{FuncTypeValue, HasTypeIndex, HaveTypeIndices, type_index, type_indices}
use Rattle.wc_read.specs.declared.operators.Space.TheVariants.{Types, Tables}
use Rattle.wc_read.specs.declared.types.ValType.{ValType}
use Rattle.wc_read.specs.declared.types.ValType.TheVariants.{I32, I64, F32, F64, V128, FuncRef, ExternRef, FuncRefNonNull, ExternRefNonNull, TypeRef}
use Rattle.wc_read.specs.Decoded.{ItemIndex, decode}
use Rattle.wc_read.specs.Entries.{entry_at, func_type_refs, no_entry, table_entry, type_entry, type_items, val_type_refs}
use Rattle.wc_gc.proofs.InitTypeLemmas.{all-left, all-right}

pub type_at : (m : ModuleValue) (n : ℕ) (t : FuncTypeValue) → slice_get m.types n ≡ Some t → entry_at (decode m) (Types, n) ≡ type_entry t
type_at m n t e = ap (λ o. option_map_or type_entry o no_entry) e

pub table_at : (m : ModuleValue) (n : ℕ) (t : TableValue) → slice_get m.tables n ≡ Some t → entry_at (decode m) (Tables, n) ≡ table_entry t
table_at m n t e = ap (λ o. option_map_or table_entry o no_entry) e

-- types that are named, of so many, are under new indices of so many others, where each that may be named is

module _ (may : ItemIndex → Type 0) (new : Renumbering) (old count : ℕ) (there : (n : ℕ) → n < old → may (Types, n) → new Types n < count) where
  pub val_type_names : (t : ValType) → HasTypeIndex old t → AllByRecursion may (val_type_refs (t ∷ [])) → HasTypeIndex count (renumber_val_type new t)
  val_type_names I32 h k = refl
  val_type_names I64 h k = refl
  val_type_names F32 h k = refl
  val_type_names F64 h k = refl
  val_type_names V128 h k = refl
  val_type_names FuncRef h k = refl
  val_type_names ExternRef h k = refl
  val_type_names FuncRefNonNull h k = refl
  val_type_names ExternRefNonNull h k = refl
  val_type_names (TypeRef nullable n) h k = lt-ltb (new Types n) count (there n (ltb-true n old h) k.0)

  first_and_rest : (o : Option ℕ) (ns : List ℕ) → AllByRecursion may (type_items (cons_option o ns))
      → AllByRecursion may (type_items (cons_option o [])) × AllByRecursion may (type_items ns)
  first_and_rest None ns k = (tt, k)
  first_and_rest (Some n) ns k = ((k.0, tt), k.1)

  val_types_name : (ts : List ValType) → AllByRecursion (HasTypeIndex old) ts → AllByRecursion may (val_type_refs ts)
      → AllByRecursion (HasTypeIndex count) (map (renumber_val_type new) ts)
  val_types_name [] h k = tt
  val_types_name (t ∷ ts) h k =
      let split = first_and_rest (type_index t) (type_indices ts) k in
      (val_type_names t h.0 split.0, val_types_name ts h.1 split.1)

  all_name : (ts : List ValType) → All (HasTypeIndex old) ts → AllByRecursion may (val_type_refs ts)
      → All (HasTypeIndex count) (map (renumber_val_type new) ts)
  all_name ts h k =
      All-from_recursion (HasTypeIndex count) (map (renumber_val_type new) ts) (val_types_name ts (recursion_from_All (HasTypeIndex old) ts h) k)

  pub func_type_names : (f : FuncTypeValue) → HaveTypeIndices old f → AllByRecursion may (func_type_refs f)
      → HaveTypeIndices count (renumber_func_type new f)
  func_type_names f h k = (
    all_name f.params h.0 (all-left may (val_type_refs f.params) (val_type_refs f.results) k),
    all_name f.results h.1 (all-right may (val_type_refs f.params) (val_type_refs f.results) k),
  )
