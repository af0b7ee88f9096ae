-- Types that are the same but for indices: where one names no type, they are the same.
use Rattle.std.proofs.Common.{◌≡◌, false, List, [], ◌∷◌, map, refl, sym, ap, subst, ◌∙◌, None}
use Rattle.std.specs.List.{list_any}
use Rattle.std.proofs.lemmas.Bool.{or_parts}
use Rattle.wc_maps.proofs.OptionLemmas.{none_of_false}
use Rattle.wc_read.specs.declared.types.MemoryType.{MemoryType}
use Rattle.wc_read.specs.declared.types.TableType.{TableType}
use Rattle.wc_read.specs.declared.types.ValType.{ValType}
use Rattle.wc_read.specs.declared.types.ValType.TheVariants.{TypeRef}
use Rattle.wc_read.specs.Renumbering.{Renumbering, renumber_func_type, renumber_val_type}
use Rattle.wc_read.specs.Types.{FuncTypeValue, names_type, names_types, type_index}
use Rattle.wc_names.specs.SameButIndices.{AreSameButIndices, no_indices, without_indices}
use Rattle.wc_names.specs.Imports.{ExternType, extern_kind, func_type, global_type, memory_type, table_type}

-- a value type that names no type has no index to change
plain_stays : (new : Renumbering) (t : ValType) → type_index t ≡ None → renumber_val_type new t ≡ t
plain_stays new (TypeRef nullable index) h = absurd (let bad : ⊥ = cc h in bad)
plain_stays new t h = refl

plain_before : (new : Renumbering) (t : ValType) → type_index (renumber_val_type new t) ≡ None → type_index t ≡ None
plain_before new (TypeRef nullable index) h = absurd (let bad : ⊥ = cc h in bad)
plain_before new t h = h

pub val_types_same : (t u : ValType) → renumber_val_type no_indices t ≡ renumber_val_type no_indices u → type_index t ≡ None → t ≡ u
val_types_same t u but_indices plain =
    let own = plain_stays no_indices t plain in
    let other : type_index u ≡ None = plain_before no_indices u (ap type_index (sym but_indices) ∙ (ap type_index own ∙ plain)) in
    sym own ∙ (but_indices ∙ plain_stays no_indices u other)

lists_same : (ts us : List ValType) → map (renumber_val_type no_indices) ts ≡ map (renumber_val_type no_indices) us → list_any names_type ts ≡ false → ts ≡ us
lists_same [] [] but_indices plain = refl
lists_same [] (u ∷ us) but_indices plain = absurd (let bad : ⊥ = cc but_indices in bad)
lists_same (t ∷ ts) [] but_indices plain = absurd (let bad : ⊥ = cc but_indices in bad)
lists_same (t ∷ ts) (u ∷ us) but_indices plain =
    let first : renumber_val_type no_indices t ≡ renumber_val_type no_indices u = cc but_indices in
    let rest : map (renumber_val_type no_indices) ts ≡ map (renumber_val_type no_indices) us = cc but_indices in
    let both = or_parts (names_type t) (list_any names_type ts) plain in
    λ k. val_types_same t u first (none_of_false (type_index t) both.0) k ∷ lists_same ts us rest both.1 k

pub func_types_same : (t u : FuncTypeValue) → renumber_func_type no_indices t ≡ renumber_func_type no_indices u → names_types t ≡ false → t ≡ u
func_types_same t u but_indices plain =
    let both = or_parts (list_any names_type t.params) (list_any names_type t.results) plain in
    let params = lists_same t.params u.params (ap (λ (f : FuncTypeValue). f.params) but_indices) both.0 in
    let results = lists_same t.results u.results (ap (λ (f : FuncTypeValue). f.results) but_indices) both.1 in
    λ k. record { params = params k; results = results k }

-- types that are the same but for indices are of one kind

pub kind_without : (t : ExternType) → extern_kind (without_indices t) ≡ extern_kind t
kind_without (func_type t) = refl
kind_without (table_type t) = refl
kind_without (memory_type t) = refl
kind_without (global_type t) = refl

pub same_kinds : (t u : ExternType) → AreSameButIndices t u → extern_kind t ≡ extern_kind u
same_kinds t u but_indices = sym (kind_without t) ∙ (ap extern_kind but_indices ∙ kind_without u)

abbrev pub IsSameFunctionButIndices : FuncTypeValue → ExternType → Type 0
IsSameFunctionButIndices t u = (w : FuncTypeValue) × (u ≡ func_type w) × (renumber_func_type no_indices t ≡ renumber_func_type no_indices w)

same_function : (t : FuncTypeValue) (u : ExternType) → AreSameButIndices (func_type t) u → IsSameFunctionButIndices t u
same_function t (func_type w) but_indices = (w, refl, (let inner : renumber_func_type no_indices t ≡ renumber_func_type no_indices w = cc but_indices in inner))
same_function t (table_type w) but_indices = absurd (let bad : ⊥ = cc but_indices in bad)
same_function t (memory_type w) but_indices = absurd (let bad : ⊥ = cc but_indices in bad)
same_function t (global_type w) but_indices = absurd (let bad : ⊥ = cc but_indices in bad)

pub of_same_function : (t u : ExternType) (f : FuncTypeValue) → AreSameButIndices t u → t ≡ func_type f → IsSameFunctionButIndices f u
of_same_function t u f but_indices is = same_function f u (subst (λ z. AreSameButIndices z u) is but_indices)

same_memory_type : (t : MemoryType) (u : ExternType) → AreSameButIndices (memory_type t) u → u ≡ memory_type t
same_memory_type t (func_type w) but_indices = absurd (let bad : ⊥ = cc but_indices in bad)
same_memory_type t (table_type w) but_indices = absurd (let bad : ⊥ = cc but_indices in bad)
same_memory_type t (memory_type w) but_indices = sym but_indices
same_memory_type t (global_type w) but_indices = absurd (let bad : ⊥ = cc but_indices in bad)

pub of_same_memory : (t u : ExternType) (m : MemoryType) → AreSameButIndices t u → t ≡ memory_type m → u ≡ memory_type m
of_same_memory t u m but_indices is = same_memory_type m u (subst (λ z. AreSameButIndices z u) is but_indices)

same_table : (t : TableType) (u : ExternType) → AreSameButIndices (table_type t) u → (w : TableType) × (u ≡ table_type w)
same_table t (func_type w) but_indices = absurd (let bad : ⊥ = cc but_indices in bad)
same_table t (table_type w) but_indices = (w, refl)
same_table t (memory_type w) but_indices = absurd (let bad : ⊥ = cc but_indices in bad)
same_table t (global_type w) but_indices = absurd (let bad : ⊥ = cc but_indices in bad)

pub of_same_table : (t u : ExternType) (m : TableType) → AreSameButIndices t u → t ≡ table_type m → (w : TableType) × (u ≡ table_type w)
of_same_table t u m but_indices is = same_table m u (subst (λ z. AreSameButIndices z u) is but_indices)

-- a function's type that names no types
pub of_same_fixed : (t u : ExternType) (f : FuncTypeValue) → AreSameButIndices t u → t ≡ func_type f → names_types f ≡ false → u ≡ func_type f
of_same_fixed t u f but_indices is plain = let of = of_same_function t u f but_indices is in of.1 ∙ ap func_type (sym (func_types_same f of.0 of.2 plain))
