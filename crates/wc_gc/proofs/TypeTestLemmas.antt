-- What tests of types answer under new indices of types; and types that are added, which name none.
use Rattle.std.proofs.Common.{◌≡◌, ℕ, List, [], ◌∷◌, ◌++◌, length, map, refl, ◌∙◌, ap, Bool, true, false, ◌&&◌}
use Rattle.std.specs.Prelude.{◌==◌}
use Rattle.std.specs.List.{list_all}
use Rattle.std.proofs.lemmas.List.{length-map}
use Rattle.wc_read.specs.Renumbering.{Renumbering, renumber_func_type, renumber_global_type, renumber_val_type}
use Rattle.wc_read.specs.Types.{FuncTypeValue}
use Rattle.wc_read.specs.declared.types.GlobalType.{GlobalType}
use Rattle.wc_read.specs.declared.types.ValType.{ValType}
use Rattle.wc_read.specs.declared.types.ValType.TheVariants.{I32, I64, F32, F64, V128, FuncRef, ExternRef, FuncRefNonNull, ExternRefNonNull, TypeRef}
use Rattle.wc_gc.specs.AddedCode.{empty_type, realloc_type}
use Rattle.wc_gc.specs.Edit.{added_types, only_if, types_added}
use Rattle.wc_gc.specs.Found.{FoundView, are_i32, is_empty, is_empty_type, is_i32, is_mutable_i32, is_realloc_type}
use Rattle.wc_gc.specs.declared.parts.Parts.{Parts}

module _ (new : Renumbering) where
  i32_under : (t : ValType) → is_i32 (renumber_val_type new t) ≡ is_i32 t
  i32_under I32 = refl
  i32_under I64 = refl
  i32_under F32 = refl
  i32_under F64 = refl
  i32_under V128 = refl
  i32_under FuncRef = refl
  i32_under ExternRef = refl
  i32_under FuncRefNonNull = refl
  i32_under ExternRefNonNull = refl
  i32_under (TypeRef nullable index) = refl

  all_under : (ts : List ValType) → list_all is_i32 (map (renumber_val_type new) ts) ≡ list_all is_i32 ts
  all_under [] = refl
  all_under (t ∷ ts) =
      ap (λ b. b && list_all is_i32 (map (renumber_val_type new) ts)) (i32_under t) ∙ ap (λ b. is_i32 t && b) (all_under ts)

  are_under : (n : ℕ) (ts : List ValType) → are_i32 n (map (renumber_val_type new) ts) ≡ are_i32 n ts
  are_under n ts =
      ap (λ (k : ℕ). k == n && list_all is_i32 (map (renumber_val_type new) ts)) (length-map ts (renumber_val_type new))
      ∙ ap (λ b. length ts == n && b) (all_under ts)

  pub realloc_type_under : (t : FuncTypeValue) → is_realloc_type (renumber_func_type new t) ≡ is_realloc_type t
  realloc_type_under t =
      ap (λ b. b && are_i32 1 (map (renumber_val_type new) t.results)) (are_under 4 t.params)
      ∙ ap (λ b. are_i32 4 t.params && b) (are_under 1 t.results)

  empty_under : (ts : List ValType) → is_empty (map (renumber_val_type new) ts) ≡ is_empty ts
  empty_under ts = ap (λ (k : ℕ). k == 0) (length-map ts (renumber_val_type new))

  pub empty_type_under : (t : FuncTypeValue) → is_empty_type (renumber_func_type new t) ≡ is_empty_type t
  empty_type_under t =
      ap (λ b. b && is_empty (map (renumber_val_type new) t.results)) (empty_under t.params)
      ∙ ap (λ b. is_empty t.params && b) (empty_under t.results)

  pub mutable_under : (g : GlobalType) → is_mutable_i32 (renumber_global_type new g) ≡ is_mutable_i32 g
  mutable_under g = ap (λ b. g.mutable && b) (i32_under g.content_type)

  -- types that are added

  only_stays : (b : Bool) (t : FuncTypeValue) (ts : List FuncTypeValue) → renumber_func_type new t ≡ t → map (renumber_func_type new) ts ≡ ts
      → map (renumber_func_type new) (only_if b t ++ ts) ≡ only_if b t ++ ts
  only_stays true t ts e h = ap (λ u. u ∷ map (renumber_func_type new) ts) e ∙ ap (λ us. t ∷ us) h
  only_stays false t ts e h = h

  last_stays : (b : Bool) → map (renumber_func_type new) (only_if b empty_type) ≡ only_if b empty_type
  last_stays true = refl
  last_stays false = refl

  types_stay : (p : Parts) (no_empty : Bool) → map (renumber_func_type new) (types_added p no_empty) ≡ types_added p no_empty
  types_stay p no_empty =
      only_stays p.import_realloc realloc_type _ refl
      (only_stays p.lazy empty_type _ refl (only_stays p.growing realloc_type _ refl (last_stays (p.start && no_empty))))

  pub added_types_stay : (p : Parts) (f : FoundView) → map (renumber_func_type new) (added_types p f) ≡ added_types p f
  added_types_stay p f = types_stay p (is_empty f.empties)
