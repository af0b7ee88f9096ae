-- What operators name under new indices.
use Rattle.std.proofs.Common.{◌≡◌, ℕ, List, [], ◌∷◌, map, refl, ◌∙◌, ap, Option, Some, None}
use Rattle.std.specs.List.{cons_option}
use Rattle.std.specs.Option.{option_map}
use Rattle.wc_read.specs.Types.{type_index, type_indices}
use Rattle.wc_read.specs.Operators.{ImmediatesValue, WithNone, WithBlock, WithIndex, WithIndices, WithLabels, WithValTypes, WithRefType, WithMemArg, WithMemArgLane, WithI32, WithI64, WithBytes, WithLane}
use Rattle.wc_read.specs.References.{in_space, reference, one_ref, two_refs, refs_of, type_reference, type_refs_of, names_segment}
use Rattle.wc_read.specs.Renumbering.{Renumbering, renumber, renumber_immediates, renumber_item, renumber_refs, renumber_val_type}
use Rattle.wc_read.specs.declared.types.ValType.{ValType}
use Rattle.wc_read.specs.declared.types.ValType.TheVariants.{I32, I64, F32, F64, V128, FuncRef, ExternRef, FuncRefNonNull, ExternRefNonNull, TypeRef}
use Rattle.wc_read.specs.declared.operators.Space.{Space}
use Rattle.wc_read.specs.declared.operators.Space.TheVariants.{Types}
use Rattle.wc_read.specs.declared.operators.IndexKind.{IndexKind}
use Rattle.wc_read.specs.declared.operators.IndexKind.TheVariants.{In, Elem, Data, Local, Label}
use Rattle.wc_read.specs.declared.operators.BlockType.TheVariants.{Empty, Value, FuncType}

in_space_under : (new : Renumbering) (kind : IndexKind) (n : ℕ) → in_space kind (renumber new kind n) ≡ option_map (renumber_item new) (in_space kind n)
in_space_under new (In space) n = refl
in_space_under new Elem n = refl
in_space_under new Data n = refl
in_space_under new Local n = refl
in_space_under new Label n = refl

two_under : (new : Renumbering) (a b : Option (Space × ℕ)) → two_refs (option_map (renumber_item new) a) (option_map (renumber_item new) b) ≡ renumber_refs new (two_refs a b)
two_under new None b = refl
two_under new (Some x) b = refl

-- what a value type names under new indices
type_under : (new : Renumbering) (t : ValType) → type_index (renumber_val_type new t) ≡ option_map (new Types) (type_index t)
type_under new I32 = refl
type_under new I64 = refl
type_under new F32 = refl
type_under new F64 = refl
type_under new V128 = refl
type_under new FuncRef = refl
type_under new ExternRef = refl
type_under new FuncRefNonNull = refl
type_under new ExternRefNonNull = refl
type_under new (TypeRef nullable index) = refl

type_item : (new : Renumbering) (o : Option ℕ) → option_map (λ n. (Types, n)) (option_map (new Types) o) ≡ option_map (renumber_item new) (option_map (λ n. (Types, n)) o)
type_item new None = refl
type_item new (Some n) = refl

type_reference_under : (new : Renumbering) (t : ValType) → type_reference (renumber_val_type new t) ≡ option_map (renumber_item new) (type_reference t)
type_reference_under new t = ap (option_map (λ n. (Types, n))) (type_under new t) ∙ type_item new (type_index t)

pub refs_under : (new : Renumbering) (v : ImmediatesValue) → refs_of (renumber_immediates new v) ≡ renumber_refs new (refs_of v)
refs_under new WithNone = refl
refs_under new (WithBlock Empty) = refl
refs_under new (WithBlock (Value t)) = ap one_ref (type_reference_under new t)
refs_under new (WithBlock (FuncType n)) = refl
refs_under new (WithIndex i) = ap one_ref (in_space_under new i.kind i.number)
refs_under new (WithIndices i j) =
    ap (λ o. two_refs o (in_space j.kind (renumber new j.kind j.number))) (in_space_under new i.kind i.number)
    ∙ (ap (two_refs (option_map (renumber_item new) (reference i))) (in_space_under new j.kind j.number)
    ∙ two_under new (reference i) (reference j))
refs_under new (WithLabels ls d) = refl
refs_under new (WithValTypes ts) = refl
refs_under new (WithRefType t) = ap one_ref (type_reference_under new t)
refs_under new (WithMemArg m) = refl
refs_under new (WithMemArgLane m lane) = refl
refs_under new (WithI32 n) = refl
refs_under new (WithI64 n) = refl
refs_under new (WithBytes bytes) = refl
refs_under new (WithLane lane) = refl

indices_step : (new : Renumbering) (o : Option ℕ) (ns ms : List ℕ) → ms ≡ map (new Types) ns → cons_option (option_map (new Types) o) ms ≡ map (new Types) (cons_option o ns)
indices_step new None ns ms e = e
indices_step new (Some n) ns ms e = ap (λ (r : List ℕ). new Types n ∷ r) e

pub type_indices_under : (new : Renumbering) (ts : List ValType) → type_indices (map (renumber_val_type new) ts) ≡ map (new Types) (type_indices ts)
type_indices_under new [] = refl
type_indices_under new (t ∷ ts) =
    ap (λ o. cons_option o (type_indices (map (renumber_val_type new) ts))) (type_under new t)
    ∙ indices_step new (type_index t) (type_indices ts) (type_indices (map (renumber_val_type new) ts)) (type_indices_under new ts)

pub type_refs_under : (new : Renumbering) (v : ImmediatesValue) → type_refs_of (renumber_immediates new v) ≡ map (new Types) (type_refs_of v)
type_refs_under new WithNone = refl
type_refs_under new (WithBlock t) = refl
type_refs_under new (WithIndex i) = refl
type_refs_under new (WithIndices i j) = refl
type_refs_under new (WithLabels ls d) = refl
type_refs_under new (WithValTypes ts) = type_indices_under new ts
type_refs_under new (WithRefType t) = refl
type_refs_under new (WithMemArg m) = refl
type_refs_under new (WithMemArgLane m lane) = refl
type_refs_under new (WithI32 n) = refl
type_refs_under new (WithI64 n) = refl
type_refs_under new (WithBytes bytes) = refl
type_refs_under new (WithLane lane) = refl

pub segments_under : (new : Renumbering) (v : ImmediatesValue) → names_segment (renumber_immediates new v) ≡ names_segment v
segments_under new WithNone = refl
segments_under new (WithBlock t) = refl
segments_under new (WithIndex i) = refl
segments_under new (WithIndices i j) = refl
segments_under new (WithLabels ls d) = refl
segments_under new (WithValTypes ts) = refl
segments_under new (WithRefType t) = refl
segments_under new (WithMemArg m) = refl
segments_under new (WithMemArgLane m lane) = refl
segments_under new (WithI32 n) = refl
segments_under new (WithI64 n) = refl
segments_under new (WithBytes bytes) = refl
segments_under new (WithLane lane) = refl
