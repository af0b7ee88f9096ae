-- Code that can be spelled can be under new indices.
use Rattle.std.proofs.Common.{◌≡◌, ℕ, ◌+◌, ◌<◌, ◌^◌, List, [], ◌∷◌, ◌++◌, map, sym, ◌∙◌, ap, subst, Bool, refl, arith}
use Rattle.std.specs.Prelude.{All}
use Rattle.std.proofs.lemmas.List.Elements.{All-map, All-weaker}
use Rattle.wc_read.specs.Operators.{ImmediatesValue, InstrValue}
use Rattle.wc_read.specs.Nesting.{tokens, instr_token, IsExpression}
use Rattle.wc_read.specs.Bodies.{BodyValue, local_count}
use Rattle.wc_read.specs.Inits.{AreConstant, end_value}
use Rattle.wc_read.specs.Renumbering.{Renumbering, renumber, renumber_block, renumber_func_type, renumber_immediates, renumber_instr, renumber_mem_arg, renumber_table_type, renumber_val_type}
use Rattle.wc_read.specs.Types.{FuncTypeValue, is_reference}
use Rattle.wc_read.specs.declared.bodies.Locals.{Locals}
use Rattle.wc_read.specs.declared.types.TableType.{TableType}
use Rattle.wc_read.specs.declared.operators.Space.TheVariants.{Types, Memories}
use Rattle.wc_read.specs.declared.operators.IndexKind.{IndexKind}
use Rattle.wc_read.specs.declared.operators.IndexKind.TheVariants.{In, Elem, Data, Local, Label}
use Rattle.wc_read.specs.declared.operators.BlockType.{BlockType}
use Rattle.wc_read.specs.declared.operators.BlockType.TheVariants.{Empty, Value, FuncType}
use Rattle.wc_read.specs.declared.operators.Form.{Form}
use Rattle.wc_read.specs.declared.operators.Form.TheVariants.{None as form_none, Block as form_block, Index as form_index, Indices as form_indices, Labels as form_labels, ValTypes as form_val_types, RefType as form_ref_type, MemArg as form_mem_arg, MemArgLane as form_mem_arg_lane, I32 as form_i32, I64 as form_i64, Bytes as form_bytes, Lane as form_lane, Zero as form_zero}
use Rattle.wc_read.specs.declared.types.ValType.{ValType}
use Rattle.wc_read.specs.declared.types.ValType.TheVariants.{I32, I64, F32, F64, V128, FuncRef, ExternRef, FuncRefNonNull, ExternRefNonNull, TypeRef}
use Rattle.wc_write.specs.Values.{HasForm, IsBlockType, IsInstr, IsBody, IsFuncType, IsNullType, IsTable, IsValType}
use Rattle.wc_write.specs.BuiltValues.{IsInitialiser}
use Rattle.wc_read.specs.Decoded.{ItemIndex}
use Rattle.wc_gc.specs.Image.{rank, renumber_body, renumber_code, renumber_locals}
use Rattle.wc_gc.specs.Laws.{KeepsBits}
use Rattle.wc_gc.proofs.RankLemmas.{bounded_below}

-- ranks are no larger than indices
pub ranks_keep : (kept : ItemIndex → Bool) → KeepsBits (rank kept)
ranks_keep kept space n h = let bounded = bounded_below (λ k. kept (space, k)) n in omega arith

-- what is a reference stays one
reference_stays : (new : Renumbering) (t : ValType) → is_reference (renumber_val_type new t) ≡ is_reference t
reference_stays new I32 = refl
reference_stays new I64 = refl
reference_stays new F32 = refl
reference_stays new F64 = refl
reference_stays new V128 = refl
reference_stays new FuncRef = refl
reference_stays new ExternRef = refl
reference_stays new FuncRefNonNull = refl
reference_stays new ExternRefNonNull = refl
reference_stays new (TypeRef nullable index) = refl

-- locals are as many
count_stays : (new : Renumbering) (ls : List Locals) → local_count (map (renumber_locals new) ls) ≡ local_count ls
count_stays new [] = refl
count_stays new (l ∷ ls) = ap (λ n. l.count + n) (count_stays new ls)

module _ (new : Renumbering) (keeps : KeepsBits new) where
  index_fits : (kind : IndexKind) (n : ℕ) → n < 2 ^ 32 → renumber new kind n < 2 ^ 32
  index_fits (In space) n h = keeps space n h
  index_fits Elem n h = h
  index_fits Data n h = h
  index_fits Local n h = h
  index_fits Label n h = h

  pub val_type_fits : (t : ValType) → IsValType t → IsValType (renumber_val_type new t)
  val_type_fits I32 h = h
  val_type_fits I64 h = h
  val_type_fits F32 h = h
  val_type_fits F64 h = h
  val_type_fits V128 h = h
  val_type_fits FuncRef h = h
  val_type_fits ExternRef h = h
  val_type_fits FuncRefNonNull h = h
  val_type_fits ExternRefNonNull h = h
  val_type_fits (TypeRef nullable index) h = keeps Types index h

  val_types_fit : (ts : List ValType) → All IsValType ts → All IsValType (map (renumber_val_type new) ts)
  val_types_fit ts h = All-map IsValType (renumber_val_type new) ts (All-weaker IsValType (λ t. IsValType (renumber_val_type new t)) val_type_fits ts h)

  pub func_type_fits : (f : FuncTypeValue) → IsFuncType f → IsFuncType (renumber_func_type new f)
  func_type_fits f h = (val_types_fit f.params h.0, val_types_fit f.results h.1)

  pub table_type_fits : (t : TableType) → IsTable t → IsTable (renumber_table_type new t)
  table_type_fits t h = record {
    element_fits = val_type_fits t.element_type h.element_fits;
    element_is_reference = reference_stays new t.element_type ∙ h.element_is_reference;
    bounds = h.bounds;
    ordered = h.ordered;
  }

  locals_fit : (ls : List Locals) → All (λ l. IsValType l.ty) ls → All (λ l. IsValType l.ty) (map (renumber_locals new) ls)
  locals_fit ls h =
      All-map (λ (l : Locals). IsValType l.ty) (renumber_locals new) ls
      (All-weaker (λ (l : Locals). IsValType l.ty) (λ (l : Locals). IsValType (renumber_val_type new l.ty)) (λ l h. val_type_fits l.ty h) ls h)

  null_type_fits : (t : ValType) → IsNullType t → IsNullType (renumber_val_type new t)
  null_type_fits I32 h = h
  null_type_fits I64 h = h
  null_type_fits F32 h = h
  null_type_fits F64 h = h
  null_type_fits V128 h = h
  null_type_fits FuncRef h = h
  null_type_fits ExternRef h = h
  null_type_fits FuncRefNonNull h = h
  null_type_fits ExternRefNonNull h = h
  null_type_fits (TypeRef nullable index) h = (h.0, val_type_fits (TypeRef nullable index) h.1)

  block_fits : (t : BlockType) → IsBlockType t → IsBlockType (renumber_block new t)
  block_fits Empty h = h
  block_fits (Value t) h = val_type_fits t h
  block_fits (FuncType n) h = keeps Types n h

  form_stays : (form : Form) (v : ImmediatesValue) → HasForm form v → HasForm form (renumber_immediates new v)
  form_stays form_none v h = ap (renumber_immediates new) h
  form_stays form_block v h = (renumber_block new h.0, ap (renumber_immediates new) h.1, block_fits h.0 h.2)
  form_stays (form_index kind) v h = (renumber new kind h.0, ap (renumber_immediates new) h.1, index_fits kind h.0 h.2)
  form_stays (form_indices a b) v h = (renumber new a h.0, renumber new b h.1, ap (renumber_immediates new) h.2, index_fits a h.0 h.3, index_fits b h.1 h.4)
  form_stays form_labels v h = (h.0, h.1, ap (renumber_immediates new) h.2, h.3, h.4)
  form_stays form_val_types v h = (map (renumber_val_type new) h.0, ap (renumber_immediates new) h.1, val_types_fit h.0 h.2)
  form_stays form_ref_type v h = (renumber_val_type new h.0, ap (renumber_immediates new) h.1, null_type_fits h.0 h.2)
  form_stays form_mem_arg v h = (renumber_mem_arg new h.0, ap (renumber_immediates new) h.1, record { aligned = h.2.aligned; memory_fits = keeps Memories h.0.memory h.2.memory_fits; offset_fits = h.2.offset_fits })
  form_stays form_mem_arg_lane v h = (renumber_mem_arg new h.0, h.1, ap (renumber_immediates new) h.2, record { aligned = h.3.aligned; memory_fits = keeps Memories h.0.memory h.3.memory_fits; offset_fits = h.3.offset_fits }, h.4)
  form_stays form_i32 v h = (h.0, ap (renumber_immediates new) h.1, h.2)
  form_stays form_i64 v h = (h.0, ap (renumber_immediates new) h.1, h.2)
  form_stays (form_bytes count) v h = (h.0, ap (renumber_immediates new) h.1, h.2, h.3)
  form_stays form_lane v h = (h.0, ap (renumber_immediates new) h.1, h.2)
  form_stays form_zero v h = ap (renumber_immediates new) h

  instr_stays : (i : InstrValue) → IsInstr i → IsInstr (renumber_instr new i)
  instr_stays i h = record { form = h.form; in_table = h.in_table; has_form = form_stays h.form i.immediates h.has_form }

  code_stays : (is : List InstrValue) → All IsInstr is → All IsInstr (renumber_code new is)
  code_stays is h = All-map IsInstr (renumber_instr new) is (All-weaker IsInstr (λ i. IsInstr (renumber_instr new i)) instr_stays is h)

  tokens_stay : (is : List InstrValue) → tokens (renumber_code new is) ≡ tokens is
  tokens_stay [] = refl
  tokens_stay (i ∷ is) = ap (λ ts. instr_token i ∷ ts) (tokens_stay is)

  pub body_stays : (b : BodyValue) → IsBody b → IsBody (renumber_body new b)
  body_stays b h = record {
    locals_fit_u32 = subst (λ (n : ℕ). n < 2 ^ 32) (sym (count_stays new b.locals)) h.locals_fit_u32;
    has_locals = locals_fit b.locals h.has_locals;
    has_operators = code_stays b.operators h.has_operators;
    nests = subst IsExpression (sym (tokens_stay b.operators)) h.nests;
  }

  constant_stays : (is : List InstrValue) → AreConstant is → AreConstant (renumber_code new is)
  constant_stays [] h = tt
  constant_stays (i ∷ is) h = (h.0, constant_stays is h.1)

  code-append : (is js : List InstrValue) → renumber_code new (is ++ js) ≡ renumber_code new is ++ renumber_code new js
  code-append [] js = refl
  code-append (i ∷ is) js = ap (λ (z : List InstrValue). renumber_instr new i ∷ z) (code-append is js)

  pub init_stays : (is : List InstrValue) → IsInitialiser is → IsInitialiser (renumber_code new is)
  init_stays is h = record {
    is_init = (renumber_code new h.is_init.0, ap (renumber_code new) h.is_init.1 ∙ code-append h.is_init.0 (end_value ∷ []), constant_stays h.is_init.0 h.is_init.2);
    can_be_spelled = code_stays is h.can_be_spelled;
  }
