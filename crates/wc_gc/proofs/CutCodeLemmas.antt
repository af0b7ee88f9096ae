-- Code that is renumbered twice is renumbered once, where the two renumberings agree with one on what it names.
use Rattle.std.proofs.Common.{◌≡◌, ℕ, List, [], ◌∷◌, ◌++◌, map, refl, ◌∙◌, ap, Option, Some, None}
use Rattle.std.specs.List.{AllByRecursion, cons_option}
use Rattle.std.specs.Option.{option_map, option_to_list}
use Rattle.wc_read.specs.Bodies.{BodyValue, local_types}
use Rattle.wc_read.specs.Items.{DefValue, ItemValue, TableValue, imported, local}
use Rattle.wc_read.specs.Operators.{ImmediatesValue, WithNone, WithBlock, WithIndex, WithIndices, WithLabels, WithValTypes, WithRefType, WithMemArg}
use Rattle.wc_read.specs.Operators.{WithMemArgLane, WithI32, WithI64, WithBytes, WithLane, InstrValue}
use Rattle.wc_read.specs.References.{in_space, reference, one_ref, two_refs, refs_of, type_reference, type_refs_of}
use Rattle.wc_read.specs.Renumbering.{Renumbering, renumber, renumber_index, renumber_immediates, renumber_instr, renumber_val_type}
use Rattle.wc_read.specs.Renumbering.{renumber_func_type, renumber_global_type}
use Rattle.wc_read.specs.Types.{FuncTypeValue, type_index, type_indices}
use Rattle.wc_read.specs.declared.bodies.Locals.{Locals}
use Rattle.wc_read.specs.declared.operators.Index.{Index}
use Rattle.wc_read.specs.declared.operators.IndexKind.{IndexKind}
use Rattle.wc_read.specs.declared.operators.IndexKind.TheVariants.{In, Elem, Data, Local, Label}
use Rattle.wc_read.specs.declared.operators.BlockType.TheVariants.{Empty, Value, FuncType}
use Rattle.wc_read.specs.declared.operators.MemArg.{MemArg}
use Rattle.wc_read.specs.declared.operators.Space.TheVariants.{Types}
use Rattle.wc_read.specs.declared.types.ValType.{ValType}
use Rattle.wc_read.specs.declared.types.ValType.TheVariants.{I32, I64, F32, F64, V128, FuncRef, ExternRef, FuncRefNonNull, ExternRefNonNull, TypeRef}
use Rattle.wc_read.specs.declared.types.GlobalType.{GlobalType}
use Rattle.wc_read.specs.declared.types.TableType.{TableType}
use Rattle.wc_read.specs.Items.{def_seen}
use Rattle.wc_read.specs.Decoded.{GlobalCode, ItemIndex}
use Rattle.wc_read.specs.Entries.{code_body_refs, code_refs, def_refs, func_type_refs, global_refs, init_refs, instr_refs, refs_list, type_items, val_type_refs}
use Rattle.wc_gc.specs.Image.{new_global, new_init, new_table, renumber_body, renumber_code, renumber_locals}
use Rattle.wc_gc.specs.Unfolding.{renumber_global}
use Rattle.wc_gc.proofs.CutListLemmas.{split_all}

-- an index that two renumberings, one after the other, take where a third one does
abbrev pub Agrees : Renumbering → Renumbering → Renumbering → ItemIndex → Type 0
Agrees first second both x = second x.0 (first x.0 x.1) ≡ both x.0 x.1

module _ (first second both : Renumbering) where
  abbrev Agree : List ItemIndex → Type 0
  Agree xs = AllByRecursion (Agrees first second both) xs

  number_agrees : (kind : IndexKind) (n : ℕ) → Agree (option_to_list (in_space kind n)) → renumber second kind (renumber first kind n)
      ≡ renumber both kind n
  number_agrees (In space) n h = h.0
  number_agrees Elem n h = refl
  number_agrees Data n h = refl
  number_agrees Local n h = refl
  number_agrees Label n h = refl

  two_parts : (a b : Option ItemIndex) → Agree (refs_list (two_refs a b)) → Agree (option_to_list a) × Agree (option_to_list b)
  two_parts None None h = (tt, tt)
  two_parts None (Some y) h = (tt, h)
  two_parts (Some x) None h = (h, tt)
  two_parts (Some x) (Some y) h = ((h.0, tt), h.1)

  one_part : (a : Option ItemIndex) → Agree (refs_list (one_ref a)) → Agree (option_to_list a)
  one_part None h = tt
  one_part (Some x) h = h

  abbrev index_with : IndexKind → ℕ → Index
  index_with kind n = record { kind = kind; number = n }

  index_agrees : (i : Index) → Agree (option_to_list (reference i)) → renumber_index second (renumber_index first i) ≡ renumber_index both i
  index_agrees i h = ap (index_with i.kind) (number_agrees i.kind i.number h)

  abbrev mem_arg_with : MemArg → ℕ → MemArg
  mem_arg_with m n = record { align = m.align; memory = n; offset = m.offset }

  type_agrees : (t : ValType) → Agree (option_to_list (type_reference t)) → renumber_val_type second (renumber_val_type first t) ≡ renumber_val_type both t
  type_agrees I32 h = refl
  type_agrees I64 h = refl
  type_agrees F32 h = refl
  type_agrees F64 h = refl
  type_agrees V128 h = refl
  type_agrees FuncRef h = refl
  type_agrees ExternRef h = refl
  type_agrees FuncRefNonNull h = refl
  type_agrees ExternRefNonNull h = refl
  type_agrees (TypeRef nullable index) h = ap (λ k. TypeRef nullable k) h.0

  first_type : (o : Option ℕ) (ns : List ℕ) → Agree (type_items (cons_option o ns))
      → Agree (option_to_list (option_map (λ n. (Types, n)) o)) × Agree (type_items ns)
  first_type None ns h = (tt, h)
  first_type (Some n) ns h = ((h.0, tt), h.1)

  types_agree : (ts : List ValType) → Agree (val_type_refs ts)
      → map (renumber_val_type second) (map (renumber_val_type first) ts) ≡ map (renumber_val_type both) ts
  types_agree [] h = refl
  types_agree (t ∷ ts) h =
      let p = first_type (type_index t) (type_indices ts) h in
      ap (λ u. u ∷ map (renumber_val_type second) (map (renumber_val_type first) ts)) (type_agrees t p.0)
      ∙ ap (λ us. renumber_val_type both t ∷ us) (types_agree ts p.1)

  one_type_agrees : (t : ValType) → Agree (val_type_refs (t ∷ [])) → renumber_val_type second (renumber_val_type first t) ≡ renumber_val_type both t
  one_type_agrees t h = type_agrees t (first_type (type_index t) [] h).0

  abbrev func_type_with : List ValType → List ValType → FuncTypeValue
  func_type_with ps rs = record { params = ps; results = rs }

  pub func_type_agrees : (t : FuncTypeValue) → Agree (func_type_refs t)
      → renumber_func_type second (renumber_func_type first t) ≡ renumber_func_type both t
  func_type_agrees t h =
      let p = split_all (Agrees first second both) (val_type_refs t.params) (val_type_refs t.results) h in
      ap (λ ps. func_type_with ps (map (renumber_val_type second) (map (renumber_val_type first) t.results))) (types_agree t.params p.0)
      ∙ ap (func_type_with (map (renumber_val_type both) t.params)) (types_agree t.results p.1)

  abbrev table_type_with : TableType → ValType → TableType
  table_type_with t e = record { element_type = e; table64 = t.table64; initial = t.initial; maximum = t.maximum }

  abbrev table_with : TableValue → TableType → TableValue
  table_with t ty = record { ty = ty; def = t.def }

  pub table_agrees : (t : TableValue) → Agree (val_type_refs (t.ty.element_type ∷ [])) → new_table second (new_table first t) ≡ new_table both t
  table_agrees t h = ap (λ e. table_with t (table_type_with t.ty e)) (one_type_agrees t.ty.element_type h)

  immediates_agree : (v : ImmediatesValue) → Agree (type_items (type_refs_of v) ++ refs_list (refs_of v))
      → renumber_immediates second (renumber_immediates first v)
      ≡ renumber_immediates both v
  immediates_agree WithNone h = refl
  immediates_agree (WithBlock Empty) h = refl
  immediates_agree (WithBlock (Value t)) h = ap (λ u. WithBlock (Value u)) (type_agrees t (one_part (type_reference t) h))
  immediates_agree (WithBlock (FuncType n)) h = ap (λ k. WithBlock (FuncType k)) h.0
  immediates_agree (WithIndex i) h = ap WithIndex (index_agrees i (one_part (reference i) h))
  immediates_agree (WithIndices i j) h =
      let p = two_parts (reference i) (reference j) h in
      ap (λ k. WithIndices k (renumber_index second (renumber_index first j))) (index_agrees i p.0)
      ∙ ap (WithIndices (renumber_index both i)) (index_agrees j p.1)
  immediates_agree (WithLabels ls d) h = refl
  immediates_agree (WithValTypes ts) h = ap WithValTypes (types_agree ts (split_all (Agrees first second both) (val_type_refs ts) [] h).0)
  immediates_agree (WithRefType t) h = ap WithRefType (type_agrees t (one_part (type_reference t) h))
  immediates_agree (WithMemArg m) h = ap (λ k. WithMemArg (mem_arg_with m k)) h.0
  immediates_agree (WithMemArgLane m lane) h = ap (λ k. WithMemArgLane (mem_arg_with m k) lane) h.0
  immediates_agree (WithI32 n) h = refl
  immediates_agree (WithI64 n) h = refl
  immediates_agree (WithBytes bytes) h = refl
  immediates_agree (WithLane lane) h = refl

  abbrev instr_with : InstrValue → ImmediatesValue → InstrValue
  instr_with i v = record { opcode = i.opcode; immediates = v }

  pub code_agrees : (is : List InstrValue) → Agree (code_refs is) → renumber_code second (renumber_code first is) ≡ renumber_code both is
  code_agrees [] h = refl
  code_agrees (i ∷ is) h =
      let p = split_all (Agrees first second both) (instr_refs i) (code_refs is) h in
      ap (λ v. instr_with i v ∷ renumber_code second (renumber_code first is)) (immediates_agree i.immediates p.0)
      ∙ ap (λ js. renumber_instr both i ∷ js) (code_agrees is p.1)

  abbrev locals_with : Locals → ValType → Locals
  locals_with l t = record { count = l.count; ty = t }

  locals_agree : (ls : List Locals) → Agree (val_type_refs (local_types ls))
      → map (renumber_locals second) (map (renumber_locals first) ls) ≡ map (renumber_locals both) ls
  locals_agree [] h = refl
  locals_agree (l ∷ ls) h =
      let p = first_type (type_index l.ty) (type_indices (local_types ls)) h in
      ap (λ t. locals_with l t ∷ map (renumber_locals second) (map (renumber_locals first) ls)) (type_agrees l.ty p.0)
      ∙ ap (λ ks. renumber_locals both l ∷ ks) (locals_agree ls p.1)

  abbrev body_with : List Locals → List InstrValue → BodyValue
  body_with ls is = record { locals = ls; operators = is }

  pub body_agrees : (b : BodyValue) → Agree (code_body_refs b) → renumber_body second (renumber_body first b) ≡ renumber_body both b
  body_agrees b h =
      let p = split_all (Agrees first second both) (val_type_refs (local_types b.locals)) (code_refs b.operators) h in
      ap (λ ls. body_with ls (renumber_code second (renumber_code first b.operators))) (locals_agree b.locals p.0)
      ∙ ap (body_with (map (renumber_locals both) b.locals)) (code_agrees b.operators p.1)

  init_agrees : (o : Option (List InstrValue)) → Agree (init_refs o) → new_init second (option_map (renumber_code first) o) ≡ new_init both o
  init_agrees None h = refl
  init_agrees (Some is) h = code_agrees is h

  init_twice : (o : Option (List InstrValue)) → Agree (init_refs o)
      → option_map (renumber_code second) (option_map (renumber_code first) o) ≡ option_map (renumber_code both) o
  init_twice None h = refl
  init_twice (Some is) h = ap Some (code_agrees is h)

  def_agrees : {C E : Type 0} (f : C → C) (g g' : C → E) (refs : C → List ItemIndex) → ((c : C) → Agree (refs c) → g (f c) ≡ g' c)
      → (d : DefValue C) → Agree (def_refs refs d) → def_seen g (def_seen f d) ≡ def_seen g' d
  def_agrees f g g' refs each (imported a b) h = refl
  def_agrees f g g' refs each (local c) h = ap local (each c h)

  abbrev global_type_with : GlobalType → ValType → GlobalType
  global_type_with g t = record { content_type = t; mutable = g.mutable }

  global_type_agrees : (g : GlobalType) → Agree (val_type_refs (g.content_type ∷ []))
      → renumber_global_type second (renumber_global_type first g) ≡ renumber_global_type both g
  global_type_agrees g h = ap (global_type_with g) (one_type_agrees g.content_type h)

  abbrev global_with : {C : Type 0} → GlobalType → DefValue C → ItemValue GlobalType C
  global_with ty d = record { ty = ty; def = d }

  -- a global whose type and initialiser agree
  item_agrees : {E : Type 0} (g g' : Option (List InstrValue) → E)
      → ((o : Option (List InstrValue)) → Agree (init_refs o) → g (option_map (renumber_code first) o) ≡ g' o) → (x : GlobalCode) → Agree (global_refs x)
      → global_with (renumber_global_type second (renumber_global_type first x.ty)) (def_seen g (def_seen (option_map (renumber_code first)) x.def))
      ≡ global_with (renumber_global_type both x.ty) (def_seen g' x.def)
  item_agrees g g' each x h =
      let p = split_all (Agrees first second both) (val_type_refs (x.ty.content_type ∷ [])) (def_refs init_refs x.def) h in
      ap (λ ty. global_with ty (def_seen g (def_seen (option_map (renumber_code first)) x.def))) (global_type_agrees x.ty p.0)
      ∙ ap (global_with (renumber_global_type both x.ty)) (def_agrees (option_map (renumber_code first)) g g' init_refs each x.def p.1)

  pub global_agrees : (g : GlobalCode) → Agree (global_refs g) → new_global second (renumber_global first g) ≡ new_global both g
  global_agrees g h = item_agrees (new_init second) (new_init both) init_agrees g h

  -- and so where it is renumbered in the module itself
  pub global_twice : (g : GlobalCode) → Agree (global_refs g) → renumber_global second (renumber_global first g) ≡ renumber_global both g
  global_twice g h = item_agrees (option_map (renumber_code second)) (option_map (renumber_code both)) init_twice g h
