-- In a module without segments an item names what it refers to.
use Rattle.std.proofs.Common.{◌≡◌, ℕ, Bool, true, false, List, [], ◌∷◌, ◌++◌, map, refl, sym, ◌∙◌, ap, append-nil, Option, Some, None, arith, ltb-true}
use Rattle.std.specs.Prelude.{cond, filter, nat_lt}
use Rattle.std.specs.Option.{option_to_list}
use Rattle.std.proofs.lemmas.List.{map-append}
use Rattle.std.proofs.lemmas.List.Elements.{filter-append}
use Rattle.wc_read.specs.Bodies.{BodyValue, local_types}
use Rattle.wc_read.specs.Items.{DefValue, imported, local}
use Rattle.wc_read.specs.Modules.{ModuleValue}
use Rattle.wc_read.specs.Operators.{ImmediatesValue, InstrValue, WithNone, WithBlock, WithIndex, WithIndices, WithLabels, WithValTypes, WithRefType, WithMemArg, WithMemArgLane, WithI32, WithI64, WithBytes, WithLane}
use Rattle.wc_read.specs.References.{in_space, one_ref, reference, refs_of, two_refs, type_refs_of}
use Rattle.wc_read.specs.Types.{type_indices}
use Rattle.wc_read.specs.declared.operators.IndexKind.{IndexKind}
use Rattle.wc_read.specs.declared.operators.IndexKind.TheVariants.{In, Elem, Data as data_kind, Local, Label}
use Rattle.wc_read.specs.declared.operators.Space.{Space}
use Rattle.wc_read.specs.declared.operators.Space.TheVariants.{Types, Funcs, Tables, Memories, Globals}
use Rattle.wc_read.specs.declared.types.GlobalType.{GlobalType}
use Rattle.wc_read.specs.Decoded.{ItemIndex, decode, is_in}
use Rattle.wc_read.specs.Entries.{Entry, no_entry, type_entry, func_entry, table_entry, memory_entry, global_entry, body_refs, code_refs, entry_at, entry_refs, func_type_refs, init_refs, instr_refs, present, refs_in, refs_list, type_items, val_type_refs}
use Rattle.wc_segments.specs.Segments.{SegmentsValue}
use Rattle.wc_paths.specs.Items.{GraphValue, body_items, code_items, counts_of, entry_items, expression_items, graph_of, has_item, index_items, kind_item, names_in, operator_items, space_item, space_items}
use Rattle.wc_paths.specs.declared.items.PathItem.{PathItem}
use Rattle.wc_paths.specs.declared.items.PathItem.TheVariants.{Item, Elements, Data}

abbrev pub no_segments : SegmentsValue
no_segments = record { elements = []; data_segments = [] }

abbrev pub graph_without : ModuleValue → GraphValue
graph_without m = graph_of m no_segments

none_below : (n : ℕ) (b : Bool) → nat_lt n 0 ≡ b → b ≡ false
none_below n false e = refl
none_below n true e = absurd (let h = ltb-true n 0 e in omega (arith, h))

module _ (m : ModuleValue) where
  -- whether an item is there
  abbrev pub is_there : PathItem → Bool
  is_there x = has_item (counts_of (graph_without m)) x

  pub there_in : (space : Space) (n : ℕ) → is_there (Item space n) ≡ is_in (decode m) (space, n)
  there_in Types n = refl
  there_in Funcs n = refl
  there_in Tables n = refl
  there_in Memories n = refl
  there_in Globals n = refl

  no_elements : (n : ℕ) → is_there (Elements n) ≡ false
  no_elements n = none_below n (nat_lt n 0) refl

  no_data : (n : ℕ) → is_there (Data n) ≡ false
  no_data n = none_below n (nat_lt n 0) refl

  -- what is kept of items of spaces
  abbrev pub kept : List PathItem → List PathItem
  kept xs = filter is_there xs

  one_kept : (x : ItemIndex) (xs : List ItemIndex) → kept (space_items xs) ≡ space_items (present (decode m) xs) → (b : Bool) → is_in (decode m) x ≡ b
      → cond (is_there (Item x.0 x.1)) (Item x.0 x.1 ∷ kept (space_items xs)) (kept (space_items xs))
      ≡ space_items (cond (is_in (decode m) x) (x ∷ present (decode m) xs) (present (decode m) xs))
  one_kept x xs rest true e = rw (there_in x.0 x.1, e) (ap (λ (ys : List PathItem). Item x.0 x.1 ∷ ys) rest)
  one_kept x xs rest false e = rw (there_in x.0 x.1, e) rest

  pub spaces_kept : (xs : List ItemIndex) → kept (space_items xs) ≡ space_items (present (decode m) xs)
  spaces_kept [] = refl
  spaces_kept (x ∷ xs) = one_kept x xs (spaces_kept xs) (is_in (decode m) x) refl

  gone_one : (x : PathItem) → is_there x ≡ false → kept (x ∷ []) ≡ []
  gone_one x e = ap (λ (b : Bool). cond b (x ∷ []) []) e

  -- what an index names
  kind_kept : (k : IndexKind) (n : ℕ) → kept (option_to_list (kind_item k n)) ≡ space_items (present (decode m) (option_to_list (in_space k n)))
  kind_kept (In space) n = spaces_kept ((space, n) ∷ [])
  kind_kept Elem n = gone_one (Elements n) (no_elements n)
  kind_kept data_kind n = gone_one (Data n) (no_data n)
  kind_kept Local n = refl
  kind_kept Label n = refl

  appended : (qs rs : List PathItem) (xs ys : List ItemIndex) → kept qs ≡ space_items (present (decode m) xs) → kept rs ≡ space_items (present (decode m) ys)
      → kept (qs ++ rs) ≡ space_items (present (decode m) (xs ++ ys))
  appended qs rs xs ys e f =
      filter-append is_there qs rs ∙ (ap (λ (z : List PathItem). z ++ kept rs) e ∙ (ap (λ (z : List PathItem). space_items (present (decode m) xs) ++ z) f
      ∙ (sym (map-append space_item (present (decode m) xs) (present (decode m) ys)) ∙ ap (map space_item) (sym (filter-append (is_in (decode m)) xs ys)))))

  two_listed : (a b : Option ItemIndex) → refs_list (two_refs a b) ≡ option_to_list a ++ option_to_list b
  two_listed None None = refl
  two_listed None (Some b) = refl
  two_listed (Some a) b = refl

  one_listed : (a : Option ItemIndex) → refs_list (one_ref a) ≡ option_to_list a
  one_listed None = refl
  one_listed (Some a) = refl

  -- what an operator names
  operator_kept : (v : ImmediatesValue) → kept (operator_items v) ≡ space_items (present (decode m) (type_items (type_refs_of v) ++ refs_list (refs_of v)))
  operator_kept (WithIndex i) =
      kind_kept i.kind i.number ∙ ap (λ (xs : List ItemIndex). space_items (present (decode m) xs)) (sym (one_listed (reference i)))
  operator_kept (WithIndices i j) =
      appended (index_items i) (index_items j) (option_to_list (reference i)) (option_to_list (reference j)) (kind_kept i.kind i.number) (kind_kept j.kind j.number)
      ∙ ap (λ (xs : List ItemIndex). space_items (present (decode m) xs)) (sym (two_listed (reference i) (reference j)))
  operator_kept (WithValTypes ts) =
      spaces_kept (val_type_refs ts) ∙ ap (λ (xs : List ItemIndex). space_items (present (decode m) xs)) (sym (append-nil (type_items (type_indices ts))))
  operator_kept WithNone = spaces_kept (refs_list (refs_of WithNone))
  operator_kept (WithBlock b) = spaces_kept (refs_list (refs_of (WithBlock b)))
  operator_kept (WithLabels ls d) = spaces_kept (refs_list (refs_of (WithLabels ls d)))
  operator_kept (WithRefType t) = spaces_kept (refs_list (refs_of (WithRefType t)))
  operator_kept (WithMemArg a) = spaces_kept (refs_list (refs_of (WithMemArg a)))
  operator_kept (WithMemArgLane a lane) = spaces_kept (refs_list (refs_of (WithMemArgLane a lane)))
  operator_kept (WithI32 n) = spaces_kept (refs_list (refs_of (WithI32 n)))
  operator_kept (WithI64 n) = spaces_kept (refs_list (refs_of (WithI64 n)))
  operator_kept (WithBytes bytes) = spaces_kept (refs_list (refs_of (WithBytes bytes)))
  operator_kept (WithLane lane) = spaces_kept (refs_list (refs_of (WithLane lane)))

  code_kept : (is : List InstrValue) → kept (code_items is) ≡ space_items (present (decode m) (code_refs is))
  code_kept [] = refl
  code_kept (i ∷ is) = appended (operator_items i.immediates) (code_items is) (instr_refs i) (code_refs is) (operator_kept i.immediates) (code_kept is)

  body_kept : (b : Option BodyValue) → kept (body_items b) ≡ space_items (present (decode m) (body_refs b))
  body_kept None = refl
  body_kept (Some b) =
      appended (space_items (val_type_refs (local_types b.locals))) (code_items b.operators) (val_type_refs (local_types b.locals)) (code_refs b.operators)
      (spaces_kept (val_type_refs (local_types b.locals))) (code_kept b.operators)

  init_kept : (is : Option (List InstrValue)) → kept (expression_items is) ≡ space_items (present (decode m) (init_refs is))
  init_kept None = refl
  init_kept (Some is) = code_kept is

  func_kept : (ty : ℕ) (d : DefValue (Option BodyValue))
      → kept (entry_items (func_entry (record { ty = ty; def = d }))) ≡ space_items (present (decode m) (entry_refs (func_entry (record { ty = ty; def = d }))))
  func_kept ty (imported a b) = spaces_kept ((Types, ty) ∷ [])
  func_kept ty (local b) = appended (Item Types ty ∷ []) (body_items b) ((Types, ty) ∷ []) (body_refs b) (spaces_kept ((Types, ty) ∷ [])) (body_kept b)

  global_kept : (ty : GlobalType) (d : DefValue (Option (List InstrValue)))
      → kept (entry_items (global_entry (record { ty = ty; def = d }))) ≡ space_items (present (decode m) (entry_refs (global_entry (record { ty = ty; def = d }))))
  global_kept ty (imported a b) =
      appended (space_items (val_type_refs (ty.content_type ∷ []))) [] (val_type_refs (ty.content_type ∷ [])) [] (spaces_kept (val_type_refs (ty.content_type ∷ []))) refl
  global_kept ty (local is) =
      appended (space_items (val_type_refs (ty.content_type ∷ []))) (expression_items is) (val_type_refs (ty.content_type ∷ [])) (init_refs is)
      (spaces_kept (val_type_refs (ty.content_type ∷ []))) (init_kept is)

  entry_kept : (e : Entry) → kept (entry_items e) ≡ space_items (present (decode m) (entry_refs e))
  entry_kept no_entry = refl
  entry_kept (type_entry t) = spaces_kept (func_type_refs t)
  entry_kept (func_entry f) = func_kept f.ty f.def
  entry_kept (table_entry t) = spaces_kept (val_type_refs (t.ty.element_type ∷ []))
  entry_kept (memory_entry t) = refl
  entry_kept (global_entry y) = global_kept y.ty y.def

  -- what an item names are the items that it refers to
  pub names_without : (x : ItemIndex) → names_in (graph_without m) (space_item x) ≡ space_items (refs_in (decode m) x)
  names_without x = entry_kept (entry_at (decode m) x)
