-- What code in range names is there, and so are the types that types, tables and globals of a module name.
use Rattle.std.proofs.Common.{◌≡◌, ℕ, ◌<◌, List, [], ◌∷◌, length, Bool, true, not, Option, Some, None}
use Rattle.std.specs.Prelude.{IsTrue, nat_lt}
use Rattle.std.specs.List.{AllByRecursion, cons_option, list_all, slice_get}
use Rattle.std.specs.Option.{option_map_or}
use Rattle.std.proofs.lemmas.Bool.{lt-ltb, and_parts}
use Rattle.std.proofs.lemmas.List.Elements.{recursion_from_All}
use Rattle.wc_read.specs.Bodies.{BodyValue, local_types}
use Rattle.wc_read.specs.Items.{DefValue, imported, local, GlobalValue, TableValue}
use Rattle.wc_read.specs.Modules.{ModuleValue, IsModule}
use Rattle.wc_read.specs.Operators.{InstrValue}
use Rattle.wc_read.specs.References.{names_segment}
use Rattle.wc_read.specs.Types.{FuncTypeValue, HasTypeIndex, HaveTypeIndices, type_index, type_indices}
use Rattle.wc_read.specs.declared.types.ValType.{ValType}
use Rattle.wc_read.specs.Decoded.{DecodedModule, FuncCode, ItemIndex, decode, is_in}
use Rattle.wc_read.specs.Entries.{body_refs, code_refs, def_refs, entry_refs, func_refs, instr_refs, no_entry, table_entry, type_entry, type_items, val_type_refs}
use Rattle.wc_gc.specs.InRange.{is_operator_in_range, is_body_in_range, is_code_in_range, is_def_in_range}
use Rattle.wc_gc.proofs.BuiltPartLemmas.{all_at}
use Rattle.wc_gc.proofs.SpelledItemLemmas.{all_joined}

all_pass : {A : Type 0} (p : A → Bool) (xs : List A) → list_all p xs ≡ true → AllByRecursion (λ x. IsTrue (p x)) xs
all_pass p [] h = tt
all_pass p (x ∷ xs) h = let b = and_parts (p x) (list_all p xs) h in (b.0, all_pass p xs b.1)

module _ (d : DecodedModule) where
  abbrev pub There : ItemIndex → Type 0
  There y = IsTrue (is_in d y)

  -- what code in range names

  code_there : (is : List InstrValue) → is_code_in_range d is ≡ true → AllByRecursion There (code_refs is)
  code_there [] h = tt
  code_there (i ∷ is) h =
      let b = and_parts (is_operator_in_range d i) (is_code_in_range d is) h in
      let named = and_parts (list_all (is_in d) (instr_refs i)) (not (names_segment i.immediates)) b.0 in
      all_joined There (instr_refs i) (code_refs is) (all_pass (is_in d) (instr_refs i) named.0) (code_there is b.1)

  body_there : (b : Option BodyValue) → is_body_in_range d b ≡ true → AllByRecursion There (body_refs b)
  body_there None h = absurd cc
  body_there (Some b) h =
      let types = val_type_refs (local_types b.locals) in
      let both = and_parts (list_all (is_in d) types) (is_code_in_range d b.operators) h in
      all_joined There types (code_refs b.operators) (all_pass (is_in d) types both.0) (code_there b.operators both.1)

  pub def_there : (f : DefValue (Option BodyValue)) → is_def_in_range d f ≡ true → AllByRecursion There (def_refs body_refs f)
  def_there (imported m n) h = tt
  def_there (local b) h = body_there b h

  pub func_there : (f : FuncCode) → f.ty < length d.types → is_def_in_range d f.def ≡ true → AllByRecursion There (func_refs f)
  func_there f h k = (lt-ltb f.ty (length d.types) h, def_there f.def k)

  -- the types that value types name

  first_there : (o : Option ℕ) (ns : List ℕ) → IsTrue (option_map_or (λ n. nat_lt n (length d.types)) o true)
      → AllByRecursion There (type_items ns) → AllByRecursion There (type_items (cons_option o ns))
  first_there None ns h k = k
  first_there (Some n) ns h k = (h, k)

  pub types_there : (ts : List ValType) → AllByRecursion (HasTypeIndex (length d.types)) ts → AllByRecursion There (val_type_refs ts)
  types_there [] h = tt
  types_there (t ∷ ts) h = first_there (type_index t) (type_indices ts) h.0 (types_there ts h.1)

  pub type_there : (t : ValType) → HasTypeIndex (length d.types) t → AllByRecursion There (val_type_refs (t ∷ []))
  type_there t h = types_there (t ∷ []) (h, tt)

-- those that types, tables and globals of a module name

module _ (m : ModuleValue) (v : IsModule m) where
  func_type_there : (t : FuncTypeValue) → HaveTypeIndices (length m.types) t → AllByRecursion (There (decode m)) (entry_refs (type_entry t))
  func_type_there t h =
      let P = HasTypeIndex (length m.types) in
      all_joined (There (decode m)) (val_type_refs t.params) (val_type_refs t.results)
      (types_there (decode m) t.params (recursion_from_All P t.params h.0))
      (types_there (decode m) t.results (recursion_from_All P t.results h.1))

  pub type_names_there : (n : ℕ) (o : Option FuncTypeValue) → slice_get m.types n ≡ o
      → AllByRecursion (There (decode m)) (entry_refs (option_map_or type_entry o no_entry))
  type_names_there n None e = tt
  type_names_there n (Some t) e =
      func_type_there t (all_at (HaveTypeIndices (length m.types)) m.types n t (recursion_from_All (HaveTypeIndices (length m.types)) m.types v.named.types) e)

  pub table_names_there : (n : ℕ) (o : Option TableValue) → slice_get m.tables n ≡ o
      → AllByRecursion (There (decode m)) (entry_refs (option_map_or table_entry o no_entry))
  table_names_there n None e = tt
  table_names_there n (Some t) e =
      let P : TableValue → Type 0 = λ t. HasTypeIndex (length m.types) t.ty.element_type in
      type_there (decode m) t.ty.element_type (all_at P m.tables n t (recursion_from_All P m.tables v.named.tables) e)

  pub global_type_there : (n : ℕ) (g : GlobalValue) → slice_get m.globals n ≡ Some g
      → AllByRecursion (There (decode m)) (val_type_refs (g.ty.content_type ∷ []))
  global_type_there n g e =
      let P : GlobalValue → Type 0 = λ g. HasTypeIndex (length m.types) g.ty.content_type in
      type_there (decode m) g.ty.content_type (all_at P m.globals n g (recursion_from_All P m.globals v.named.globals) e)
