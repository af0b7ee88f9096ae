-- An edited adapter and its cut, edited in the same way, have one image.
use Rattle.std.proofs.Common.{◌≡◌, ℕ, ◌+◌, ◌-◌, List, [], ◌∷◌, ◌++◌, length, map, refl, sym, ◌∙◌, ap, subst, Bool, true, false, ◌&&◌, ◌||◌, cond}
use Rattle.std.proofs.Common.{nat_eq, Option, Some, None, arith, unwrap_or, inl, inr}
use Rattle.std.specs.Prelude.{◌==◌, IfSome}
use Rattle.std.specs.List.{AllByRecursion, slice_get}
use Rattle.std.specs.Option.{option_map, option_map_or}
use Rattle.std.proofs.lemmas.Bool.{false≢true}
use Rattle.std.proofs.lemmas.Bool.Decides.{eqb_tells}
use Rattle.std.proofs.lemmas.List.Elements.{recursion_from_All}
use Rattle.std.proofs.lemmas.Option.{slice_get-map}
use Rattle.wc_read.specs.Bodies.{BodyValue}
use Rattle.wc_read.specs.Exports.{ExportValue}
use Rattle.wc_read.specs.Items.{DefValue, ItemValue, TableValue, imported, local}
use Rattle.wc_read.specs.Types.{FuncTypeValue}
use Rattle.wc_read.specs.Operators.{InstrValue}
use Rattle.wc_read.specs.Renumbering.{Renumbering, renumber_func_type}
use Rattle.wc_read.specs.declared.exports.ExportKind.{ExportKind}
use Rattle.wc_read.specs.declared.exports.ExportKind.TheVariants.{Func, Table, Memory, Global}
use Rattle.wc_read.specs.declared.operators.Space.TheVariants.{Types, Funcs, Tables, Memories, Globals}
use Rattle.wc_read.specs.Items.{def_seen}
use Rattle.wc_gc.specs.AddedCode.{call, growing_body, stack_body}
use Rattle.wc_read.specs.Decoded.{DecodedModule, FuncCode, GlobalCode, ItemIndex, exported_item}
use Rattle.wc_gc.specs.Edit.{EditedModule, added_imports, added_funcs, added_types, allocation_code, called_realloc, edit, edited_by, edited_def, edited_func}
use Rattle.wc_gc.specs.Edit.{growing_code, growing_func, growing_position, import_func, is_exported_func, is_func, lazy_func, lazy_position}
use Rattle.wc_gc.specs.Edit.{memory_of, only_if, replaced, stack_of, start_func, start_of, start_position, start_type, state_of, types_added}
use Rattle.wc_gc.specs.Edit.{with_call}
use Rattle.wc_gc.specs.EditedImage.{edited_image, edited_rank, is_kept_defined, is_kept_import}
use Rattle.wc_read.specs.Entries.{body_refs, code_body_refs, def_refs, entry_refs, func_entry, func_refs, func_type_refs, global_entry, global_refs}
use Rattle.wc_read.specs.Entries.{no_entry, table_entry, type_entry, val_type_refs}
use Rattle.wc_gc.specs.Found.{FoundView, found_in, is_realloc, main_module}
use Rattle.wc_gc.specs.Image.{kept_items, kept_of, new_body, new_export, new_global, new_table, rank, renumber_body}
use Rattle.wc_gc.specs.Image.{new_func as func_under}
use Rattle.wc_gc.specs.Parts.{SettingsView, first_of, last_of, parts_of}
use Rattle.wc_gc.specs.TraceLaws.{AreClosed, ImageIsOfCut, all_items}
use Rattle.wc_gc.specs.Unfolding.{renumber_func, renumber_global}
use Rattle.wc_gc.specs.declared.parts.Parts.{Parts}
use Rattle.wc_gc.proofs.AddedUnderLemmas.{growing_under, last_has, stack_under}
use Rattle.wc_gc.proofs.BuiltPartLemmas.{each_weaker}
use Rattle.wc_gc.proofs.CutCodeLemmas.{Agrees, body_agrees, func_type_agrees, global_agrees, table_agrees}
use Rattle.wc_gc.proofs.CutFoundLemmas.{AreRanks, cut, cut_is, found_moved, parts_same, same_length}
use Rattle.wc_gc.proofs.CutListLemmas.{edited_moved, keep_all}
use Rattle.wc_gc.proofs.CutRankLemmas.{added_same, added_type_same, defined_same, global_same, imports_same, memory_same, new_edit, new_func}
use Rattle.wc_gc.proofs.CutRankLemmas.{old_edit, old_func, ranks_same}
use Rattle.wc_gc.proofs.ImageLemmas.{all_kept, map_twice}
use Rattle.wc_gc.proofs.RankLawLemmas.{counts_differ}
use Rattle.wc_gc.proofs.TrimLemmas.{bools}
use Rattle.wc_gc.proofs.TypeTestLemmas.{added_types_stay}

-- lists

first_mapped : (g : ℕ → ℕ) (xs : List ℕ) → first_of (map g xs) ≡ option_map g (first_of xs)
first_mapped g xs = slice_get-map g xs 0

pub last_mapped : (g : ℕ → ℕ) (xs ys : List ℕ) → ys ≡ map g xs → last_of ys ≡ option_map g (last_of xs)
last_mapped g xs ys e =
    ap (λ n. slice_get ys (n - 1)) (same_length xs ys g e) ∙ (ap (λ zs. slice_get zs (length xs - 1)) e ∙ slice_get-map g xs (length xs - 1))

pub both_mapped : {A B : Type 0} (f g : A → B) (xs : List A) → AllByRecursion (λ x. f x ≡ g x) xs → map f xs ≡ map g xs
both_mapped f g [] h = refl
both_mapped f g (x ∷ xs) h = ap (λ y. y ∷ map f xs) h.0 ∙ ap (λ ys. g x ∷ ys) (both_mapped f g xs h.1)

-- what is kept of a list, mapped twice
pub kept_twice : {A B C : Type 0} (has : ℕ → Bool) (xs : List A) (first : A → B) (second : B → C) (both : A → C)
    → ((n : ℕ) (x : A) → has n ≡ true → slice_get xs n ≡ Some x → second (first x) ≡ both x)
    → map second (map first (kept_items has (length xs) xs)) ≡ map both (kept_items has (length xs) xs)
kept_twice has xs first second both each =
    let kept = kept_items has (length xs) xs in
    map_twice first second kept
    ∙ both_mapped (λ x. second (first x)) both kept
    (recursion_from_All (λ x. second (first x) ≡ both x) kept (all_kept (λ x. second (first x) ≡ both x) has xs each (length xs)))

module _ (s : SettingsView) (m : DecodedModule) (exports : List ExportValue) (live : ItemIndex → Bool) (k : AreClosed m exports live) (p : Parts)
    (f g : FoundView) (a : AreRanks live f g) where
  abbrev E : Renumbering
  E = edited_rank (old_edit s m exports live k p f g)

  abbrev D : Renumbering
  D = edited_rank (new_edit s m exports live k p f g)

  abbrev R : Renumbering
  R = rank live

  abbrev L : ℕ
  L = length m.funcs

  abbrev K : ℕ
  K = length (cut m exports live).funcs

  abbrev T : ℕ
  T = length m.types

  abbrev U : ℕ
  U = length (cut m exports live).types

  abbrev Same : ItemIndex → Type 0
  Same x = Agrees R D E x

  same_at : (x : ItemIndex) → live x ≡ true → Same x
  same_at x h = ranks_same s m exports live k p f g x h

  all_same : (xs : List ItemIndex) → AllByRecursion (λ x. live x ≡ true) xs → AllByRecursion Same xs
  all_same xs h = each_weaker (λ x. live x ≡ true) Same xs same_at h

  -- the indices in live items

  func_names : (n : ℕ) (x : FuncCode) → slice_get m.funcs n ≡ Some x → live (Funcs, n) ≡ true → AllByRecursion Same (func_refs x)
  func_names n x at h =
      all_same (func_refs x)
      (subst (λ o. AllByRecursion (λ y. live y ≡ true) (entry_refs (option_map_or func_entry o no_entry))) at (k.named (Funcs, n) h))

  global_names : (n : ℕ) (x : GlobalCode) → slice_get m.globals n ≡ Some x → live (Globals, n) ≡ true → AllByRecursion Same (global_refs x)
  global_names n x at h =
      all_same (global_refs x)
      (subst (λ o. AllByRecursion (λ y. live y ≡ true) (entry_refs (option_map_or global_entry o no_entry))) at (k.named (Globals, n) h))

  type_names : (n : ℕ) (x : FuncTypeValue) → slice_get m.types n ≡ Some x → live (Types, n) ≡ true → AllByRecursion Same (func_type_refs x)
  type_names n x at h =
      all_same (func_type_refs x)
      (subst (λ o. AllByRecursion (λ y. live y ≡ true) (entry_refs (option_map_or type_entry o no_entry))) at (k.named (Types, n) h))

  table_names : (n : ℕ) (x : TableValue) → slice_get m.tables n ≡ Some x → live (Tables, n) ≡ true
      → AllByRecursion Same (val_type_refs (x.ty.element_type ∷ []))
  table_names n x at h =
      all_same (val_type_refs (x.ty.element_type ∷ []))
      (subst (λ o. AllByRecursion (λ y. live y ≡ true) (entry_refs (option_map_or table_entry o no_entry))) at (k.named (Tables, n) h))

  -- whether a function is exported

  index_same : (n i : ℕ) → live (Funcs, n) ≡ true → live (Funcs, i) ≡ true → nat_eq (R Funcs n) (R Funcs i) ≡ nat_eq n i
  index_same n i h l =
      bools (nat_eq (R Funcs n) (R Funcs i)) (nat_eq n i)
      (λ q. elim (eqb_tells (R Funcs n) (R Funcs i)) [
        | inl e ↦ equal n i (counts_differ (λ j. live (Funcs, j)) n i h l e.1)
        | inr d ↦ absurd
            (false≢true (sym d.0 ∙ q))
      ])
      (λ q. elim (eqb_tells n i) [ inl e ↦ equal (R Funcs n) (R Funcs i) (ap (R Funcs) e.1) | inr d ↦ absurd (false≢true (sym d.0 ∙ q)) ])
    where
      equal : (a b : ℕ) → a ≡ b → nat_eq a b ≡ true
      equal a b e = elim (eqb_tells a b) [ inl q ↦ q.0 | inr d ↦ absurd (d.1 e) ]

  one_exported : (n : ℕ) (kind : ExportKind) (name : List ℕ) (i : ℕ) → live (Funcs, n) ≡ true
      → live (exported_item (record { name = name; kind = kind; index = i })) ≡ true
      → (is_func (new_export R (record { name = name; kind = kind; index = i })).kind && nat_eq (R Funcs n)
      (new_export R (record { name = name; kind = kind; index = i })).index) ≡ (is_func kind && nat_eq n i)
  one_exported n Func name i h l = index_same n i h l
  one_exported n Table name i h l = refl
  one_exported n Memory name i h l = refl
  one_exported n Global name i h l = refl

  any_exported : (n : ℕ) → live (Funcs, n) ≡ true → (es : List ExportValue) → AllByRecursion (λ e. live (exported_item e) ≡ true) es
      → is_exported_func (map (new_export R) es) (R Funcs n) ≡ is_exported_func es n
  any_exported n h [] all = refl
  any_exported n h (e ∷ es) all =
      ap (λ b. b || is_exported_func (map (new_export R) es) (R Funcs n)) (one_exported n e.kind e.name e.index h all.0)
      ∙ ap (λ b. (is_func e.kind && nat_eq n e.index) || b) (any_exported n h es all.1)

  exported_same : (n : ℕ) → live (Funcs, n) ≡ true → is_exported_func (cut m exports live).exports (R Funcs n) ≡ is_exported_func exports n
  exported_same n h = any_exported n h exports k.exported

  -- the indices in added code

  option_first : (g : ℕ → ℕ) (xs ys : List ℕ) (o : Option ℕ) → ys ≡ map g xs → first_of xs ≡ o → first_of ys ≡ option_map g o
  option_first g xs ys o e h = ap first_of e ∙ (first_mapped g xs ∙ ap (option_map g) h)

  memory_by : (o : Option ℕ) → D Memories (unwrap_or (option_map (R Memories) o) 0) ≡ E Memories (unwrap_or o 0)
  memory_by None = refl
  memory_by (Some n) = memory_same s m exports live k p f g n

  memory_is : D Memories (memory_of g) ≡ E Memories (memory_of f)
  memory_is =
      ap (λ o. D Memories (unwrap_or o 0)) (option_first (R Memories) f.memories g.memories (first_of f.memories) a.memories refl)
      ∙ memory_by (first_of f.memories)

  stack_by : (o : Option ℕ) → D Globals (unwrap_or (option_map (R Globals) o) 0) ≡ E Globals (unwrap_or o 0)
  stack_by None = refl
  stack_by (Some n) = global_same s m exports live k p f g n

  stack_is : D Globals (stack_of g) ≡ E Globals (stack_of f)
  stack_is =
      ap (λ o. D Globals (unwrap_or o 0)) (option_first (R Globals) f.stacks g.stacks (first_of f.stacks) a.stacks refl)
      ∙ stack_by (first_of f.stacks)

  state_by : (o : Option ℕ) → option_map (D Globals) (option_map (R Globals) o) ≡ option_map (E Globals) o
  state_by None = refl
  state_by (Some n) = ap Some (global_same s m exports live k p f g n)

  state_is : option_map (D Globals) (state_of g) ≡ option_map (E Globals) (state_of f)
  state_is = ap (option_map (D Globals)) (option_first (R Globals) f.states g.states (first_of f.states) a.states refl) ∙ state_by (first_of f.states)

  realloc_by : (o : Option ℕ) → IfSome o (λ n. live (Funcs, n) ≡ true) → D Funcs (unwrap_or (option_map (R Funcs) o) (K + 0))
      ≡ E Funcs (unwrap_or o (L + 0))
  realloc_by None h = added_same s m exports live k p f g 0
  realloc_by (Some n) h = same_at (Funcs, n) h

  plus_none : (n : ℕ) → n ≡ n + 0
  plus_none n = omega arith

  last_realloc : D Funcs (unwrap_or (last_of g.reallocs) K) ≡ E Funcs (unwrap_or (last_of f.reallocs) L)
  last_realloc =
      ap (λ o. D Funcs (unwrap_or o K)) (last_mapped (R Funcs) f.reallocs g.reallocs a.reallocs)
      ∙ (ap (λ n. D Funcs (unwrap_or (option_map (R Funcs) (last_of f.reallocs)) n)) (plus_none K)
      ∙ (realloc_by (last_of f.reallocs) (last_has (λ n. live (Funcs, n) ≡ true) f.reallocs a.live_reallocs)
      ∙ sym (ap (λ n. E Funcs (unwrap_or (last_of f.reallocs) n)) (plus_none L))))

  called_by : (b : Bool) → D Funcs (cond b (K + growing_position p) (unwrap_or (last_of g.reallocs) K))
      ≡ E Funcs (cond b (L + growing_position p) (unwrap_or (last_of f.reallocs) L))
  called_by true = added_same s m exports live k p f g (growing_position p)
  called_by false = last_realloc

  called_is : D Funcs (called_realloc K p g) ≡ E Funcs (called_realloc L p f)
  called_is = called_by p.growing

  empty_by : (o : Option ℕ) → IfSome o (λ n. live (Types, n) ≡ true) → D Types (unwrap_or (option_map (R Types) o) (U + start_position p))
      ≡ E Types (unwrap_or o (T + start_position p))
  empty_by None h = added_type_same s m exports live k p f g (start_position p)
  empty_by (Some n) h = same_at (Types, n) h

  start_type_is : D Types (start_type U p g) ≡ E Types (start_type T p f)
  start_type_is =
      ap (λ o. D Types (unwrap_or o (U + start_position p))) (last_mapped (R Types) f.empties g.empties a.empties)
      ∙ empty_by (last_of f.empties) (last_has (λ n. live (Types, n) ≡ true) f.empties a.live_empties)

  -- added code and functions

  growing_is : def_seen (new_body D) (growing_code s g) ≡ def_seen (new_body E) (growing_code s f)
  growing_is =
      ap local (growing_under D s.page_size_log2 (memory_of g) ∙ (ap (growing_body s.page_size_log2) memory_is ∙ sym (growing_under E s.page_size_log2 (memory_of f))))

  three : (i i' j j' : ℕ) (o o' : Option ℕ) → i ≡ i' → j ≡ j' → o ≡ o' → stack_body i j o ≡ stack_body i' j' o'
  three i i' j j' o o' x y z = ap (λ t. stack_body t j o) x ∙ (ap (λ t. stack_body i' t o) y ∙ ap (λ t. stack_body i' j' t) z)

  allocation_is : def_seen (new_body D) (allocation_code K p g) ≡ def_seen (new_body E) (allocation_code L p f)
  allocation_is =
      ap local (stack_under D (called_realloc K p g) (stack_of g) (state_of g)
      ∙ (three (D Funcs (called_realloc K p g)) (E Funcs (called_realloc L p f)) (D Globals (stack_of g)) (E Globals (stack_of f))
      (option_map (D Globals) (state_of g)) (option_map (E Globals) (state_of f)) called_is stack_is state_is
      ∙ sym (stack_under E (called_realloc L p f) (stack_of f) (state_of f))))

  abbrev func_with : ℕ → DefValue BodyValue → ItemValue ℕ BodyValue
  func_with ty def = record { ty = ty; def = def }

  func_is : (t t' : ℕ) (x y : DefValue BodyValue) → t ≡ t' → x ≡ y → func_with t x ≡ func_with t' y
  func_is t t' x y h e = ap (λ z. func_with z x) h ∙ ap (func_with t') e

  one_added : (b : Bool) (x y : FuncCode) → func_under D x ≡ func_under E y → map (func_under D) (only_if b x) ≡ map (func_under E) (only_if b y)
  one_added true x y e = ap (λ z. z ∷ []) e
  one_added false x y e = refl

  type_added : (j : ℕ) → D Types (U + j) ≡ E Types (T + j)
  type_added j = added_type_same s m exports live k p f g j

  first_type : D Types U ≡ E Types T
  first_type = ap (D Types) (plus_none U) ∙ (type_added 0 ∙ sym (ap (E Types) (plus_none T)))

  imports_is : map (func_under D) (added_imports U s p) ≡ map (func_under E) (added_imports T s p)
  imports_is =
      one_added p.import_realloc (import_func U s) (import_func T s)
      (ap (λ t. func_with t (imported main_module (unwrap_or s.realloc []))) first_type)

  lazy_is : func_under D (lazy_func U K p g) ≡ func_under E (lazy_func T L p f)
  lazy_is =
      func_is (D Types (U + lazy_position p)) (E Types (T + lazy_position p)) (def_seen (new_body D) (allocation_code K p g))
      (def_seen (new_body E) (allocation_code L p f)) (type_added (lazy_position p)) allocation_is

  growing_func_is : func_under D (growing_func U s p g) ≡ func_under E (growing_func T s p f)
  growing_func_is =
      func_is (D Types (U + growing_position p)) (E Types (T + growing_position p)) (def_seen (new_body D) (growing_code s g))
      (def_seen (new_body E) (growing_code s f)) (type_added (growing_position p)) growing_is

  start_is : func_under D (start_func U K p g) ≡ func_under E (start_func T L p f)
  start_is =
      func_is (D Types (start_type U p g)) (E Types (start_type T p f)) (def_seen (new_body D) (allocation_code K p g))
      (def_seen (new_body E) (allocation_code L p f)) start_type_is allocation_is

  one_more_added : (b : Bool) (x y : FuncCode) (xs ys : List FuncCode) → func_under D x ≡ func_under E y → map (func_under D) xs
      ≡ map (func_under E) ys → map (func_under D) (only_if b x ++ xs) ≡ map (func_under E) (only_if b y ++ ys)
  one_more_added true x y xs ys e h = ap (λ t. t ∷ map (func_under D) xs) e ∙ ap (λ ts. func_under E y ∷ ts) h
  one_more_added false x y xs ys e h = h

  funcs_is : map (func_under D) (added_funcs U K s p g) ≡ map (func_under E) (added_funcs T L s p f)
  funcs_is =
      one_more_added p.lazy (lazy_func U K p g) (lazy_func T L p f) (only_if p.growing (growing_func U s p g) ++ only_if p.start (start_func U K p g))
      (only_if p.growing (growing_func T s p f) ++ only_if p.start (start_func T L p f)) lazy_is
      (one_more_added p.growing (growing_func U s p g) (growing_func T s p f) (only_if p.start (start_func U K p g))
      (only_if p.start (start_func T L p f)) growing_func_is
      (one_added p.start (start_func U K p g) (start_func T L p f) start_is))

  started : (b : Bool) → option_map (D Funcs) (cond b (Some (K + start_position p)) None)
      ≡ option_map (E Funcs) (cond b (Some (L + start_position p)) None)
  started true = ap Some (added_same s m exports live k p f g (start_position p))
  started false = refl

  start_func_is : option_map (D Funcs) (start_of K p) ≡ option_map (E Funcs) (start_of L p)
  start_func_is = started p.start

  -- edited functions

  replaced_by : (o : Option (List ℕ)) → def_seen (new_body D) (option_map_or (λ name. imported main_module name) o (growing_code s g))
      ≡ def_seen (new_body E) (option_map_or (λ name. imported main_module name) o (growing_code s f))
  replaced_by None = growing_is
  replaced_by (Some name) = refl

  abbrev body_with : InstrValue → BodyValue → BodyValue
  body_with i b = record { locals = b.locals; operators = i ∷ b.operators }

  called_body : (x : BodyValue) → AllByRecursion Same (code_body_refs x) → (b : Bool)
      → new_body D (cond b (option_map (with_call (K + lazy_position p)) (option_map (renumber_body R) (Some x)))
      (option_map (renumber_body R) (Some x))) ≡ new_body E (cond b (option_map (with_call (L + lazy_position p)) (Some x)) (Some x))
  called_body x h true =
      ap (λ b. body_with (call (D Funcs (K + lazy_position p))) b) (body_agrees R D E x h)
      ∙ ap (λ n. body_with (call n) (renumber_body E x)) (added_same s m exports live k p f g (lazy_position p))
  called_body x h false = body_agrees R D E x h

  no_call : (b : Bool)
      → new_body D (cond b (option_map (with_call (K + lazy_position p)) (option_map (renumber_body R) None)) (option_map (renumber_body R) None))
      ≡ new_body E (cond b (option_map (with_call (L + lazy_position p)) None) None)
  no_call true = refl
  no_call false = refl

  body_is : (o : Option BodyValue) → AllByRecursion Same (body_refs o) → (b : Bool)
      → new_body D (cond b (option_map (with_call (K + lazy_position p)) (option_map (renumber_body R) o)) (option_map (renumber_body R) o))
      ≡ new_body E (cond b (option_map (with_call (L + lazy_position p)) o) o)
  body_is None h b = no_call b
  body_is (Some x) h b = called_body x h b

  cond_two : {A B : Type 0} (b : Bool) (x x' z z' : A) (h h' : A → B) → h x ≡ h' x' → h z ≡ h' z' → h (cond b x z) ≡ h' (cond b x' z')
  cond_two true x x' z z' h h' i j = i
  cond_two false x x' z z' h h' i j = j

  def_is : (x : DefValue (Option BodyValue)) → AllByRecursion Same (def_refs body_refs x) → (b : Bool)
      → def_seen (new_body D) (edited_def K s p g true b (def_seen (option_map (renumber_body R)) x))
      ≡ def_seen (new_body E) (edited_def L s p f true b x)
  def_is (imported y z) h b =
      cond_two (is_realloc {C = ℕ} (imported y z)) (replaced s g) (replaced s f) (imported y z) (imported y z) (def_seen (new_body D))
      (def_seen (new_body E)) (replaced_by s.realloc) refl
  def_is (local o) h b = ap local (body_is o h (p.lazy && b))

  old_is : (n : ℕ) (x : FuncCode) → slice_get m.funcs n ≡ Some x → live (Funcs, n) ≡ true
      → func_under E (old_func s m exports live k p f g (n, x)) ≡ func_under D (new_func s m exports live k p f g (R Funcs n, renumber_func R x))
  old_is n x at h =
      let names = func_names n x at h in
      ap (λ b. func_under E (edited_func L s p f b (is_exported_func exports n) x)) h
      ∙ sym (func_is (D Types (R Types x.ty)) (E Types x.ty)
      (def_seen (new_body D)
      (edited_def K s p g true (is_exported_func (cut m exports live).exports (R Funcs n)) (def_seen (option_map (renumber_body R)) x.def)))
      (def_seen (new_body E) (edited_def L s p f true (is_exported_func exports n) x.def)) names.0
      (ap (λ b. def_seen (new_body D) (edited_def K s p g true b (def_seen (option_map (renumber_body R)) x.def))) (exported_same n h)
      ∙ def_is x.def names.1 (is_exported_func exports n)))

  abbrev O : EditedModule
  O = old_edit s m exports live k p f g

  abbrev N : EditedModule
  N = new_edit s m exports live k p f g

  kept_imports : map (func_under E) (kept_items (is_kept_import O) (length O.value.funcs) O.value.funcs)
      ≡ map (func_under D) (kept_items (is_kept_import N) (length N.value.funcs) N.value.funcs)
  kept_imports =
      edited_moved (λ n. live (Funcs, n)) (is_kept_import O) (is_kept_import N) m.funcs (renumber_func R) (old_func s m exports live k p f g)
      (new_func s m exports live k p f g) (func_under E) (func_under D)
      (λ n x at h. ((imports_same s m exports live k p f g).same n (k.there (Funcs, n) h) h, old_is n x at h))
      (imports_same s m exports live k p f g).none

  kept_defined : map (func_under E) (kept_items (is_kept_defined O) (length O.value.funcs) O.value.funcs)
      ≡ map (func_under D) (kept_items (is_kept_defined N) (length N.value.funcs) N.value.funcs)
  kept_defined =
      edited_moved (λ n. live (Funcs, n)) (is_kept_defined O) (is_kept_defined N) m.funcs (renumber_func R) (old_func s m exports live k p f g)
      (new_func s m exports live k p f g) (func_under E) (func_under D)
      (λ n x at h. ((defined_same s m exports live k p f g).same n (k.there (Funcs, n) h) h, old_is n x at h))
      (defined_same s m exports live k p f g).none

  -- types, tables, globals, exports

  types_kept : map (renumber_func_type D) (kept_of (cut m exports live) all_items Types (cut m exports live).types)
      ≡ map (renumber_func_type E) (kept_of m live Types m.types)
  types_kept =
      ap (map (renumber_func_type D)) (keep_all (cut m exports live).types)
      ∙ kept_twice (λ n. live (Types, n)) m.types (renumber_func_type R) (renumber_func_type D) (renumber_func_type E)
      (λ n x h at. func_type_agrees R D E x (type_names n x at h))

  tables_is : map (new_table D) (kept_of (cut m exports live) all_items Tables (cut m exports live).tables)
      ≡ map (new_table E) (kept_of m live Tables m.tables)
  tables_is =
      ap (map (new_table D)) (keep_all (cut m exports live).tables)
      ∙ kept_twice (λ n. live (Tables, n)) m.tables (new_table R) (new_table D) (new_table E)
      (λ n x h at. table_agrees R D E x (table_names n x at h))

  globals_is : map (new_global D) (kept_of (cut m exports live) all_items Globals (cut m exports live).globals)
      ≡ map (new_global E) (kept_of m live Globals m.globals)
  globals_is =
      ap (map (new_global D)) (keep_all (cut m exports live).globals)
      ∙ kept_twice (λ n. live (Globals, n)) m.globals (renumber_global R) (new_global D) (new_global E)
      (λ n x h at. global_agrees R D E x (global_names n x at h))

  one_export : (kind : ExportKind) (name : List ℕ) (i : ℕ) → live (exported_item (record { name = name; kind = kind; index = i })) ≡ true
      → new_export D (new_export R (record { name = name; kind = kind; index = i })) ≡ new_export E (record { name = name; kind = kind; index = i })
  one_export kind name i h =
      ap (λ (j : ℕ). let e : ExportValue = record { name = name; kind = kind; index = j } in e)
      (same_at (exported_item (record { name = name; kind = kind; index = i })) h)

  exports_is : map (new_export D) (cut m exports live).exports ≡ map (new_export E) exports
  exports_is =
      map_twice (new_export R) (new_export D) exports
      ∙ both_mapped (λ e. new_export D (new_export R e)) (new_export E) exports
      (each_weaker (λ e. live (exported_item e) ≡ true) (λ e. new_export D (new_export R e) ≡ new_export E e) exports
      (λ e h. one_export e.kind e.name e.index h) k.exported)

  -- added types, and all together

  types_is : map (renumber_func_type D) (added_types p g) ≡ map (renumber_func_type E) (added_types p f)
  types_is =
      added_types_stay D p g
      ∙ (ap (λ (n : ℕ). types_added p (n == 0)) (same_length f.empties g.empties (R Types) a.empties) ∙ sym (added_types_stay E p f))

  pub image_is : edited_image O ≡ edited_image N
  unfolding edited_image
  image_is =
      rw (
        types_kept,
        tables_is,
        keep_all (cut m exports live).memories,
        types_is,
        globals_is,
        exports_is,
        start_func_is,
        sym kept_imports,
        sym kept_defined,
        imports_is,
        funcs_is,
      ) refl

pub image_is_of_cut : ImageIsOfCut
unfolding edit
image_is_of_cut s m exports live k =
    let f = found_in m live in
    let c = cut m exports live in
    let g = found_in c all_items in
    let a = found_moved m exports live in
    let p = parts_of s f in
    image_is s m exports live k p f g a
    ∙ (ap (λ q. edited_image (edited_by s c c.exports all_items q g)) (sym (parts_same s live f g a))
    ∙ ap (λ d. edited_image (edit s d d.exports all_items)) (sym (cut_is m exports live)))
