-- What is added to an adapter names what its image has.
use Rattle.std.proofs.Common.{◌≡◌, ℕ, ◌+◌, ◌<◌, List, [], ◌∷◌, ◌++◌, length, refl, sym, ◌∙◌, ap, subst, Bool, true, false, cond, Option, Some, None, arith, nat_eq, ◌⊎◌, inl, inr}
use Rattle.std.specs.Prelude.{IfSome, IsTrue, is_some, nat_lt, not, ◌&&◌, ◌||◌, unwrap_or}
use Rattle.std.specs.List.{AllByRecursion}
use Rattle.std.proofs.lemmas.Bool.{false≢true, le-ltb, lt-ltb, ltb-true, and_parts}
use Rattle.std.proofs.lemmas.List.{length-map}
use Rattle.wc_read.specs.BodyOperators.{body_in}
use Rattle.wc_read.specs.Exports.{ExportValue}
use Rattle.wc_read.specs.Modules.{ModuleValue}
use Rattle.wc_read.specs.Types.{FuncTypeValue}
use Rattle.wc_read.specs.declared.operators.Space.TheVariants.{Types, Funcs, Tables, Memories, Globals}
use Rattle.wc_read.specs.Items.{item_seen}
use Rattle.wc_gc.specs.AddedCode.{empty_type, growing_body, realloc_type, stack_body}
use Rattle.wc_read.specs.Decoded.{FuncCode, ItemIndex, decode, is_in, is_code}
use Rattle.wc_gc.specs.Edit.{EditedModule, called_realloc, growing_func, growing_position, import_func, lazy_func, lazy_position, memory_of, one_if, only_if, stack_of, start_func, start_position, state_of, types_added}
use Rattle.wc_read.specs.Entries.{body_refs, code_body_refs, func_refs, func_type_refs}
use Rattle.wc_gc.specs.Found.{FoundView, found_in, is_empty}
use Rattle.wc_gc.specs.Parts.{SettingsView, first_of, is_any, is_lazy, last_of, parts_of}
use Rattle.wc_gc.specs.Unfolding.{in_image}
use Rattle.wc_gc.specs.declared.parts.Parts.{Parts}
use Rattle.wc_gc.proofs.AddedUnderLemmas.{first_has, growing_by, last_has, members}
use Rattle.wc_gc.proofs.BuiltPartLemmas.{each_weaker}
use Rattle.wc_gc.proofs.EditedFuncLemmas.{all_only, funcs_count, none_last, types_count}
use Rattle.wc_gc.proofs.EditedIndexLemmas.{cond_has, edited, funcs_long}
use Rattle.wc_gc.proofs.EditedTextLemmas.{only_length as only_count}
use Rattle.wc_gc.proofs.SpelledItemLemmas.{all_joined}

-- what added bodies name

pub growing_names : (has : ItemIndex → Type 0) (page_size_log2 memory : ℕ) → has (Memories, memory)
    → AllByRecursion has (body_refs (Some (growing_body page_size_log2 memory)))
unfolding growing_body
growing_names has page_size_log2 memory h = elim (nat_eq page_size_log2 0) as (λ b. AllByRecursion has (code_body_refs (growing_by b page_size_log2 memory))) [
  | true ↦
      (h, tt)
  | false ↦ (h, tt)
]

stack_names : (has : ItemIndex → Type 0) (realloc stack : ℕ) (state : Option ℕ) → has (Funcs, realloc) → has (Globals, stack)
    → IfSome state (λ n. has (Globals, n)) → AllByRecursion has (body_refs (Some (stack_body realloc stack state)))
unfolding stack_body
stack_names has realloc stack None r g s = (r, (g, tt))
stack_names has realloc stack (Some state) r g s = (s, (s, (r, (g, (s, tt)))))

-- which parts go with which

-- code that allocates a stack is added where there is a stack pointer, and calls a realloc; code that grows memory where
-- there is a memory
pub record AreParts (p : Parts) (f : FoundView) : Type 0 where
  pub stack : (p.lazy ≡ true) ⊎ (p.start ≡ true) → is_any f.stacks ≡ true
  pub memory : p.growing ≡ true → is_any f.memories ≡ true
  pub import : (p.lazy ≡ true) ⊎ (p.start ≡ true) → p.growing ≡ false → is_empty f.reallocs ≡ true → p.import_realloc ≡ true

stack_there : (a e r m : Bool) → ((a && not e && r) ≡ true) ⊎ ((a && m && not (a && not e && r)) ≡ true) → a ≡ true
stack_there true e r m h = refl
stack_there false e r m (inl h) = absurd (false≢true h)
stack_there false e r m (inr h) = absurd (false≢true h)

memory_there : (a m l c : Bool) → ((a && m && not l) && c) ≡ true → m ≡ true
memory_there a true l c h = refl
memory_there true false l c h = absurd (false≢true h)
memory_there false false l c h = absurd (false≢true h)

import_there : (a e r m k : Bool) → ((a && not e && r) ≡ true) ⊎ ((a && m && not (a && not e && r)) ≡ true)
    → ((a && m && not (a && not e && r)) && (e || (not r && k))) ≡ false → k ≡ true → (r && a && k) ≡ true
import_there a e r m false h g k = absurd (false≢true k)
import_there true e true m true h g k = refl
import_there false e r m true (inl h) g k = absurd (false≢true h)
import_there false e r m true (inr h) g k = absurd (false≢true h)
import_there true true false true true h g k = absurd (false≢true (sym g))
import_there true false false true true h g k = absurd (false≢true (sym g))
import_there true true false false true (inl h) g k = absurd (false≢true h)
import_there true true false false true (inr h) g k = absurd (false≢true h)
import_there true false false false true (inl h) g k = absurd (false≢true h)
import_there true false false false true (inr h) g k = absurd (false≢true h)

pub parts_are : (s : SettingsView) (f : FoundView) → AreParts (parts_of s f) f
parts_are s f = record {
  stack = stack_there (is_any f.stacks) (is_empty f.states) (is_some s.realloc) (is_any f.memories);
  memory = memory_there (is_any f.stacks) (is_any f.memories) (is_lazy s f) (is_empty f.states || (not (is_some s.realloc) && is_empty f.reallocs));
  import = import_there (is_any f.stacks) (is_empty f.states) (is_some s.realloc) (is_any f.memories) (is_empty f.reallocs);
}

-- the first of some things, where there is one
pub first_or : {A : Type 0} (P : A → Type 0) (xs : List A) (d : A) → AllByRecursion P xs → is_any xs ≡ true → P (unwrap_or (first_of xs) d)
first_or P [] d all h = absurd (false≢true h)
first_or P (x ∷ xs) d all h = all.0

-- types that are added name none
pub added_types_name_none : (P : ItemIndex → Type 0) (p : Parts) (no_empty : Bool) → AllByRecursion (λ t. AllByRecursion P (func_type_refs t))
    (types_added p no_empty)
added_types_name_none P p no_empty =
    let Q : FuncTypeValue → Type 0 = λ t. AllByRecursion P (func_type_refs t) in
    all_joined Q (only_if p.import_realloc realloc_type) _ (all_only Q p.import_realloc realloc_type (λ h. tt))
    (all_joined Q (only_if p.lazy empty_type) _ (all_only Q p.lazy empty_type (λ h. tt))
    (all_joined Q (only_if p.growing realloc_type) _ (all_only Q p.growing realloc_type (λ h. tt)) (all_only Q (p.start && no_empty) empty_type (λ h. tt))))

-- what is live is there
abbrev pub AreThere : ModuleValue → (ItemIndex → Bool) → Type 0
AreThere m live = (x : ItemIndex) → IsTrue (live x) → IsTrue (is_in (decode m) x)

module _ (s : SettingsView) (m : ModuleValue) (exports : List ExportValue) (live : ItemIndex → Bool) (p : Parts) (there : AreThere m live) where
  abbrev pub found : FoundView
  found = found_in (decode m) live

  abbrev pub with_added : EditedModule
  with_added = edited s m exports live p found

  abbrev T : ℕ
  T = length m.types

  abbrev L : ℕ
  L = length (decode m).funcs

  abbrev pub Has : ItemIndex → Type 0
  Has x = IsTrue (in_image with_added x)

  pub size_funcs : L ≡ length m.funcs
  size_funcs = length-map m.funcs (item_seen body_in)

  pub old_there : (n : ℕ) → n < L → nat_lt n (length with_added.value.funcs) ≡ true
  old_there n h = let long = funcs_long s m exports live p found in let l = size_funcs in lt-ltb n (length with_added.value.funcs) (omega (arith, h, long, l))

  -- what is live is in the image
  pub live_has : (x : ItemIndex) → IsTrue (live x) → Has x
  live_has (Types, n) h = ap (λ (b : Bool). cond b (live (Types, n)) (nat_lt n (T + length with_added.types))) (there (Types, n) h) ∙ h
  live_has (Funcs, n) h =
      ap (λ (b : Bool). cond b (live (Funcs, n)) (nat_lt n (length with_added.value.funcs + (length with_added.imports + length with_added.funcs))))
      (old_there n (ltb-true n L (there (Funcs, n) h))) ∙ h
  live_has (Tables, n) h = h
  live_has (Memories, n) h = h
  live_has (Globals, n) h = h

  -- so is what is added

  type_has : (j : ℕ) → j < one_if p.import_realloc + (one_if p.lazy + (one_if p.growing + one_if (p.start && is_empty found.empties))) → Has (Types, T + j)
  type_has j h =
      let past : nat_lt (T + j) T ≡ false = le-ltb (T + j) T (omega arith) in
      let count = types_count p (is_empty found.empties) in
      let bounded : nat_lt (T + j) (T + length with_added.types) ≡ true = lt-ltb (T + j) (T + length with_added.types) (omega (arith, count, h)) in
      ap (λ (b : Bool). cond b (live (Types, T + j)) (nat_lt (T + j) (T + length with_added.types))) past ∙ bounded

  pub func_has : (j : ℕ) → j < one_if p.import_realloc + (one_if p.lazy + (one_if p.growing + one_if p.start)) → Has (Funcs, L + j)
  func_has j h =
      let long = funcs_long s m exports live p found in
      let l = size_funcs in
      let all = length with_added.value.funcs + (length with_added.imports + length with_added.funcs) in
      let past : nat_lt (L + j) (length with_added.value.funcs) ≡ false = le-ltb (L + j) (length with_added.value.funcs) (omega (arith, long, l)) in
      let imports = only_count p.import_realloc (import_func T s) in
      let count = funcs_count T L s p found in
      let bounded : nat_lt (L + j) all ≡ true = lt-ltb (L + j) all (omega (arith, imports, count, h, long, l)) in
      ap (λ (b : Bool). cond b (live (Funcs, L + j)) (nat_lt (L + j) all)) past ∙ bounded

  -- what was found is live

  stacks_live : AllByRecursion (λ n. Has (Globals, n)) found.stacks
  unfolding found_in
  stacks_live = each_weaker _ (λ n. Has (Globals, n)) found.stacks (λ n h. (and_parts (live (Globals, n)) _ h.0).0) (members _ (length (decode m).globals))

  states_live : AllByRecursion (λ n. Has (Globals, n)) found.states
  unfolding found_in
  states_live = each_weaker _ (λ n. Has (Globals, n)) found.states (λ n h. (and_parts (live (Globals, n)) _ h.0).0) (members _ (length (decode m).globals))

  reallocs_live : AllByRecursion (λ n. Has (Funcs, n)) found.reallocs
  unfolding found_in
  reallocs_live = each_weaker _ (λ n. Has (Funcs, n)) found.reallocs (λ n h. live_has (Funcs, n) (and_parts (live (Funcs, n)) _ h.0).0) (members _ L)

  memories_live : AllByRecursion (λ n. Has (Memories, n)) found.memories
  unfolding found_in
  memories_live = each_weaker _ (λ n. Has (Memories, n)) found.memories (λ n h. h.0) (members _ (length m.memories))

  empties_live : AllByRecursion (λ n. Has (Types, n)) found.empties
  unfolding found_in
  empties_live = each_weaker _ (λ n. Has (Types, n)) found.empties (λ n h. live_has (Types, n) (and_parts (live (Types, n)) _ h.0).0) (members _ T)

  pub memory_has : is_any found.memories ≡ true → Has (Memories, memory_of found)
  memory_has h = first_or (λ n. Has (Memories, n)) found.memories 0 memories_live h

  module _ (a : AreParts p found) where
    abbrev Allocates : Type 0
    Allocates = (p.lazy ≡ true) ⊎ (p.start ≡ true)

    last_called : Allocates → p.growing ≡ false → (o : Option ℕ) → last_of found.reallocs ≡ o → IfSome o (λ n. Has (Funcs, n)) → Has (Funcs, unwrap_or o L)
    last_called h g None e all =
        let one = ap one_if (a.import h g (none_last found.reallocs e)) in
        subst (λ n. Has (Funcs, n)) (let e : L + 0 ≡ L = omega arith in e) (func_has 0 (omega (arith, one)))
    last_called h g (Some n) e all = all

    called_has : Allocates → Has (Funcs, called_realloc L p found)
    called_has h =
        cond_has (λ n. Has (Funcs, n)) p.growing (L + growing_position p) (unwrap_or (last_of found.reallocs) L)
        (λ g. func_has (growing_position p) (let one = ap one_if g in omega (arith, one)))
        (λ g. last_called h g (last_of found.reallocs) refl (last_has (λ n. Has (Funcs, n)) found.reallocs reallocs_live))

    stack_code_names : Allocates → AllByRecursion Has (body_refs (Some (stack_body (called_realloc L p found) (stack_of found) (state_of found))))
    stack_code_names h =
        stack_names Has (called_realloc L p found) (stack_of found) (state_of found) (called_has h)
        (first_or (λ n. Has (Globals, n)) found.stacks 0 stacks_live (a.stack h)) (first_has (λ n. Has (Globals, n)) found.states states_live)

    start_type_by : p.start ≡ true → (o : Option ℕ) → last_of found.empties ≡ o → IfSome o (λ n. Has (Types, n))
        → Has (Types, unwrap_or o (T + start_position p))
    start_type_by h None e all =
        let added : (p.start && is_empty found.empties) ≡ true = ap (λ (b : Bool). b && is_empty found.empties) h ∙ none_last found.empties e in
        let one = ap one_if added in
        type_has (start_position p) (omega (arith, one))
    start_type_by h (Some n) e all = all

    -- a function that is there, and names what the image has
    abbrev pub IsClosedFunc : FuncCode → Type 0
    IsClosedFunc f = AllByRecursion Has (func_refs f) × IsTrue (is_code f.def)

    import_closed : p.import_realloc ≡ true → IsClosedFunc (import_func T s)
    import_closed h =
        let one = ap one_if h in
        ((subst (λ n. Has (Types, n)) (let e : T + 0 ≡ T = omega arith in e) (type_has 0 (omega (arith, one))), tt), refl)

    lazy_closed : p.lazy ≡ true → IsClosedFunc (lazy_func T L p found)
    lazy_closed h = let one = ap one_if h in ((type_has (lazy_position p) (omega (arith, one)), stack_code_names (inl h)), refl)

    growing_closed : p.growing ≡ true → IsClosedFunc (growing_func T s p found)
    growing_closed h =
        let one = ap one_if h in
        ((type_has (growing_position p) (omega (arith, one)), growing_names Has s.page_size_log2 (memory_of found) (memory_has (a.memory h))), refl)

    start_closed : p.start ≡ true → IsClosedFunc (start_func T L p found)
    start_closed h =
        ((start_type_by h (last_of found.empties) refl (last_has (λ n. Has (Types, n)) found.empties empties_live), stack_code_names (inr h)), refl)

    pub added_closed : AllByRecursion IsClosedFunc (with_added.imports ++ with_added.funcs)
    added_closed =
        all_joined IsClosedFunc with_added.imports with_added.funcs (all_only IsClosedFunc p.import_realloc (import_func T s) import_closed)
        (all_joined IsClosedFunc (only_if p.lazy (lazy_func T L p found)) _ (all_only IsClosedFunc p.lazy (lazy_func T L p found) lazy_closed)
        (all_joined IsClosedFunc (only_if p.growing (growing_func T s p found)) (only_if p.start (start_func T L p found))
        (all_only IsClosedFunc p.growing (growing_func T s p found) growing_closed)
        (all_only IsClosedFunc p.start (start_func T L p found) start_closed)))
