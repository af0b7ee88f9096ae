-- The parts that are found in a cut are those found in the adapter, by their ranks; so the same parts are added.
use Rattle.std.proofs.Common.{◌≡◌, ℕ, zero, suc, ◌+◌, ◌<◌, ◌≤◌, List, [], ◌∷◌, ◌++◌, length, map, refl, sym, ◌∙◌, ap, Bool, true, false, ◌&&◌, ◌||◌}
use Rattle.std.proofs.Common.{cond, Option, Some, None, arith, ◌⊎◌, inl, inr}
use Rattle.std.specs.Prelude.{◌==◌, filter, is_some, not}
use Rattle.std.specs.List.{AllByRecursion, list_any, range_with_len, slice_get}
use Rattle.std.specs.Map.{lookup}
use Rattle.std.specs.Option.{option_map, option_map_or}
use Rattle.std.specs.Str.{bytes_eq}
use Rattle.std.proofs.lemmas.Bool.{false≢true, false_from_ne_true, and_left, and_parts}
use Rattle.std.proofs.lemmas.Bool.Decides.{eqb_tells}
use Rattle.std.proofs.lemmas.List.{length-map}
use Rattle.std.proofs.lemmas.Option.{slice_get-map}
use Rattle.std.proofs.lemmas.Slice.Eq.{bytes_eq-Decides}
use Rattle.std.proofs.Math.Bool.{or-true}
use Rattle.wc_read.specs.Exports.{ExportValue}
use Rattle.wc_read.specs.Names.{GlobalNameValue}
use Rattle.wc_read.specs.Renumbering.{renumber_func_type}
use Rattle.wc_read.specs.declared.operators.Space.TheVariants.{Types, Funcs, Tables, Memories, Globals}
use Rattle.wc_gc.specs.Counts.{count_below}
use Rattle.wc_gc.specs.Cut.{cut_of, ranks_named, part_names}
use Rattle.wc_read.specs.Decoded.{DecodedModule, FuncCode, GlobalCode, ItemIndex}
use Rattle.wc_gc.specs.Found.{FoundView, allocation_state, found_in, has_name, is_empty_type, is_empty_type_at, is_mutable_i32, is_mutable_i32_at}
use Rattle.wc_gc.specs.Found.{is_named_at, is_realloc, is_realloc_at, stack_pointer}
use Rattle.wc_gc.specs.Image.{kept_items, kept_of, new_export, new_table, rank, renumber_body}
use Rattle.wc_gc.specs.Parts.{SettingsView, parts_of}
use Rattle.wc_gc.specs.TraceLaws.{all_items}
use Rattle.wc_gc.specs.Unfolding.{renumber_func, renumber_global}
use Rattle.wc_gc.specs.declared.parts.Parts.{Parts}
use Rattle.wc_gc.proofs.AddedUnderLemmas.{IsMember, members}
use Rattle.wc_gc.proofs.BuiltPartLemmas.{each_weaker}
use Rattle.wc_gc.proofs.CutListLemmas.{AreSameTests, and_of_true, filter_moved}
use Rattle.wc_gc.proofs.FoundLemmas.{realloc_seen}
use Rattle.wc_graph.proofs.ListLemmas.{get_some}
use Rattle.wc_gc.proofs.KeptItemLemmas.{kept_count, rank_at}
use Rattle.wc_gc.proofs.RankLawLemmas.{counts_differ}
use Rattle.wc_gc.proofs.TypeTestLemmas.{empty_type_under, mutable_under}

-- a range

later : (a n : ℕ) → a ≤ n → (a ≡ n) ⊎ (a + 1 ≤ n)
later a n h = grind arith

-- a number of a range that passes both tests
any_by : (old p : ℕ → Bool) (a n : ℕ) (ns : List ℕ) → old n ≡ true → p n ≡ true → (a + 1 ≤ n → list_any p ns ≡ true) → (b : Bool) → old a ≡ b
    → (a ≡ n) ⊎ (a + 1 ≤ n) → list_any p (cond b (a ∷ ns) ns) ≡ true
any_by old p a n ns t s rest true e (inl same) = ap (λ z. z || list_any p ns) (ap p same ∙ s)
any_by old p a n ns t s rest true e (inr more) = ap (λ z. p a || z) (rest more) ∙ or-true (p a)
any_by old p a n ns t s rest false e (inl same) = absurd (false≢true (sym e ∙ (ap old same ∙ t)))
any_by old p a n ns t s rest false e (inr more) = rest more

pub any_at : (old p : ℕ → Bool) (a c n : ℕ) → a ≤ n → n < a + c → old n ≡ true → p n ≡ true → list_any p (filter old (range_with_len a c)) ≡ true
any_at old p a zero n l h t s = absurd (omega (arith, l, h))
any_at old p a (suc c) n l h t s =
    any_by old p a n (filter old (range_with_len (a + 1) c)) t s (λ more. any_at old p (a + 1) c n more (omega (arith, h)) t s) (old a) refl
    (later a n l)

-- no number passes
any_none : (p : ℕ → Bool) (ns : List ℕ) → AllByRecursion (λ n. p n ≡ false) ns → list_any p ns ≡ false
any_none p [] h = refl
any_none p (n ∷ ns) h = ap (λ z. z || list_any p ns) h.0 ∙ any_none p ns h.1

-- the rank of an item is among those of the items that pass, exactly where the item passes
module _ (has old : ℕ → Bool) (only : (k : ℕ) → old k ≡ true → has k ≡ true) (size n : ℕ) (l : n < size) (h : has n ≡ true) where
  rank_other : (k : ℕ) → old k ≡ true → old n ≡ false → (count_below has n == count_below has k) ≡ false
  rank_other k t e =
      false_from_ne_true (count_below has n == count_below has k)
      (λ q. elim (eqb_tells (count_below has n) (count_below has k)) [
        | inl s ↦ false≢true (sym e ∙ (ap old (counts_differ has n k h (only k t) s.1) ∙ t))
        | inr d ↦ false≢true (sym d.0 ∙ q)
      ])

  same_rank : (count_below has n == count_below has n) ≡ true
  same_rank = elim (eqb_tells (count_below has n) (count_below has n)) [ inl s ↦ s.0 | inr d ↦ absurd (d.1 refl) ]

  pub any_rank : list_any (λ k. count_below has n == count_below has k) (filter old (range_with_len 0 size)) ≡ old n
  any_rank = by (old n) refl
    where
      by : (b : Bool) → old n ≡ b → list_any (λ k. count_below has n == count_below has k) (filter old (range_with_len 0 size)) ≡ b
      by true t = any_at old (λ k. count_below has n == count_below has k) 0 size n (omega arith) (omega (arith, l)) t same_rank
      by false e =
          any_none (λ k. count_below has n == count_below has k) (filter old (range_with_len 0 size))
          (each_weaker (IsMember old size) (λ k. (count_below has n == count_below has k) ≡ false) (filter old (range_with_len 0 size))
          (λ k i. rank_other k i.0 e) (members old size))

-- the name under a rank

lookup_named : (g : ℕ → ℕ) (j : ℕ) (name : List ℕ) (ns : List ℕ) (rest : List GlobalNameValue)
    → lookup (λ k. j == k) (map (λ n. (g n, name)) ns ++ rest) ≡ cond (list_any (λ n. j == g n) ns) (Some name) (lookup (λ k. j == k) rest)
lookup_named g j name [] rest = refl
lookup_named g j name (n ∷ ns) rest =
    elim (j == g n) as (λ b. cond b (Some name) (lookup (λ k. j == k) (map (λ n. (g n, name)) ns ++ rest))
    ≡ cond (b || list_any (λ n. j == g n) ns) (Some name) (lookup (λ k. j == k) rest)) [
      | true ↦ refl
      | false ↦ lookup_named g j name ns rest
    ]

lookup_last : (g : ℕ → ℕ) (j : ℕ) (name : List ℕ) (ns : List ℕ) → lookup (λ k. j == k) (map (λ n. (g n, name)) ns)
    ≡ cond (list_any (λ n. j == g n) ns) (Some name) None
lookup_last g j name [] = refl
lookup_last g j name (n ∷ ns) =
    elim (j == g n) as (λ b. cond b (Some name) (lookup (λ k. j == k) (map (λ n. (g n, name)) ns))
    ≡ cond (b || list_any (λ n. j == g n) ns) (Some name) None) [
      | true ↦ refl
      | false ↦ lookup_last g j name ns
    ]

-- a name is not that of a stack pointer and of a state
one_name : (o : Option (List ℕ)) → option_map_or (λ k. bytes_eq k stack_pointer) o false ≡ true
    → option_map_or (λ k. bytes_eq k allocation_state) o false ≡ false
one_name None h = refl
one_name (Some k) h = let e : k ≡ stack_pointer = (bytes_eq-Decides k stack_pointer).0 h in ap (λ z. bytes_eq z allocation_state) e

first_named : (mutable a b : Bool)
    → (mutable && option_map_or (λ k. bytes_eq k stack_pointer)
    (cond (mutable && a) (Some stack_pointer) (cond (mutable && b) (Some allocation_state) None)) false) ≡ (mutable && a)
first_named true true b = refl
first_named true false true = refl
first_named true false false = refl
first_named false a b = refl

second_named : (mutable a b : Bool) → (a ≡ true → b ≡ false)
    → (mutable && option_map_or (λ k. bytes_eq k allocation_state)
    (cond (mutable && a) (Some stack_pointer) (cond (mutable && b) (Some allocation_state) None)) false) ≡ (mutable && b)
second_named true true true h = absurd (false≢true (sym (h refl)))
second_named true true false h = refl
second_named true false true h = refl
second_named true false false h = refl
second_named false a b h = refl

-- a test of an item answers the same at its rank

module _ {A : Type 0} (has : ℕ → Bool) (xs : List A) (n : ℕ) (l : n < length xs) (h : has n ≡ true) where
  pub test_at : (p : A → Bool) → option_map_or p (slice_get (kept_items has (length xs) xs) (count_below has n)) false
      ≡ option_map_or p (slice_get xs n) false
  test_at p = let x = get_some xs n l in ap (λ o. option_map_or p o false) (rank_at has xs n x.0 x.1 h ∙ sym x.1)

  view_test : {B : Type 0} (p : A → Bool) (q : B → Bool) (view : A → B) → ((x : A) → q (view x) ≡ p x) → (o : Option A)
      → option_map_or q (option_map view o) false ≡ option_map_or p o false
  view_test p q view e None = refl
  view_test p q view e (Some x) = e x

  pub test_seen : {B : Type 0} (p : A → Bool) (q : B → Bool) (view : A → B) → ((x : A) → q (view x) ≡ p x)
      → option_map_or q (slice_get (map view (kept_items has (length xs) xs)) (count_below has n)) false ≡ option_map_or p (slice_get xs n) false
  test_seen p q view e =
      ap (λ o. option_map_or q o false) (slice_get-map view (kept_items has (length xs) xs) (count_below has n))
      ∙ (view_test p q view e (slice_get (kept_items has (length xs) xs) (count_below has n)) ∙ test_at p)

-- in each list that is found, the second module has the ranks of what the first has

pub record AreRanks (live : ItemIndex → Bool) (f g : FoundView) : Type 0 where
  pub stacks : g.stacks ≡ map (rank live Globals) f.stacks
  pub states : g.states ≡ map (rank live Globals) f.states
  pub reallocs : g.reallocs ≡ map (rank live Funcs) f.reallocs
  pub tables : g.tables ≡ map (rank live Tables) f.tables
  pub memories : g.memories ≡ map (rank live Memories) f.memories
  pub empties : g.empties ≡ map (rank live Types) f.empties
  pub live_reallocs : AllByRecursion (λ n. live (Funcs, n) ≡ true) f.reallocs
  pub live_memories : AllByRecursion (λ n. live (Memories, n) ≡ true) f.memories
  pub live_empties : AllByRecursion (λ n. live (Types, n) ≡ true) f.empties

module _ (m : DecodedModule) (exports : List ExportValue) (live : ItemIndex → Bool) where
  abbrev pub cut : DecodedModule
  cut = record {
    types = map (renumber_func_type (rank live)) (kept_of m live Types m.types);
    funcs = map (renumber_func (rank live)) (kept_of m live Funcs m.funcs);
    tables = map (new_table (rank live)) (kept_of m live Tables m.tables);
    memories = kept_of m live Memories m.memories;
    globals = map (renumber_global (rank live)) (kept_of m live Globals m.globals);
    exports = map (new_export (rank live)) exports;
    start = None;
    global_names = part_names m live;
    producers = m.producers;
    ids = [];
  }

  pub cut_is : cut_of m exports live ≡ cut
  unfolding cut_of
  cut_is = refl

  -- the sizes of spaces

  pub types_kept : length cut.types ≡ rank live Types (length m.types)
  types_kept = length-map (kept_of m live Types m.types) (renumber_func_type (rank live)) ∙ kept_count (λ n. live (Types, n)) m.types

  pub funcs_kept : length cut.funcs ≡ rank live Funcs (length m.funcs)
  funcs_kept = length-map (kept_of m live Funcs m.funcs) (renumber_func (rank live)) ∙ kept_count (λ n. live (Funcs, n)) m.funcs

  pub tables_kept : length cut.tables ≡ rank live Tables (length m.tables)
  tables_kept = length-map (kept_of m live Tables m.tables) (new_table (rank live)) ∙ kept_count (λ n. live (Tables, n)) m.tables

  pub memories_kept : length cut.memories ≡ rank live Memories (length m.memories)
  memories_kept = kept_count (λ n. live (Memories, n)) m.memories

  pub globals_kept : length cut.globals ≡ rank live Globals (length m.globals)
  globals_kept = length-map (kept_of m live Globals m.globals) (renumber_global (rank live)) ∙ kept_count (λ n. live (Globals, n)) m.globals

  -- what is sought, at ranks

  abbrev is_live_named : List ℕ → ℕ → Bool
  is_live_named name n = live (Globals, n) && is_named_at m name n

  only_live : (name : List ℕ) (n : ℕ) → is_live_named name n ≡ true → live (Globals, n) ≡ true
  only_live name n h = (and_parts (live (Globals, n)) (is_named_at m name n) h).0

  mutable_at : (n : ℕ) → n < length m.globals → live (Globals, n) ≡ true → is_mutable_i32_at cut (rank live Globals n) ≡ is_mutable_i32_at m n
  mutable_at n l h =
      test_seen (λ k. live (Globals, k)) m.globals n l h (λ (g : GlobalCode). is_mutable_i32 g.ty) (λ (g : GlobalCode). is_mutable_i32 g.ty)
      (renumber_global (rank live)) (λ g. mutable_under (rank live) g.ty)

  abbrev name_of : ℕ → Option (List ℕ)
  name_of n = cond (is_named_at m stack_pointer n) (Some stack_pointer) (cond (is_named_at m allocation_state n) (Some allocation_state) None)

  name_at : (n : ℕ) → n < length m.globals → live (Globals, n) ≡ true → lookup (λ k. rank live Globals n == k) (part_names m live) ≡ name_of n
  unfolding found_in
  name_at n l h =
      let has : ℕ → Bool = λ k. live (Globals, k) in
      let stacks = filter (is_live_named stack_pointer) (range_with_len 0 (length m.globals)) in
      let states = filter (is_live_named allocation_state) (range_with_len 0 (length m.globals)) in
      let one = any_rank has (is_live_named stack_pointer) (only_live stack_pointer) (length m.globals) n l h
      ∙ ap (λ b. b && is_named_at m stack_pointer n) h in
      let two = any_rank has (is_live_named allocation_state) (only_live allocation_state) (length m.globals) n l h
      ∙ ap (λ b. b && is_named_at m allocation_state n) h in
      lookup_named (rank live Globals) (rank live Globals n) stack_pointer stacks (ranks_named live allocation_state states)
      ∙ (ap (λ b. cond b (Some stack_pointer) (lookup (λ k. rank live Globals n == k) (ranks_named live allocation_state states))) one
      ∙ ap (λ o. cond (is_named_at m stack_pointer n) (Some stack_pointer) o)
      (lookup_last (rank live Globals) (rank live Globals n) allocation_state states ∙ ap (λ b. cond b (Some allocation_state) None) two))

  stack_at : (n : ℕ) → n < length m.globals → live (Globals, n) ≡ true → is_named_at cut stack_pointer (rank live Globals n)
      ≡ is_named_at m stack_pointer n
  stack_at n l h =
      ap (λ b. b && has_name cut stack_pointer (rank live Globals n)) (mutable_at n l h)
      ∙ (ap (λ o. is_mutable_i32_at m n && option_map_or (λ k. bytes_eq k stack_pointer) o false) (name_at n l h)
      ∙ first_named (is_mutable_i32_at m n) (has_name m stack_pointer n) (has_name m allocation_state n))

  state_at : (n : ℕ) → n < length m.globals → live (Globals, n) ≡ true → is_named_at cut allocation_state (rank live Globals n)
      ≡ is_named_at m allocation_state n
  state_at n l h =
      ap (λ b. b && has_name cut allocation_state (rank live Globals n)) (mutable_at n l h)
      ∙ (ap (λ o. is_mutable_i32_at m n && option_map_or (λ k. bytes_eq k allocation_state) o false) (name_at n l h)
      ∙ second_named (is_mutable_i32_at m n) (has_name m stack_pointer n) (has_name m allocation_state n)
      (one_name (lookup (λ k. n == k) m.global_names)))

  realloc_at : (n : ℕ) → n < length m.funcs → live (Funcs, n) ≡ true → is_realloc_at cut (rank live Funcs n) ≡ is_realloc_at m n
  realloc_at n l h =
      test_seen (λ k. live (Funcs, k)) m.funcs n l h (λ (f : FuncCode). is_realloc f.def) (λ (f : FuncCode). is_realloc f.def)
      (renumber_func (rank live)) (λ f. realloc_seen (option_map (renumber_body (rank live))) f.def)

  empty_at : (n : ℕ) → n < length m.types → live (Types, n) ≡ true → is_empty_type_at cut (rank live Types n) ≡ is_empty_type_at m n
  empty_at n l h =
      test_seen (λ k. live (Types, k)) m.types n l h is_empty_type is_empty_type (renumber_func_type (rank live)) (empty_type_under (rank live))

  -- what is sought, in a space
  moved : (has old new : ℕ → Bool) (size kept : ℕ) → kept ≡ count_below has size → AreSameTests has size old new → filter new (range_with_len 0 kept)
      ≡ map (count_below has) (filter old (range_with_len 0 size))
  moved has old new size kept e t = ap (λ k. filter new (range_with_len 0 k)) e ∙ filter_moved has size old new t size (omega arith)

  live_members : (has test : ℕ → Bool) (size : ℕ) → AllByRecursion (λ n. has n ≡ true) (filter (λ n. has n && test n) (range_with_len 0 size))
  live_members has test size =
      each_weaker (IsMember (λ n. has n && test n) size) (λ n. has n ≡ true) (filter (λ n. has n && test n) (range_with_len 0 size))
      (λ n i. (and_parts (has n) (test n) i.0).0)
      (members (λ n. has n && test n) size)

  pub found_moved : AreRanks live (found_in m live) (found_in cut all_items)
  unfolding found_in
  found_moved = record {
    stacks =
        moved (λ n. live (Globals, n)) (λ n. live (Globals, n) && is_named_at m stack_pointer n) (λ n. is_named_at cut stack_pointer n)
        (length m.globals) (length cut.globals) globals_kept
        (record {
          same = λ n l h. and_of_true (live (Globals, n)) (is_named_at m stack_pointer n)
              (is_named_at cut stack_pointer (rank live Globals n)) h (stack_at n l h);
          none = λ n h. and_left (live (Globals, n))
              (is_named_at m stack_pointer n) h;
        });
    states =
        moved (λ n. live (Globals, n)) (λ n. live (Globals, n) && is_named_at m allocation_state n) (λ n. is_named_at cut allocation_state n)
        (length m.globals) (length cut.globals) globals_kept
        (record {
          same = λ n l h. and_of_true (live (Globals, n)) (is_named_at m allocation_state n)
              (is_named_at cut allocation_state (rank live Globals n)) h (state_at n l h);
          none = λ n h. and_left (live (Globals, n))
              (is_named_at m allocation_state n) h;
        });
    reallocs =
        moved (λ n. live (Funcs, n)) (λ n. live (Funcs, n) && is_realloc_at m n) (λ n. is_realloc_at cut n) (length m.funcs)
        (length cut.funcs) funcs_kept
        (record {
          same = λ n l h. and_of_true (live (Funcs, n)) (is_realloc_at m n) (is_realloc_at cut (rank live Funcs n)) h
              (realloc_at n l h);
          none = λ n h. and_left (live (Funcs, n)) (is_realloc_at m n) h;
        });
    tables =
        moved (λ n. live (Tables, n)) (λ n. live (Tables, n)) (λ n. true) (length m.tables) (length cut.tables) tables_kept
        (record { same = λ n l h. sym h; none = λ n h. h });
    memories =
        moved (λ n. live (Memories, n)) (λ n. live (Memories, n)) (λ n. true) (length m.memories) (length cut.memories) memories_kept
        (record { same = λ n l h. sym h; none = λ n h. h });
    empties =
        moved (λ n. live (Types, n)) (λ n. live (Types, n) && is_empty_type_at m n) (λ n. is_empty_type_at cut n) (length m.types)
        (length cut.types) types_kept
        (record {
          same = λ n l h. and_of_true (live (Types, n)) (is_empty_type_at m n) (is_empty_type_at cut (rank live Types n)) h
              (empty_at n l h);
          none = λ n h. and_left (live (Types, n)) (is_empty_type_at m n) h;
        });
    live_reallocs = live_members (λ n. live (Funcs, n)) (λ n. is_realloc_at m n) (length m.funcs);
    live_memories =
        each_weaker (IsMember (λ n. live (Memories, n)) (length m.memories)) (λ n. live (Memories, n) ≡ true)
        (filter (λ n. live (Memories, n)) (range_with_len 0 (length m.memories))) (λ n i. i.0)
        (members (λ n. live (Memories, n)) (length m.memories));
    live_empties = live_members (λ n. live (Types, n)) (λ n. is_empty_type_at m n) (length m.types);
  }

-- which parts are added is a matter of lengths

abbrev parts_by : SettingsView → ℕ → ℕ → ℕ → ℕ → Parts
parts_by s stacks states reallocs memories =
    let lazy = not (stacks == 0) && not (states == 0) && is_some s.realloc in
    let start = not (stacks == 0) && not (memories == 0) && not lazy in
    record {
      import_realloc = is_some s.realloc && not (stacks == 0) && (reallocs == 0);
      lazy = lazy;
      growing = start && ((states == 0) || (not (is_some s.realloc) && (reallocs == 0)));
      start = start;
    }

parts_counted : (s : SettingsView) (f : FoundView) → parts_of s f
    ≡ parts_by s (length f.stacks) (length f.states) (length f.reallocs) (length f.memories)
parts_counted s f = refl

pub same_length : (xs ys : List ℕ) (g : ℕ → ℕ) → ys ≡ map g xs → length ys ≡ length xs
same_length xs ys g e = ap length e ∙ length-map xs g

pub parts_same : (s : SettingsView) (live : ItemIndex → Bool) (f g : FoundView) → AreRanks live f g → parts_of s g ≡ parts_of s f
parts_same s live f g r =
    parts_counted s g
    ∙ (ap (λ k. parts_by s k (length g.states) (length g.reallocs) (length g.memories)) (same_length f.stacks g.stacks (rank live Globals) r.stacks)
    ∙ (ap (λ k. parts_by s (length f.stacks) k (length g.reallocs) (length g.memories)) (same_length f.states g.states (rank live Globals) r.states)
    ∙ (ap (λ k. parts_by s (length f.stacks) (length f.states) k (length g.memories)) (same_length f.reallocs g.reallocs (rank live Funcs) r.reallocs)
    ∙ (ap (λ k. parts_by s (length f.stacks) (length f.states) (length f.reallocs) k)
    (same_length f.memories g.memories (rank live Memories) r.memories)
    ∙ sym (parts_counted s f)))))

-- a module without a stack pointer has none of them

stackless : (realloc : Option (List ℕ)) (page_size_log2 states reallocs memories : ℕ)
    → parts_by (record { realloc = realloc; page_size_log2 = page_size_log2 }) 0 states reallocs memories
    ≡ record { import_realloc = false; lazy = false; growing = false; start = false }
stackless None page_size_log2 states reallocs memories = refl
stackless (Some name) page_size_log2 states reallocs memories = refl

pub parts_stackless : (s : SettingsView) (f : FoundView) → length f.stacks ≡ 0 → parts_of s f
    ≡ record { import_realloc = false; lazy = false; growing = false; start = false }
parts_stackless s f e =
    parts_counted s f ∙ (ap (λ k. parts_by s k (length f.states) (length f.reallocs) (length f.memories)) e
    ∙ stackless s.realloc s.page_size_log2 (length f.states) (length f.reallocs) (length f.memories))
