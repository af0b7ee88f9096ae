-- Functions that are reached and call through tables are those that may call.
use Rattle.std.proofs.Common.{◌≡◌, ℕ, zero, suc, ◌+◌, ◌-◌, ◌<◌, Bool, true, false, cond, List, [], ◌∷◌, ◌++◌, length, map, Option, Some, None, nat_eq, ◌||◌, ◌&&◌, refl, sym, ◌∙◌, ap, subst, arith, inl, inr, All, append-nil}
use Rattle.std.specs.Prelude.{Contains, MatchOption, filter}
use Rattle.std.specs.Borrow.{Bor}
use Rattle.std.specs.List.{list_any, range_with_len, slice_get}
use Rattle.std.specs.Option.{option_and_then, option_map, option_map_or}
use Rattle.std.proofs.lemmas.Bool.{and_from, and_parts, cases_Bool, eqb-true, or_cases}
use Rattle.std.proofs.lemmas.List.{length-map}
use Rattle.std.proofs.lemmas.List.Elements.{All-filter, filter-append}
use Rattle.std.proofs.lemmas.List.Folds.{list_any_at}
use Rattle.std.proofs.lemmas.List.FromFn.{get_or-range_with_len, length-range_with_len}
use Rattle.std.proofs.lemmas.Option.{get_or_from_slice_get, same_Some, slice_get-map, slice_get_cases, slice_get_within}
use Rattle.wc_read.specs.Bodies.{BodyValue}
use Rattle.wc_read.specs.BodyOperators.{body_in}
use Rattle.wc_read.specs.Items.{DefValue, func_value, imported, local}
use Rattle.wc_read.specs.Operators.{ImmediatesValue, InstrValue, WithNone, WithBlock, WithIndex, WithIndices, WithLabels, WithValTypes, WithRefType, WithMemArg, WithMemArgLane, WithI32, WithI64, WithBytes, WithLane, index_of}
use Rattle.wc_read.specs.Types.{FuncTypeValue}
use Rattle.wc_read.specs.declared.items.Item.{Item as code_item}
use Rattle.wc_read.specs.declared.operators.Index.{Index}
use Rattle.wc_read.specs.declared.operators.IndexKind.{IndexKind}
use Rattle.wc_read.specs.declared.operators.IndexKind.TheVariants.{In, Elem, Data as data_kind, Local, Label}
use Rattle.wc_read.specs.declared.operators.Space.TheVariants.{Types, Funcs, Tables, Memories, Globals}
use Rattle.wc_read.specs.Items.{item_seen}
use Rattle.wc_read.specs.Decoded.{FuncCode, func_code}
use Rattle.wc_graph.proofs.ListLemmas.{range_more}
use Rattle.wc_segments.specs.Elements.{ElementValue, element_value}
use Rattle.wc_segments.specs.declared.elements.ElementSegment.{ElementSegment}
use Rattle.wc_paths.specs.CallLists.{CallKey, CallLists, is_call_key, listed}
use Rattle.wc_paths.specs.Callers.{AreCallers, AreCallersBetween, AreReached, CallsThrough, HasCall, IsCalling, calling_of, filled_table, function_type, is_reached, put_in_table, table_of}
use Rattle.wc_graph.specs.Private.Places.{entry_by}
use Rattle.wc_segments.specs.Modes.{ModeValue, passive, active, declarative}
use Rattle.wc_paths.specs.Roots.{is_active}
use Rattle.wc_paths.specs.Items.{GraphValue}
use Rattle.wc_paths.specs.Private.CallLists.{ListsUnder, call_key, is_call, is_last, key_by, with_last}
use Rattle.wc_paths.specs.Private.Callers.{calls_at, calls_reached, def_calls}
use Rattle.wc_paths.specs.Private.EqualTypes.{AreFirstEqual, IsFirstType}
use Rattle.wc_paths.specs.declared.callers.Callers.{Callers}
use Rattle.wc_paths.specs.declared.items.PathItem.{PathItem}
use Rattle.wc_paths.specs.declared.items.PathItem.TheVariants.{Item, Elements, Data}
use Rattle.wc_paths.proofs.CallListLemmas.{key_same, nat_eq_same}
use Rattle.wc_paths.proofs.EqualTypeLemmas.{first_one, first_same}

-- an operator calls exactly where it has the key

abbrev space_kind : IndexKind → ℕ → Index
space_kind kind n = record { kind = kind; number = n }

module _ (firsts : List ℕ) (q : CallKey) where
  pub record HasKey (v : ImmediatesValue) : Type 0 where
    pub index : ℕ
    pub names : v ≡ WithIndices (index_of (In Types) index) (index_of (In Tables) q.0)
    pub first : slice_get firsts index ≡ Some q.1

  by_first : (i table : ℕ) (o : Option ℕ) → slice_get firsts i ≡ o → option_map (λ f. (table, f)) o ≡ Some q
      → HasKey (WithIndices (index_of (In Types) i) (index_of (In Tables) table))
  by_first i table None at e = absurd (let bad : ⊥ = cc e in bad)
  by_first i table (Some f) at e =
      let same = same_Some (table, f) q e in
      record {
        index = i;
        names = ap (λ (z : CallKey). WithIndices (index_of (In Types) i) (index_of (In Tables) z.0)) same;
        first = at ∙ ap (λ (z : CallKey). Some z.1) same;
      }

  by_kinds : (a : IndexKind) (i : ℕ) (b : IndexKind) (j : ℕ) → key_by firsts a i b j ≡ Some q → HasKey (WithIndices (space_kind a i) (space_kind b j))
  by_kinds (In Types) i (In Tables) j e = by_first i j (slice_get firsts i) refl e
  by_kinds (In Types) i (In Types) j e = absurd (let bad : ⊥ = cc e in bad)
  by_kinds (In Types) i (In Funcs) j e = absurd (let bad : ⊥ = cc e in bad)
  by_kinds (In Types) i (In Memories) j e = absurd (let bad : ⊥ = cc e in bad)
  by_kinds (In Types) i (In Globals) j e = absurd (let bad : ⊥ = cc e in bad)
  by_kinds (In Types) i Elem j e = absurd (let bad : ⊥ = cc e in bad)
  by_kinds (In Types) i data_kind j e = absurd (let bad : ⊥ = cc e in bad)
  by_kinds (In Types) i Local j e = absurd (let bad : ⊥ = cc e in bad)
  by_kinds (In Types) i Label j e = absurd (let bad : ⊥ = cc e in bad)
  by_kinds (In Funcs) i b j e = absurd (let bad : ⊥ = cc e in bad)
  by_kinds (In Tables) i b j e = absurd (let bad : ⊥ = cc e in bad)
  by_kinds (In Memories) i b j e = absurd (let bad : ⊥ = cc e in bad)
  by_kinds (In Globals) i b j e = absurd (let bad : ⊥ = cc e in bad)
  by_kinds Elem i b j e = absurd (let bad : ⊥ = cc e in bad)
  by_kinds data_kind i b j e = absurd (let bad : ⊥ = cc e in bad)
  by_kinds Local i b j e = absurd (let bad : ⊥ = cc e in bad)
  by_kinds Label i b j e = absurd (let bad : ⊥ = cc e in bad)

  key_to : (v : ImmediatesValue) → call_key firsts v ≡ Some q → HasKey v
  key_to (WithIndices i j) e = by_kinds i.kind i.number j.kind j.number e
  key_to WithNone e = absurd (let bad : ⊥ = cc e in bad)
  key_to (WithBlock b) e = absurd (let bad : ⊥ = cc e in bad)
  key_to (WithIndex i) e = absurd (let bad : ⊥ = cc e in bad)
  key_to (WithLabels ls l) e = absurd (let bad : ⊥ = cc e in bad)
  key_to (WithValTypes ts) e = absurd (let bad : ⊥ = cc e in bad)
  key_to (WithRefType t) e = absurd (let bad : ⊥ = cc e in bad)
  key_to (WithMemArg m) e = absurd (let bad : ⊥ = cc e in bad)
  key_to (WithMemArgLane m l) e = absurd (let bad : ⊥ = cc e in bad)
  key_to (WithI32 n) e = absurd (let bad : ⊥ = cc e in bad)
  key_to (WithI64 n) e = absurd (let bad : ⊥ = cc e in bad)
  key_to (WithBytes bs) e = absurd (let bad : ⊥ = cc e in bad)
  key_to (WithLane l) e = absurd (let bad : ⊥ = cc e in bad)

  tested : (o : Option CallKey) → option_map_or (λ (k : CallKey). is_call_key k q) o false ≡ true → o ≡ Some q
  tested None h = absurd (let bad : ⊥ = cc h in bad)
  tested (Some k) h = ap (λ (z : CallKey). Some z) (key_same k q h)

  pub call_has_key : (i : InstrValue) → is_call firsts q i ≡ true → HasKey i.immediates
  call_has_key i h = key_to i.immediates (tested (call_key firsts i.immediates) h)

  pub key_is_call : (i : InstrValue) → HasKey i.immediates → is_call firsts q i ≡ true
  key_is_call i h =
      ap (λ (v : ImmediatesValue). option_map_or (λ (k : CallKey). is_call_key k q) (call_key firsts v) false) h.names
      ∙ (ap (λ (o : Option ℕ). option_map_or (λ (k : CallKey). is_call_key k q) (option_map (λ f. (q.0, f)) o) false) h.first
      ∙ and_from (nat_eq q.0 q.0) (nat_eq q.1 q.1) (nat_eq_same q.0) (nat_eq_same q.1))

-- something that passes a test is there where some does
pub any_found : {X : Type 0} (test : X → Bool) (xs : List X) → list_any test xs ≡ true → (x : X) × Contains xs x × (test x ≡ true)
any_found test [] h = absurd (let bad : ⊥ = cc h in bad)
any_found {X} test (x ∷ xs) h =
    elim (or_cases (test x) (list_any test xs) h) [
      | inl here ↦ (x, (0, omega arith, refl), here)
      | inr rest ↦ more (any_found test xs rest)
    ]
  where
    more : (y : X) × Contains xs y × (test y ≡ true) → (y : X) × Contains (x ∷ xs) y × (test y ≡ true)
    more (y, (k, lt, e), passes) = (y, (suc k, omega (arith, lt), e), passes)

-- a function calls exactly where it has such an operator

module _ (g : GraphValue) (firsts : List ℕ) (f : AreFirstEqual g.code.types firsts) (q : CallKey) (ty : FuncTypeValue) (is : IsFirstType g.code.types ty q.1) where
  type_there : (i k : ℕ) → slice_get firsts i ≡ Some k → (t : FuncTypeValue) × (slice_get g.code.types i ≡ Some t)
  type_there i k at =
      elim (slice_get_cases g.code.types i).1 [
        | inl there ↦ (there.0, there.2)
        | inr past ↦ absurd (let lt = slice_get_within firsts i k at in let s = f.sized in let le = past.0 in omega (arith, lt, s, le))
      ]

  first_there : (i : ℕ) (t : FuncTypeValue) → slice_get g.code.types i ≡ Some t → (k : ℕ) × (slice_get firsts i ≡ Some k)
  first_there i t at =
      elim (slice_get_cases firsts i).1 [
        | inl there ↦ (there.0, there.2)
        | inr past ↦ absurd (let lt = slice_get_within g.code.types i t at in let s = f.sized in let le = past.0 in omega (arith, lt, s, le))
      ]

  through_to : (i : InstrValue) → HasKey firsts q i.immediates → CallsThrough g.code.types q.0 ty i
  through_to i h =
      let t = type_there h.index q.1 h.first in
      record {
        index = h.index;
        names = h.names;
        typed = t.1 ∙ ap (λ (z : FuncTypeValue). Some z) (first_one g.code.types t.0 ty q.1 (f.at h.index q.1 t.0 h.first t.1) is);
      }

  through_from : (i : InstrValue) → CallsThrough g.code.types q.0 ty i → HasKey firsts q i.immediates
  through_from i h =
      let k = first_there h.index ty h.typed in
      record {
        index = h.index;
        names = h.names;
        first = k.1 ∙ ap (λ (z : ℕ). Some z) (first_same g.code.types ty k.0 q.1 (f.at h.index k.0 ty k.1 h.typed) is);
      }

  with_def : (n : ℕ) (func : FuncCode) → slice_get g.code.funcs n ≡ Some func → (d : DefValue (Option BodyValue)) → func.def ≡ d → def_calls firsts q d ≡ true
      → HasCall g.code q.0 ty n
  with_def n func at (imported m name) e h = absurd (let bad : ⊥ = cc h in bad)
  with_def n func at (local None) e h = absurd (let bad : ⊥ = cc h in bad)
  with_def n func at (local (Some body)) e h =
      let found = any_found (is_call firsts q) body.operators h in
      record {
        func = func;
        is = at;
        body = body;
        code = e;
        operator = found.0;
        there = found.1;
        calls = through_to found.0 (call_has_key firsts q found.0 found.2);
      }

  with_func : (n : ℕ) (o : Option FuncCode) → slice_get g.code.funcs n ≡ o → option_map_or (λ (z : FuncCode). def_calls firsts q z.def) o false ≡ true
      → HasCall g.code q.0 ty n
  with_func n None at h = absurd (let bad : ⊥ = cc h in bad)
  with_func n (Some func) at h = with_def n func at func.def refl h

  pub calls_to : (n : ℕ) → calls_at firsts g.code.funcs q n ≡ true → HasCall g.code q.0 ty n
  calls_to n h = with_func n (slice_get g.code.funcs n) refl h

  pub calls_from : (n : ℕ) → HasCall g.code q.0 ty n → calls_at firsts g.code.funcs q n ≡ true
  calls_from n h =
      ap (λ (o : Option FuncCode). option_map_or (λ (z : FuncCode). def_calls firsts q z.def) o false) h.is
      ∙ (ap (def_calls firsts q) h.code
      ∙ list_any_at (is_call firsts q) h.body.operators h.there.0 h.operator h.there.1 (ap (is_call firsts q) h.there.2 ∙ key_is_call firsts q h.operator (through_from h.operator h.calls)))

-- those that are listed are those that may call

module _ (g : GraphValue) (first second : List PathItem) (p : List Bool) (a : AreReached g first second p) (firsts : List ℕ) (f : AreFirstEqual g.code.types firsts) (c : Callers)
    (tables : c.tables.items ≡ map (λ (e : ElementValue). table_of e.mode) g.segments.elements)
    (types : c.types.items ≡ map (λ (z : FuncCode). slice_get firsts z.ty) g.code.funcs)
    (lists : (q : CallKey) → listed c.lists.entries q ≡ filter (calls_reached p firsts g.code.funcs q) (range_with_len 0 (length g.code.funcs))) where
  callers_listed : (q : CallKey) (ty : FuncTypeValue) → IsFirstType g.code.types ty q.1 → AreCallers g first second q.0 ty (listed c.lists.entries q)
  callers_listed q ty is = record {
    is_caller = calls_reached p firsts g.code.funcs q;
    tells = λ n. (
      (λ h.
          let both = and_parts (is_reached p n) (calls_at firsts g.code.funcs q n) h in
          ((a n).0 both.0, calls_to g firsts f q ty is n both.1)),
      (λ h.
          and_from (is_reached p n) (calls_at firsts g.code.funcs q n) ((a n).1 h.0)
          (calls_from g firsts f q ty is n h.1)),
    );
    are = lists q;
  }

  -- by what is put in a table, and by the key
  abbrev IsListedBy : Option (ℕ × FuncTypeValue) → Option CallKey → Type 0
  IsListedBy put key =
      MatchOption put (option_map_or (listed c.lists.entries) key [] ≡ []) (λ z. AreCallers g first second z.0 z.1 (option_map_or (listed c.lists.entries) key []))

  by_type : (table i : ℕ) (o : Option FuncTypeValue) (k : Option ℕ) → slice_get g.code.types i ≡ o → slice_get firsts i ≡ k
      → IsListedBy (option_map (λ ty. (table, ty)) o) (option_map (λ ty. (table, ty)) k)
  by_type table i None None at e = refl
  by_type table i None (Some k) at e =
      absurd (elim (slice_get_cases g.code.types i).1 [
        | inl there ↦ (let bad : None ≡ Some there.0 = sym at ∙ there.2 in let z : ⊥ = cc bad in z)
        | inr past ↦ (let lt = slice_get_within firsts i k e in let s = f.sized in let le = past.0 in omega (arith, lt, s, le))
      ])
  by_type table i (Some ty) None at e =
      absurd (elim (slice_get_cases firsts i).1 [
        | inl there ↦ (let bad : None ≡ Some there.0 = sym e ∙ there.2 in let z : ⊥ = cc bad in z)
        | inr past ↦ (let lt = slice_get_within g.code.types i ty at in let s = f.sized in let le = past.0 in omega (arith, lt, s, le))
      ])
  by_type table i (Some ty) (Some k) at e = callers_listed (table, k) ty (f.at i k ty e at)

  by_parts : (table : Option ℕ) (func : Option FuncCode)
      → IsListedBy (option_and_then (λ t. option_map (λ ty. (t, ty)) (option_and_then (λ (z : FuncCode). slice_get g.code.types z.ty) func)) table)
      (option_and_then (λ t. option_map (λ ty. (t, ty)) (option_and_then (λ (z : FuncCode). slice_get firsts z.ty) func)) table)
  by_parts None func = refl
  by_parts (Some t) None = refl
  by_parts (Some t) (Some z) = by_type t z.ty (slice_get g.code.types z.ty) (slice_get firsts z.ty) refl refl

  entry_mapped : {X : Type 0} (v : X → Option ℕ) (o : Option X) → entry_by (option_map v o) ≡ option_and_then v o
  entry_mapped v None = refl
  entry_mapped v (Some x) = refl

  table_entry : (n : ℕ) → entry_by (slice_get c.tables.items n) ≡ filled_table g.segments.elements n
  table_entry n =
      ap (λ (xs : List (Option ℕ)). entry_by (slice_get xs n)) tables
      ∙ (ap entry_by (slice_get-map (λ (e : ElementValue). table_of e.mode) g.segments.elements n)
      ∙ entry_mapped (λ (e : ElementValue). table_of e.mode) (slice_get g.segments.elements n))

  type_entry : (n : ℕ) → entry_by (slice_get c.types.items n) ≡ option_and_then (λ (z : FuncCode). slice_get firsts z.ty) (slice_get g.code.funcs n)
  type_entry n =
      ap (λ (xs : List (Option ℕ)). entry_by (slice_get xs n)) types
      ∙ (ap entry_by (slice_get-map (λ (z : FuncCode). slice_get firsts z.ty) g.code.funcs n)
      ∙ entry_mapped (λ (z : FuncCode). slice_get firsts z.ty) (slice_get g.code.funcs n))

  in_table : (n m : ℕ) → AreCallersBetween g first second (Elements n) (Item Funcs m) (calling_of c (Elements n) (Item Funcs m))
  in_table n m =
      subst (λ (t : Option ℕ). IsListedBy (put_in_table g (Elements n) (Item Funcs m))
      (option_and_then (λ table. option_map (λ ty. (table, ty)) (entry_by (slice_get c.types.items m))) t)) (sym (table_entry n))
      (subst (λ (t : Option ℕ). IsListedBy (put_in_table g (Elements n) (Item Funcs m))
      (option_and_then (λ table. option_map (λ ty. (table, ty)) t) (filled_table g.segments.elements n))) (sym (type_entry m))
      (by_parts (filled_table g.segments.elements n) (slice_get g.code.funcs m)))

  pub callers_between : IsCalling g first second (calling_of c)
  callers_between (Elements n) (Item Funcs m) = in_table n m
  callers_between (Elements n) (Item Types m) = refl
  callers_between (Elements n) (Item Tables m) = refl
  callers_between (Elements n) (Item Memories m) = refl
  callers_between (Elements n) (Item Globals m) = refl
  callers_between (Elements n) (Elements m) = refl
  callers_between (Elements n) (Data m) = refl
  callers_between (Item space n) y = refl
  callers_between (Data n) y = refl

-- where no element segment is active nothing is put in a table, so that nothing calls

neither : (a b : Bool) → (a || b) ≡ false → (a ≡ false) × (b ≡ false)
neither true b e = absurd (let bad : ⊥ = cc e in bad)
neither false b e = (refl, e)

no_table : (m : ModeValue) → is_active m ≡ false → table_of m ≡ None
no_table passive h = refl
no_table (active index offset) h = absurd (let bad : ⊥ = cc h in bad)
no_table declarative h = refl

none_filled : (es : List ElementSegment) (n : ℕ) → list_any (λ (e : ElementSegment). is_active (element_value e).mode) es ≡ false
    → filled_table (map element_value es) n ≡ None
none_filled [] n h = refl
none_filled (e ∷ es) zero h = let off = neither (is_active (element_value e).mode) (list_any (λ (e : ElementSegment). is_active (element_value e).mode) es) h in no_table (element_value e).mode off.0
none_filled (e ∷ es) (suc n) h =
    none_filled es n (neither (is_active (element_value e).mode) (list_any (λ (e : ElementSegment). is_active (element_value e).mode) es) h).1

pub callers_none : (g : GraphValue) (first second : List PathItem) (es : List ElementSegment) (c : Callers) → g.segments.elements ≡ map element_value es
    → list_any (λ (e : ElementSegment). is_active (element_value e).mode) es ≡ false → c.tables.items ≡ [] → IsCalling g first second (calling_of c)
callers_none g first second es c is none no_tables (Elements n) (Item Funcs m) =
    subst (λ (p : Option (ℕ × FuncTypeValue)). MatchOption p (calling_of c (Elements n) (Item Funcs m) ≡ []) (λ p. AreCallers g first second p.0 p.1 (calling_of c (Elements n) (Item Funcs m))))
    (sym (ap (option_and_then (λ table. option_map (λ ty. (table, ty)) (function_type g.code m))) (ap (λ (xs : List ElementValue). filled_table xs n) is ∙ none_filled es n none)))
    (ap (λ (xs : List (Option ℕ)). option_map_or (listed c.lists.entries)
    (option_and_then (λ table. option_map (λ ty. (table, ty)) (entry_by (slice_get c.types.items m))) (entry_by (slice_get xs n))) []) no_tables)
callers_none g first second es c is none no_tables (Elements n) (Item Types m) = refl
callers_none g first second es c is none no_tables (Elements n) (Item Tables m) = refl
callers_none g first second es c is none no_tables (Elements n) (Item Memories m) = refl
callers_none g first second es c is none no_tables (Elements n) (Item Globals m) = refl
callers_none g first second es c is none no_tables (Elements n) (Elements m) = refl
callers_none g first second es c is none no_tables (Elements n) (Data m) = refl
callers_none g first second es c is none no_tables (Item space n) y = refl
callers_none g first second es c is none no_tables (Data n) y = refl

-- functions as they were read
pub funcs_are : (fs : List (code_item ℕ (Bor (List ℕ)))) → map func_code fs ≡ map (item_seen body_in) (map func_value fs)
funcs_are [] = refl
funcs_are (f ∷ fs) = ap (λ z. func_code f ∷ z) (funcs_are fs)

-- functions one after another

below_last : (n : ℕ) (o : Option ℕ) → ((m : ℕ) → o ≡ Some m → m < n) → option_map_or (nat_eq n) o false ≡ false
below_last n None h = refl
below_last n (Some m) h =
    elim (cases_Bool (nat_eq n m)) [
      | inl same ↦ absurd (let lt = h m refl in let e = eqb-true n m same in omega (arith, lt, e))
      | inr other ↦ other
    ]

below_range : (n : ℕ) → All (λ k. k < n) (range_with_len 0 n)
below_range n k d lt =
    let l = length-range_with_len 0 n in
    let within : k < n = omega (arith, lt, l) in
    let e = get_or-range_with_len 0 n k d within in omega (arith, e, within)

not_last : (test : ℕ → Bool) (n : ℕ) → is_last (filter test (range_with_len 0 n)) n ≡ false
not_last test n =
    let xs = filter test (range_with_len 0 n) in
    below_last n (slice_get xs (length xs - 1))
    (λ m e. below xs (length xs - 1) m (All-filter test (λ k. k < n) (range_with_len 0 n) (below_range n)) e)
  where
    below : (xs : List ℕ) (k m : ℕ) → All (λ j. j < n) xs → slice_get xs k ≡ Some m → m < n
    below xs k m all e = subst (λ z. z < n) (get_or_from_slice_get xs k m m e) (all k m (slice_get_within xs k m e))

pub functions_none : (test : CallKey → ℕ → Bool) (q : CallKey) → listed [] q ≡ filter (test q) (range_with_len 0 0)
functions_none test q = refl

-- one more function, which is listed where it calls
pub functions_more : (test : CallKey → ℕ → Bool) (n : ℕ) (old new : CallLists) → ((q : CallKey) → listed old q ≡ filter (test q) (range_with_len 0 n))
    → ListsUnder (λ q. test q n) n old new → (q : CallKey) → listed new q ≡ filter (test q) (range_with_len 0 (n + 1))
functions_more test n old new h put q =
    put q
    ∙ (ap (λ xs. cond (test q n) (with_last n xs) xs) (h q)
    ∙ (by (test q n) refl
    ∙ sym (ap (filter (test q)) more ∙ filter-append (test q) (range_with_len 0 n) (n ∷ []))))
  where
    front : List ℕ
    front = filter (test q) (range_with_len 0 n)

    more : range_with_len 0 (n + 1) ≡ range_with_len 0 n ++ n ∷ []
    more =
        ap (range_with_len 0) (let e : n + 1 ≡ suc n = omega arith in e)
        ∙ (range_more 0 n ∙ ap (λ k. range_with_len 0 n ++ k ∷ []) (let e : 0 + n ≡ n = omega arith in e))

    by : (b : Bool) → test q n ≡ b → cond b (with_last n (filter (test q) (range_with_len 0 n))) (filter (test q) (range_with_len 0 n))
        ≡ filter (test q) (range_with_len 0 n) ++ filter (test q) (n ∷ [])
    by true e =
        ap (λ b. cond b (filter (test q) (range_with_len 0 n)) (filter (test q) (range_with_len 0 n) ++ n ∷ [])) (not_last (test q) n)
        ∙ ap (λ b. filter (test q) (range_with_len 0 n) ++ cond b (n ∷ []) []) (sym e)
    by false e =
        sym (append-nil (filter (test q) (range_with_len 0 n))) ∙ ap (λ b. filter (test q) (range_with_len 0 n) ++ cond b (n ∷ []) []) (sym e)

-- a function that is not reached, and one that is

pub list_unreached : (p : List Bool) (firsts : List ℕ) (funcs : List FuncCode) (n : ℕ) (lists : CallLists) → is_reached p n ≡ false
    → ListsUnder (λ q. calls_reached p firsts funcs q n) n lists lists
list_unreached p firsts funcs n lists e q =
    ap (λ b. cond (b && calls_at firsts funcs q n) (with_last n (listed lists q)) (listed lists q)) (sym e)

pub list_reached : (p : List Bool) (firsts : List ℕ) (funcs : List FuncCode) (n : ℕ) (old new : CallLists) (f : FuncCode) → is_reached p n ≡ true
    → slice_get funcs n ≡ Some f → ListsUnder (λ q. def_calls firsts q f.def) n old new → ListsUnder (λ q. calls_reached p firsts funcs q n) n old new
list_reached p firsts funcs n old new f e at h q =
    h q
    ∙ (ap (λ (o : Option FuncCode). cond (option_map_or (λ (z : FuncCode). def_calls firsts q z.def) o false) (with_last n (listed old q)) (listed old q)) (sym at)
    ∙ ap (λ b. cond (b && calls_at firsts funcs q n) (with_last n (listed old q)) (listed old q)) (sym e))

-- what was made of a module that was read

pub tables_are : (es : List ElementSegment) → map (λ (e : ElementSegment). table_of (element_value e).mode) es
    ≡ map (λ (e : ElementValue). table_of e.mode) (map element_value es)
tables_are [] = refl
tables_are (e ∷ es) = ap (λ z. table_of (element_value e).mode ∷ z) (tables_are es)

pub types_are : (firsts : List ℕ) (fs : List (code_item ℕ (Bor (List ℕ)))) → map (λ (f : code_item ℕ (Bor (List ℕ))). slice_get firsts (func_code f).ty) fs
    ≡ map (λ (z : FuncCode). slice_get firsts z.ty) (map (item_seen body_in) (map func_value fs))
types_are firsts [] = refl
types_are firsts (f ∷ fs) = ap (λ z. slice_get firsts (func_code f).ty ∷ z) (types_are firsts fs)

pub lists_are : (p : List Bool) (xs ys : List ℕ) (fs gs : List (code_item ℕ (Bor (List ℕ)))) (es : CallLists) → xs ≡ ys → fs ≡ gs
    → ((q : CallKey) → listed es q ≡ filter (calls_reached p xs (map func_code fs) q) (range_with_len 0 (length fs)))
    → (q : CallKey) → listed es q ≡ filter (calls_reached p ys (map (item_seen body_in) (map func_value gs)) q)
    (range_with_len 0 (length (map (item_seen body_in) (map func_value gs))))
lists_are p xs ys fs gs es e k h q =
    h q
    ∙ (ap (λ z. filter (calls_reached p z (map func_code fs) q) (range_with_len 0 (length fs))) e
    ∙ (ap (λ z. filter (calls_reached p ys (map func_code z) q) (range_with_len 0 (length z))) k
    ∙ (ap (λ z. filter (calls_reached p ys z q) (range_with_len 0 (length gs))) (funcs_are gs)
    ∙ ap (λ n. filter (calls_reached p ys (map (item_seen body_in) (map func_value gs)) q) (range_with_len 0 n))
    (sym (length-map gs func_code) ∙ ap length (funcs_are gs)))))
