-- The ranks of kept items and of what is added differ, and leave the order of each group.
use Rattle.std.proofs.Common.{◌≡◌, ℕ, suc, ◌+◌, ◌-◌, ◌<◌, ◌≤◌, length, refl, sym, ◌∙◌, ap, Bool, true, false, cond, Option, Some, None, arith, ltb-true, ◌⊎◌, inl, inr}
use Rattle.std.specs.Prelude.{nat_lt, not, ◌&&◌}
use Rattle.std.specs.List.{slice_get}
use Rattle.std.specs.Option.{option_map_or}
use Rattle.std.proofs.lemmas.Bool.{ltb-false, lt-ltb, false≢true}
use Rattle.std.proofs.lemmas.Option.{slice_get_within}
use Rattle.wc_read.specs.declared.operators.Space.TheVariants.{Types, Funcs, Tables, Memories, Globals}
use Rattle.wc_write.specs.BuiltValues.{is_imported, is_defined}
use Rattle.wc_gc.specs.Counts.{count_below}
use Rattle.wc_read.specs.Decoded.{FuncCode}
use Rattle.wc_gc.specs.Edit.{EditedModule}
use Rattle.wc_gc.specs.EditedImage.{count_defined, count_imports, edited_rank, func_rank, added_func_rank, is_kept_defined, is_kept_import}
use Rattle.wc_gc.specs.RankLaws.{is_in_image, RanksKeepOrder, RanksDiffer}
use Rattle.wc_graph.proofs.ListLemmas.{get_some}
use Rattle.wc_gc.proofs.RankLemmas.{more_below, one_more}

-- fewer of a set are below one of its numbers than below a greater number
pub fewer_below : (has : ℕ → Bool) (a b : ℕ) → has a ≡ true → a < b → count_below has a < count_below has b
fewer_below has a b h l =
    let next = one_more has a in
    let bit : Bool → ℕ = λ x. cond x 1 0 in
    let one : bit (has a) ≡ bit true = ap bit h in
    let more = more_below has (suc a) (b - suc a) in
    let rest = ap (count_below has) (let e : suc a + (b - suc a) ≡ b = omega (arith, l) in e) in
    omega (arith, next, one, more, rest)

by_order : (a b : ℕ) (c : Bool) → nat_lt a b ≡ c → ¬ (a < b) → ¬ (b < a) → a ≡ b
by_order a b true l x y = absurd (x (ltb-true a b l))
by_order a b false l x y = last a b (nat_lt b a) refl (ltb-false a b l) y
  where
    last : (a b : ℕ) (c : Bool) → nat_lt b a ≡ c → b ≤ a → ¬ (b < a) → a ≡ b
    last a b true l h y = absurd (y (ltb-true b a l))
    last a b false l h y = let k = ltb-false b a l in omega (arith, h, k)

pub neither_less : (a b : ℕ) → ¬ (a < b) → ¬ (b < a) → a ≡ b
neither_less a b x y = by_order a b (nat_lt a b) refl x y

no_less : (a b : ℕ) → a ≡ b → ¬ (a < b)
no_less a b e l = absurd (omega (arith, e, l))

-- numbers of a set below which there are equally many are equal
pub counts_differ : (has : ℕ → Bool) (a b : ℕ) → has a ≡ true → has b ≡ true → count_below has a ≡ count_below has b → a ≡ b
counts_differ has a b h k e =
    neither_less a b (λ l. no_less (count_below has a) (count_below has b) e (fewer_below has a b h l))
    (λ l. no_less (count_below has b) (count_below has a) (sym e) (fewer_below has b a k l))

module _ (e : EditedModule) where
  abbrev pub old_types : ℕ
  old_types = length e.value.types

  abbrev pub has_type : ℕ → Bool
  has_type n = e.kept (Types, n)

  pub record IsOldType (n : ℕ) : Type 0 where
    pub below : n < old_types
    pub kept : has_type n ≡ true
    pub new : edited_rank e Types n ≡ count_below has_type n
    pub small : count_below has_type n < count_below has_type old_types

  pub record IsAddedType (n : ℕ) : Type 0 where
    pub past : old_types ≤ n
    pub new : edited_rank e Types n ≡ count_below has_type old_types + (n - old_types)

  type_by : (n : ℕ) (b : Bool) → nat_lt n old_types ≡ b → cond b (has_type n) (nat_lt n (old_types + length e.types)) ≡ true → IsOldType n ⊎ IsAddedType n
  type_by n true l h = inl (record {
    below = ltb-true n old_types l;
    kept = h;
    new = ap (λ (b : Bool). cond b (count_below has_type n) (count_below has_type old_types + (n - old_types))) l;
    small = fewer_below has_type n old_types h (ltb-true n old_types l);
  })
  type_by n false l h = inr (record {
    past = ltb-false n old_types l;
    new = ap (λ (b : Bool). cond b (count_below has_type n) (count_below has_type old_types + (n - old_types))) l;
  })

  pub type_is : (n : ℕ) → is_in_image e Types n ≡ true → IsOldType n ⊎ IsAddedType n
  type_is n h = type_by n (nat_lt n old_types) refl h

  types_order : (a b : ℕ) → IsOldType a ⊎ IsAddedType a → IsOldType b ⊎ IsAddedType b → a < b → edited_rank e Types a < edited_rank e Types b
  types_order a b (inl x) (inl y) l = let f = fewer_below has_type a b x.kept l in let p = x.new in let q = y.new in omega (arith, f, p, q)
  types_order a b (inl x) (inr y) l = let f = x.small in let p = x.new in let q = y.new in omega (arith, f, p, q)
  types_order a b (inr x) (inl y) l = let f = x.past in let g = y.below in absurd (omega (arith, f, g, l))
  types_order a b (inr x) (inr y) l = let f = x.past in let p = x.new in let q = y.new in omega (arith, f, l, p, q)

  types_differ : (a b : ℕ) → is_in_image e Types a ≡ true → is_in_image e Types b ≡ true → edited_rank e Types a ≡ edited_rank e Types b → a ≡ b
  types_differ a b h k s =
      neither_less a b (λ l. no_less (edited_rank e Types a) (edited_rank e Types b) s (types_order a b (type_is a h) (type_is b k) l))
      (λ l. no_less (edited_rank e Types b) (edited_rank e Types a) (sym s) (types_order b a (type_is b k) (type_is a h) l))

  -- functions

  abbrev pub olds : ℕ
  olds = length e.value.funcs

  abbrev pub new_func_at : ℕ → ℕ
  new_func_at n = edited_rank e Funcs n

  pub record IsOldImport (n : ℕ) : Type 0 where
    pub kept : is_kept_import e n ≡ true
    pub below : n < olds
    pub new : new_func_at n ≡ count_below (is_kept_import e) n
    pub small : count_below (is_kept_import e) n < count_imports e

  pub record IsAddedImport (n : ℕ) : Type 0 where
    pub past : olds ≤ n
    pub bounded : n - olds < length e.imports
    pub new : new_func_at n ≡ count_imports e + (n - olds)

  pub record IsOldDefined (n : ℕ) : Type 0 where
    pub kept : is_kept_defined e n ≡ true
    pub below : n < olds
    pub new : new_func_at n ≡ count_imports e + length e.imports + count_below (is_kept_defined e) n
    pub small : count_below (is_kept_defined e) n < count_defined e

  pub record IsAddedFunc (n : ℕ) : Type 0 where
    pub past : olds ≤ n
    pub many : length e.imports ≤ n - olds
    pub new : new_func_at n ≡ count_imports e + count_defined e + (n - olds)

  abbrev pub IsFunc : ℕ → Type 0
  IsFunc n = (IsOldImport n ⊎ IsAddedImport n) ⊎ (IsOldDefined n ⊎ IsAddedFunc n)

  old_rank : (n : ℕ) → n < olds → new_func_at n ≡ func_rank e n
  old_rank n h = ap (λ (b : Bool). cond b (func_rank e n) (added_func_rank e (n - olds))) (lt-ltb n olds h)

  import_at : (n : ℕ) → n < olds → is_kept_import e n ≡ true → IsOldImport n
  import_at n h i = record {
    kept = i;
    below = h;
    new = old_rank n h ∙ ap (λ (b : Bool). cond b (count_below (is_kept_import e) n) (count_imports e + length e.imports + count_below (is_kept_defined e) n)) i;
    small = fewer_below (is_kept_import e) n olds i h;
  }

  defined_at : (n : ℕ) → n < olds → is_kept_import e n ≡ false → is_kept_defined e n ≡ true → IsOldDefined n
  defined_at n h i d = record {
    kept = d;
    below = h;
    new = old_rank n h ∙ ap (λ (b : Bool). cond b (count_below (is_kept_import e) n) (count_imports e + length e.imports + count_below (is_kept_defined e) n)) i;
    small = fewer_below (is_kept_defined e) n olds d h;
  }

  one_of : (b : Bool) → (true && b ≡ true) ⊎ (true && not b ≡ true)
  one_of true = inl refl
  one_of false = inr refl

  either : (n : ℕ) (f : FuncCode) → e.kept (Funcs, n) ≡ true → slice_get e.value.funcs n ≡ Some f → (is_kept_import e n ≡ true) ⊎ (is_kept_defined e n ≡ true)
  either n f l at = rw (l, at) (one_of (is_imported f))

  not_both : (l b : Bool) → (l && not b) ≡ true → (l && b) ≡ false
  not_both true true h = absurd cc
  not_both true false h = refl
  not_both false b h = refl

  never_both : (l : Bool) (o : Option FuncCode) → (l && option_map_or (λ (f : FuncCode). is_defined f) o false) ≡ true → (l && option_map_or (λ (f : FuncCode). is_imported f) o false) ≡ false
  never_both true None h = refl
  never_both false None h = refl
  never_both l (Some g) h = not_both l (is_imported g) h

  no_import : (n : ℕ) → is_kept_defined e n ≡ true → is_kept_import e n ≡ false
  no_import n d = never_both (e.kept (Funcs, n)) (slice_get e.value.funcs n) d

  -- what is kept of the functions is there
  there : (l : Bool) (p : FuncCode → Bool) (n : ℕ) (o : Option FuncCode) → slice_get e.value.funcs n ≡ o → (l && option_map_or p o false) ≡ true → n < olds
  there true p n None at h = absurd (false≢true h)
  there false p n None at h = absurd (false≢true h)
  there l p n (Some f) at h = slice_get_within e.value.funcs n f at

  import_below : (n : ℕ) → is_kept_import e n ≡ true → n < olds
  import_below n h = there (e.kept (Funcs, n)) (λ (f : FuncCode). is_imported f) n (slice_get e.value.funcs n) refl h

  defined_below : (n : ℕ) → is_kept_defined e n ≡ true → n < olds
  defined_below n h = there (e.kept (Funcs, n)) (λ (f : FuncCode). is_defined f) n (slice_get e.value.funcs n) refl h

  old_by : (n : ℕ) → n < olds → (is_kept_import e n ≡ true) ⊎ (is_kept_defined e n ≡ true) → IsFunc n
  old_by n h (inl i) = inl (inl (import_at n h i))
  old_by n h (inr d) = inr (inl (defined_at n h (no_import n d) d))

  added_by : (n : ℕ) (b : Bool) → nat_lt n olds ≡ false → nat_lt (n - olds) (length e.imports) ≡ b → IsFunc n
  added_by n true p l = inl (inr (record {
    past = ltb-false n olds p;
    bounded = ltb-true (n - olds) (length e.imports) l;
    new =
        ap (λ (b : Bool). cond b (func_rank e n) (added_func_rank e (n - olds))) p
        ∙ ap (λ (b : Bool). cond b (count_imports e + (n - olds)) (count_imports e + count_defined e + (n - olds))) l;
  }))
  added_by n false p l = inr (inr (record {
    past = ltb-false n olds p;
    many = ltb-false (n - olds) (length e.imports) l;
    new =
        ap (λ (b : Bool). cond b (func_rank e n) (added_func_rank e (n - olds))) p
        ∙ ap (λ (b : Bool). cond b (count_imports e + (n - olds)) (count_imports e + count_defined e + (n - olds))) l;
  }))

  func_by : (n : ℕ) (b : Bool) → nat_lt n olds ≡ b → cond b (e.kept (Funcs, n)) (nat_lt n (olds + (length e.imports + length e.funcs))) ≡ true → IsFunc n
  func_by n true l h =
      let below = ltb-true n olds l in
      let f = get_some e.value.funcs n below in
      old_by n below (either n f.0 h f.1)
  func_by n false l h = added_by n (nat_lt (n - olds) (length e.imports)) l refl

  pub func_is : (n : ℕ) → is_in_image e Funcs n ≡ true → IsFunc n
  func_is n h = func_by n (nat_lt n olds) refl h

  funcs_by : (a b : ℕ) → IsFunc a → IsFunc b → new_func_at a ≡ new_func_at b → a ≡ b
  funcs_by a b (inl (inl x)) (inl (inl y)) s = counts_differ (is_kept_import e) a b x.kept y.kept (sym x.new ∙ (s ∙ y.new))
  funcs_by a b (inl (inl x)) (inl (inr y)) s = let f = x.small in let p = x.new in let q = y.new in absurd (omega (arith, f, p, q, s))
  funcs_by a b (inl (inl x)) (inr (inl y)) s = let f = x.small in let p = x.new in let q = y.new in absurd (omega (arith, f, p, q, s))
  funcs_by a b (inl (inl x)) (inr (inr y)) s = let f = x.small in let p = x.new in let q = y.new in absurd (omega (arith, f, p, q, s))
  funcs_by a b (inl (inr x)) (inl (inl y)) s = let f = y.small in let p = x.new in let q = y.new in absurd (omega (arith, f, p, q, s))
  funcs_by a b (inl (inr x)) (inl (inr y)) s = let f = x.past in let g = y.past in let p = x.new in let q = y.new in omega (arith, f, g, p, q, s)
  funcs_by a b (inl (inr x)) (inr (inl y)) s = let f = x.bounded in let p = x.new in let q = y.new in absurd (omega (arith, f, p, q, s))
  funcs_by a b (inl (inr x)) (inr (inr y)) s = let f = x.bounded in let g = y.many in let p = x.new in let q = y.new in absurd (omega (arith, f, g, p, q, s))
  funcs_by a b (inr (inl x)) (inl (inl y)) s = let f = y.small in let p = x.new in let q = y.new in absurd (omega (arith, f, p, q, s))
  funcs_by a b (inr (inl x)) (inl (inr y)) s = let f = y.bounded in let p = x.new in let q = y.new in absurd (omega (arith, f, p, q, s))
  funcs_by a b (inr (inl x)) (inr (inl y)) s =
      let p = x.new in let q = y.new in
      let same : count_below (is_kept_defined e) a ≡ count_below (is_kept_defined e) b = omega (arith, p, q, s) in
      counts_differ (is_kept_defined e) a b x.kept y.kept same
  funcs_by a b (inr (inl x)) (inr (inr y)) s = let f = x.small in let g = y.many in let p = x.new in let q = y.new in absurd (omega (arith, f, g, p, q, s))
  funcs_by a b (inr (inr x)) (inl (inl y)) s = let f = y.small in let p = x.new in let q = y.new in absurd (omega (arith, f, p, q, s))
  funcs_by a b (inr (inr x)) (inl (inr y)) s = let f = y.bounded in let g = x.many in let p = x.new in let q = y.new in absurd (omega (arith, f, g, p, q, s))
  funcs_by a b (inr (inr x)) (inr (inl y)) s = let f = y.small in let g = x.many in let p = x.new in let q = y.new in absurd (omega (arith, f, g, p, q, s))
  funcs_by a b (inr (inr x)) (inr (inr y)) s = let f = x.past in let g = y.past in let p = x.new in let q = y.new in omega (arith, f, g, p, q, s)

  pub ranks_differ : RanksDiffer e
  ranks_differ Types a b h k s = types_differ a b h k s
  ranks_differ Funcs a b h k s = funcs_by a b (func_is a h) (func_is b k) s
  ranks_differ Tables a b h k s = counts_differ (λ n. e.kept (Tables, n)) a b h k s
  ranks_differ Memories a b h k s = counts_differ (λ n. e.kept (Memories, n)) a b h k s
  ranks_differ Globals a b h k s = counts_differ (λ n. e.kept (Globals, n)) a b h k s

  imports_order : (a b : ℕ) → is_kept_import e a ≡ true → is_kept_import e b ≡ true → a < b → new_func_at a < new_func_at b
  imports_order a b h k l =
      let x = import_at a (import_below a h) h in let y = import_at b (import_below b k) k in
      let f = fewer_below (is_kept_import e) a b h l in let p = x.new in let q = y.new in omega (arith, f, p, q)

  defined_order : (a b : ℕ) → is_kept_defined e a ≡ true → is_kept_defined e b ≡ true → a < b → new_func_at a < new_func_at b
  defined_order a b h k l =
      let x = defined_at a (defined_below a h) (no_import a h) h in let y = defined_at b (defined_below b k) (no_import b k) k in
      let f = fewer_below (is_kept_defined e) a b h l in let p = x.new in let q = y.new in omega (arith, f, p, q)

  pub ranks_order : RanksKeepOrder e
  ranks_order = record {
    types = λ a b h k l. types_order a b (type_is a h) (type_is b k) l;
    imports = λ a b h k l. imports_order a b h k l;
    defined = λ a b h k l. defined_order a b h k l;
    tables = λ a b h k l. fewer_below (λ n. e.kept (Tables, n)) a b h l;
    memories = λ a b h k l. fewer_below (λ n. e.kept (Memories, n)) a b h l;
    globals = λ a b h k l. fewer_below (λ n. e.kept (Globals, n)) a b h l;
  }
