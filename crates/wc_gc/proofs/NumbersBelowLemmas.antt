-- The numbers of a set that are below a bound, in their order.
use Rattle.std.proofs.Common.{◌≡◌, ℕ, zero, suc, ◌+◌, ◌-◌, ◌<◌, ◌≤◌, List, [], ◌∷◌, ◌++◌, length, get_or, refl, sym, ◌∙◌, ap, Bool, true, false, cond, ◌&&◌, ◌||◌, append-nil, append_assoc, inl, inr, arith, All}
use Rattle.std.specs.Prelude.{filter, min, nat_lt, nat_eq}
use Rattle.std.specs.List.{AllByRecursion, list_any, range_with_len}
use Rattle.std.specs.Borrow.{Bor}
use Rattle.std.proofs.Math.Bool.{or-false}
use Rattle.std.proofs.lemmas.Bool.{cases_lt}
use Rattle.std.proofs.lemmas.Bool.Decides.{eqb_tells, nat_tests}
use Rattle.std.proofs.lemmas.List.Elements.{filter-append, All-from_recursion}
use Rattle.std.proofs.lemmas.List.Folds.{list_any-append}
use Rattle.wc_read.specs.declared.items.Item.{Item}
use Rattle.wc_read.specs.Decoded.{FuncCode}
use Rattle.wc_gc.specs.Private.FuncGroups.{has_func}
use Rattle.wc_gc.specs.Ranges.{in_ranges, AreRanges}
use Rattle.wc_gc.proofs.GroupLemmas.{filled_more, none_past}
use Rattle.wc_gc.proofs.RangeLemmas.{ends_before}
use Rattle.wc_gc.proofs.RangeRankLemmas.{EndBefore, BeginAt, between, first_before, inside, starts}
use Rattle.wc_graph.proofs.ListLemmas.{range_more}

abbrev pub below : (ℕ → Bool) → ℕ → List ℕ
below has n = filter has (range_with_len 0 n)

one_below : (has : ℕ → Bool) (n : ℕ) → below has (suc n) ≡ below has n ++ cond (has n) (n ∷ []) []
one_below has n =
    let last : 0 + n ≡ n = omega arith in
    ap (filter has) (range_more 0 n ∙ ap (λ k. range_with_len 0 n ++ k ∷ []) last) ∙ filter-append has (range_with_len 0 n) (n ∷ [])

-- numbers in a row, and the next one

pub one_run : (old : List ℕ) (first x : ℕ) → first ≤ x → (old ++ range_with_len first (x - first)) ++ x ∷ [] ≡ old ++ range_with_len first (x + 1 - first)
one_run old first x le =
    let next : suc (x - first) ≡ x + 1 - first = omega arith in
    let last : first + (x - first) ≡ x = omega arith in
    append_assoc old (range_with_len first (x - first)) (x ∷ [])
    ∙ ap (λ z. old ++ z) (ap (λ k. range_with_len first (x - first) ++ k ∷ []) (sym last) ∙ (sym (range_more first (x - first)) ∙ ap (range_with_len first) next))

-- a run of numbers that are in the set, or are not

all_over : (has : ℕ → Bool) (a n : ℕ) → ((k : ℕ) → a ≤ k → k < a + n → has k ≡ true) → below has (a + n) ≡ below has a ++ range_with_len a n
all_over has a zero h = let e : a + 0 ≡ a = omega arith in ap (below has) e ∙ sym (append-nil (below has a))
all_over has a (suc n) h =
    let next : a + suc n ≡ suc (a + n) = omega arith in
    let here = one_below has (a + n) ∙ ap (λ b. below has (a + n) ++ cond b ((a + n) ∷ []) []) (h (a + n) (omega arith) (omega arith)) in
    let before = all_over has a n (λ k le lt. h k le (omega arith)) in
    ap (below has) next ∙ (here ∙ (ap (λ z. z ++ (a + n) ∷ []) before ∙ (append_assoc (below has a) (range_with_len a n) ((a + n) ∷ []) ∙ ap (λ z. below has a ++ z) (sym (range_more a n)))))

none_over : (has : ℕ → Bool) (a n : ℕ) → ((k : ℕ) → a ≤ k → k < a + n → has k ≡ false) → below has (a + n) ≡ below has a
none_over has a zero h = let e : a + 0 ≡ a = omega arith in ap (below has) e
none_over has a (suc n) h =
    let next : a + suc n ≡ suc (a + n) = omega arith in
    let here = one_below has (a + n) ∙ ap (λ b. below has (a + n) ++ cond b ((a + n) ∷ []) []) (h (a + n) (omega arith) (omega arith)) in
    let before = none_over has a n (λ k le lt. h k le (omega arith)) in
    ap (below has) next ∙ (here ∙ (append-nil (below has (a + n)) ∙ before))

all_to : (has : ℕ → Bool) (a b : ℕ) → a ≤ b → ((k : ℕ) → a ≤ k → k < b → has k ≡ true) → below has b ≡ below has a ++ range_with_len a (b - a)
all_to has a b le h =
    let to : a + (b - a) ≡ b = omega arith in
    sym (ap (below has) to) ∙ all_over has a (b - a) (λ k l r. h k l (omega arith))

none_to : (has : ℕ → Bool) (a b : ℕ) → a ≤ b → ((k : ℕ) → a ≤ k → k < b → has k ≡ false) → below has b ≡ below has a
none_to has a b le h =
    let to : a + (b - a) ≡ b = omega arith in
    sym (ap (below has) to) ∙ none_over has a (b - a) (λ k l r. h k l (omega arith))

-- the numbers in the ranges before an index

abbrev pub ArePassed : List (ℕ × ℕ) → ℕ → ℕ → List ℕ → Type 0
ArePassed rs i bound numbers = (y : ℕ) → EndBefore rs i y → BeginAt rs i y → numbers ≡ below (in_ranges rs) (min y bound)

pub passed_start : (rs : List (ℕ × ℕ)) (bound : ℕ) → ArePassed rs 0 bound []
passed_start rs bound y before after =
    sym (none_to (in_ranges rs) 0 (min y bound) (omega arith) (λ k le lt. between rs 0 k (λ j d less. absurd (omega arith)) (λ j d from within. let first = after j d from within in omega arith)))

past_range : (rs : List (ℕ × ℕ)) → AreRanges rs → (i y : ℕ) (e : ℕ × ℕ) → i < length rs → (get_or rs i e).1 < y → EndBefore rs (i + 1) y
past_range rs a i y e lt ends k d less = ends_before rs a k i y d e (omega arith) lt ends

-- those of one range more

more_below : (rs : List (ℕ × ℕ)) → AreRanges rs → (i bound : ℕ) (numbers : List ℕ) (e : ℕ × ℕ) → i < length rs → (get_or rs i e).0 < bound → numbers ≡ below (in_ranges rs) (min (get_or rs i e).0 bound)
    → numbers ++ range_with_len (get_or rs i e).0 (min ((get_or rs i e).1 + 1) bound - (get_or rs i e).0) ≡ below (in_ranges rs) (min ((get_or rs i e).1 + 1) bound)
more_below rs a i bound numbers e lt less here =
    let filled = a.0 i e lt in
    let first : min (get_or rs i e).0 bound ≡ (get_or rs i e).0 = omega arith in
    let order : (get_or rs i e).0 ≤ min ((get_or rs i e).1 + 1) bound = omega (arith, filled) in
    ap (λ z. z ++ range_with_len (get_or rs i e).0 (min ((get_or rs i e).1 + 1) bound - (get_or rs i e).0)) (here ∙ ap (below (in_ranges rs)) first)
    ∙ sym (all_to (in_ranges rs) (get_or rs i e).0 (min ((get_or rs i e).1 + 1) bound) order (λ k le to. inside rs i k e lt le (omega arith)))

pub passed_more : (rs : List (ℕ × ℕ)) → AreRanges rs → (i bound : ℕ) (numbers : List ℕ) (e : ℕ × ℕ) → i < length rs → ArePassed rs i bound numbers
    → ArePassed rs (i + 1) bound (numbers ++ range_with_len (get_or rs i e).0 (min ((get_or rs i e).1 + 1) bound - (get_or rs i e).0))
passed_more rs a i bound numbers e lt passed y before after =
    let filled = a.0 i e lt in
    let ends = before i e (omega arith) in
    let here = passed (get_or rs i e).0 (first_before rs a i e lt) (λ k d le less. starts rs a i k d e le less) in
    elim (cases_lt (get_or rs i e).0 bound) [
      | inl less ↦
          more_below rs a i bound numbers e lt less here
          ∙ sym (none_to (in_ranges rs) (min ((get_or rs i e).1 + 1) bound) (min y bound) (omega (arith, ends)) (λ k le to. between rs (i + 1) k (past_range rs a i k e lt (omega arith)) (λ j d from within. let first = after j d from within in omega arith)))
      | inr past ↦
          let none : min ((get_or rs i e).1 + 1) bound - (get_or rs i e).0 ≡ 0 = omega (arith, filled) in
          let same : min (get_or rs i e).0 bound ≡ min y bound = omega (arith, filled, ends) in
          ap (λ n. numbers ++ range_with_len (get_or rs i e).0 n) none ∙ (append-nil numbers ∙ (here ∙ ap (below (in_ranges rs)) same))
    ]

pub passed_end : (rs : List (ℕ × ℕ)) → AreRanges rs → (i bound : ℕ) (numbers : List ℕ) → i ≡ length rs → ArePassed rs i bound numbers → numbers ≡ below (in_ranges rs) bound
passed_end rs a i bound numbers all passed =
    let last = (get_or rs (length rs - 1) (0, 0)).1 in
    let same : min ((get_or rs (length rs - 1) (0, 0)).1 + 1 + bound) bound ≡ bound = omega arith in
    passed ((get_or rs (length rs - 1) (0, 0)).1 + 1 + bound)
    (λ k d less. ends_before rs a k (length rs - 1) ((get_or rs (length rs - 1) (0, 0)).1 + 1 + bound) d (0, 0) (omega arith) (omega arith) (omega arith))
    (λ k d le less. absurd (omega arith))
    ∙ ap (below (in_ranges rs)) same

-- what is among them

single : (b : Bool) (n x : ℕ) → list_any (nat_eq n) (cond b (x ∷ []) []) ≡ (b && nat_eq n x)
single true n x = or-false (nat_eq n x)
single false n x = refl

pub member_below : (has : ℕ → Bool) (size n : ℕ) → list_any (nat_eq n) (below has size) ≡ (nat_lt n size && has n)
member_below has zero n = let none : nat_lt n 0 ≡ false = grind (arith, nat_tests) in ap (λ b. b && has n) (sym none)
member_below has (suc size) n =
    let next : size + 1 ≡ suc size = omega arith in
    let more = ap (list_any (nat_eq n)) (one_below has size) ∙ (list_any-append (nat_eq n) (below has size) (cond (has size) (size ∷ []) []) ∙ ap (λ b. list_any (nat_eq n) (below has size) || b) (single (has size) n size)) in
    filled_more has size n (list_any (nat_eq n) (below has size)) (list_any (nat_eq n) (below has (suc size))) (has size) more (member_below has size n) refl
    ∙ ap (λ (k : ℕ). nat_lt n k && has n) next

-- of functions by their indices those that pass a test

pub group_more : (p : ℕ → Bool) (n x : ℕ) (a h h' b : Bool) → h' ≡ (h || (b && nat_eq n x)) → h ≡ (a && p n) → b ≡ p x → h' ≡ ((a || nat_eq n x) && p n)
group_more p n x a h h' b e k s =
    elim (eqb_tells n x) [
      | inl q ↦
          let same : nat_eq n x ≡ true = grind (arith, nat_tests) in
          e ∙ (ap (λ z. h || (b && z)) same ∙ (ap (λ z. z || (b && true)) k ∙ (ap (λ z. (a && p n) || (z && true)) (s ∙ ap p (sym q.1)) ∙ (both a (p n) ∙ ap (λ z. (a || z) && p n) (sym same)))))
      | inr q ↦
          let other : nat_eq n x ≡ false = grind (arith, nat_tests) in
          e ∙ (ap (λ z. h || (b && z)) other ∙ (ap (λ z. z || (b && false)) k ∙ (neither a (p n) b ∙ ap (λ z. (a || z) && p n) (sym other))))
    ]
  where
    both : (a c : Bool) → ((a && c) || (c && true)) ≡ ((a || true) && c)
    both true true = refl
    both true false = refl
    both false true = refl
    both false false = refl

    neither : (a c b : Bool) → ((a && c) || (b && false)) ≡ ((a || false) && c)
    neither true true b = refl
    neither true false true = refl
    neither true false false = refl
    neither false c true = refl
    neither false c false = refl

pub in_group : (has : ℕ → Bool) (test : FuncCode → Bool) (funcs : List (Item ℕ (Bor (List ℕ)))) (n : ℕ) (indices : List ℕ) → indices ≡ below has (length funcs)
    → (list_any (nat_eq n) indices && has_func test funcs n) ≡ (has n && has_func test funcs n)
in_group has test funcs n indices e =
    ap (λ z. list_any (nat_eq n) z && has_func test funcs n) e ∙ (ap (λ b. b && has_func test funcs n) (member_below has (length funcs) n) ∙ by (nat_lt n (length funcs)) refl)
  where
    by : (b : Bool) → nat_lt n (length funcs) ≡ b → ((nat_lt n (length funcs) && has n) && has_func test funcs n) ≡ (has n && has_func test funcs n)
    by true k = ap (λ z. (z && has n) && has_func test funcs n) k
    by false k = ap (λ z. (z && has n) && has_func test funcs n) k ∙ sym (none_past (has n) test funcs n (let s : length funcs ≤ n = grind (arith, nat_tests, k) in s))

-- what holds of each of them

module _ (P : ℕ → Type 0) (has : ℕ → Bool) (each : (n : ℕ) → has n ≡ true → P n) where
  one_more : (n : ℕ) (ns : List ℕ) → AllByRecursion P (filter has ns) → (b : Bool) → has n ≡ b → AllByRecursion P (cond b (n ∷ filter has ns) (filter has ns))
  one_more n ns all true h = (each n h, all)
  one_more n ns all false h = all

  all_of : (ns : List ℕ) → AllByRecursion P (filter has ns)
  all_of [] = tt
  all_of (n ∷ ns) = one_more n ns (all_of ns) (has n) refl

  pub all_below : (size : ℕ) → All P (below has size)
  all_below size = All-from_recursion P (below has size) (all_of (range_with_len 0 size))
