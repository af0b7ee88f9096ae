-- Sorted ranges, and the numbers in them.
use Rattle.std.proofs.Common.{◌≡◌, ◌≢◌, ℕ, zero, suc, ◌+◌, ◌-◌, ◌<◌, ◌≤◌, List, [], ◌∷◌, ◌++◌, length, get_or, set, insert, remove, refl, sym, ◌∙◌, ap, subst, Bool}
use Rattle.std.proofs.Common.{true, false, ◌&&◌, ◌||◌, nat_le, nat_eq, inl, inr, arith}
use Rattle.std.proofs.lemmas.Bool.Decides.{eqb_tells, nat_tests}
use Rattle.std.proofs.lemmas.List.{get_or_default}
use Rattle.wc_gc.specs.Ranges.{is_within, in_ranges, AreRanges}
use Rattle.wc_gc.specs.Private.RangeSet.{IsCut, joined_at}
use Rattle.wc_graph.specs.Growth.{Inserts}

-- sorted ranges that neither overlap nor touch, from a number on
abbrev pub AreFrom : ℕ → List (ℕ × ℕ) → Type 0
AreFrom low [] = Unit {0}
AreFrom low (r ∷ rs) = (low ≤ r.0) × ((r.0 ≤ r.1) × AreFrom (r.1 + 2) rs)

pub from_ranges : (low : ℕ) (rs : List (ℕ × ℕ)) → ((d : ℕ × ℕ) → 0 < length rs → low ≤ (get_or rs 0 d).0) → AreRanges rs → AreFrom low rs
from_ranges low [] h a = tt
from_ranges low (r ∷ rs) h a = (
  h r (omega arith),
  (
    a.0 0 r (omega arith),
    from_ranges (r.1 + 2) rs
        (λ d lt. let s : r.1 + 1 < (get_or rs 0 d).0 = a.1 0 1 d (omega arith) (omega arith) in omega arith)
        ((λ k d lt. a.0 (suc k) d (omega arith)), (λ i j d lt within. a.1 (suc i) (suc j) d (omega arith) (omega arith))),
  ),
)

pub are_from : (rs : List (ℕ × ℕ)) → AreRanges rs → AreFrom 0 rs
are_from rs a = from_ranges 0 rs (λ d lt. omega arith) a

-- all of them begin there or later
pub above : (low : ℕ) (rs : List (ℕ × ℕ)) → AreFrom low rs → (k : ℕ) (d : ℕ × ℕ) → k < length rs → low ≤ (get_or rs k d).0
above low [] a k d lt = absurd (omega arith)
above low (r ∷ rs) a zero d lt = a.0
above low (r ∷ rs) a (suc k) d lt = omega (arith, a.0, a.1.0, above (r.1 + 2) rs a.1.1 k d (omega arith))

filled : (low : ℕ) (rs : List (ℕ × ℕ)) → AreFrom low rs → (k : ℕ) (d : ℕ × ℕ) → k < length rs → (get_or rs k d).0 ≤ (get_or rs k d).1
filled low [] a k d lt = absurd (omega arith)
filled low (r ∷ rs) a zero d lt = a.1.0
filled low (r ∷ rs) a (suc k) d lt = filled (r.1 + 2) rs a.1.1 k d (omega arith)

separate : (low : ℕ) (rs : List (ℕ × ℕ)) → AreFrom low rs → (i j : ℕ) (d : ℕ × ℕ) → i < j → j < length rs → (get_or rs i d).1 + 1 < (get_or rs j d).0
separate low [] a i j d lt within = absurd (omega arith)
separate low (r ∷ rs) a i zero d lt within = absurd (omega arith)
separate low (r ∷ rs) a zero (suc j) d lt within = omega (arith, above (r.1 + 2) rs a.1.1 j d (omega arith))
separate low (r ∷ rs) a (suc i) (suc j) d lt within = separate (r.1 + 2) rs a.1.1 i j d (omega arith) (omega arith)

pub ranges_from : (low : ℕ) (rs : List (ℕ × ℕ)) → AreFrom low rs → AreRanges rs
ranges_from low rs a = (filled low rs a, separate low rs a)

-- no number before them is in one
pub none_below : (low x : ℕ) (rs : List (ℕ × ℕ)) → AreFrom low rs → x < low → in_ranges rs x ≡ false
none_below low x [] a lt = refl
none_below low x (r ∷ rs) a lt =
    let here : nat_le r.0 x ≡ false = grind (arith, nat_tests, a.0) in
    rw here (none_below (r.1 + 2) x rs a.1.1 (omega (arith, a.0, a.1.0)))

past : (x : ℕ) (r : ℕ × ℕ) (b : Bool) → r.1 < x → (is_within x r || b) ≡ b
past x r b lt =
    let after : nat_le x r.1 ≡ false = grind (arith, nat_tests) in
    rw after (both (nat_le r.0 x))
  where
    both : (c : Bool) → ((c && false) || b) ≡ b
    both true = refl
    both false = refl

-- a number is in the first range that does not end before it, or in none
pub in_at : (low x : ℕ) (rs : List (ℕ × ℕ)) (i : ℕ) (d : ℕ × ℕ) → AreFrom low rs → IsCut x rs i → i < length rs → in_ranges rs x ≡ nat_le (get_or rs i d).0 x
in_at low x [] i d a cut lt = absurd (omega arith)
in_at low x (r ∷ rs) zero d a cut lt =
    let here : nat_le x r.1 ≡ true = grind (arith, nat_tests, cut) in
    let rest : in_ranges rs x ≡ false = none_below (r.1 + 2) x rs a.1.1 (omega (arith, cut)) in
    rw (here, rest) (only (nat_le r.0 x))
  where
    only : (b : Bool) → ((b && true) || false) ≡ b
    only true = refl
    only false = refl
in_at low x (r ∷ rs) (suc i) d a cut lt = past x r (in_ranges rs x) cut.0 ∙ in_at (r.1 + 2) x rs i d a.1.1 cut.1 (omega arith)

pub in_none : (x : ℕ) (rs : List (ℕ × ℕ)) (i : ℕ) → IsCut x rs i → length rs ≤ i → in_ranges rs x ≡ false
in_none x [] i cut h = refl
in_none x (r ∷ rs) zero cut h = absurd (omega arith)
in_none x (r ∷ rs) (suc i) cut h = past x r (in_ranges rs x) cut.0 ∙ in_none x rs i cut.1 (omega arith)

-- a cut by indices
pub cut_at : (x : ℕ) (rs : List (ℕ × ℕ)) (i : ℕ) → i ≤ length rs → ((k : ℕ) (d : ℕ × ℕ) → k < i → (get_or rs k d).1 < x)
    → ((k : ℕ) (d : ℕ × ℕ) → i ≤ k → k < length rs → x ≤ (get_or rs k d).1) → IsCut x rs i
cut_at x [] i h before after = omega arith
cut_at x (r ∷ rs) zero h before after = after 0 r (omega arith) (omega arith)
cut_at x (r ∷ rs) (suc i) h before after = (
  before 0 r (omega arith),
  cut_at x rs i (omega arith) (λ k d lt. before (suc k) d (omega arith))
      (λ k d le lt. after (suc k) d (omega arith) (omega arith)),
)

-- ends grow
pub ends_grow : (rs : List (ℕ × ℕ)) → AreRanges rs → (k m : ℕ) (d : ℕ × ℕ) → k ≤ m → m < length rs → (get_or rs k d).1 ≤ (get_or rs m d).1
ends_grow rs a k m d le lt =
    elim (eqb_tells k m) [
      | inl e ↦ let same : k ≡ m = e.1 in rw same (omega arith)
      | inr n ↦ let ne : k ≢ m = n.1 in let less : k < m = omega arith in omega (arith, a.1 k m d less lt, a.0 m d lt)
    ]

pub ends_before : (rs : List (ℕ × ℕ)) → AreRanges rs → (k m x : ℕ) (d e : ℕ × ℕ) → k ≤ m → m < length rs → (get_or rs m e).1 < x → (get_or rs k d).1 < x
ends_before rs a k m x d e le lt h =
    let same = ap (λ (r : ℕ × ℕ). r.1) (get_or_default rs m d e lt) in
    omega (arith, ends_grow rs a k m d le lt, same)

pub ends_after : (rs : List (ℕ × ℕ)) → AreRanges rs → (k m x : ℕ) (d e : ℕ × ℕ) → m ≤ k → k < length rs → x ≤ (get_or rs m e).1 → x ≤ (get_or rs k d).1
ends_after rs a k m x d e le lt h =
    let same = ap (λ (r : ℕ × ℕ). r.1) (get_or_default rs m d e (omega arith)) in
    omega (arith, ends_grow rs a m k d le lt, same)

-- one number more

abbrev pub Adds : List (ℕ × ℕ) → List (ℕ × ℕ) → ℕ → Type 0
Adds rs rs' x = (y : ℕ) → in_ranges rs' y ≡ (nat_eq y x || in_ranges rs y)

swap_or : (a e b c : Bool) → b ≡ (e || c) → (a || b) ≡ (e || (a || c))
swap_or true true b c h = refl
swap_or true false b c h = refl
swap_or false e b c h = h

pub one_is : (x y : ℕ) → is_within y (x, x) ≡ nat_eq y x
one_is x y = grind (arith, nat_tests)

longer_is : (a b x y : ℕ) → a ≤ b → b + 1 ≡ x → is_within y (a, x) ≡ (nat_eq y x || is_within y (a, b))
longer_is a b x y h e = grind (arith, nat_tests)

earlier_is : (a b x y : ℕ) → a ≤ b → x + 1 ≡ a → is_within y (x, b) ≡ (nat_eq y x || is_within y (a, b))
earlier_is a b x y h e = grind (arith, nat_tests)

joined_is : (a b c e x y : ℕ) → a ≤ b → c ≤ e → b + 1 ≡ x → x + 1 ≡ c → is_within y (a, e) ≡ (nat_eq y x || (is_within y (a, b) || is_within y (c, e)))
joined_is a b c e x y h k p q = grind (arith, nat_tests)

or_or : (a e b c : Bool) → a ≡ (e || b) → (a || c) ≡ (e || (b || c))
or_or a true b c h = rw h refl
or_or a false b c h = rw h refl

or_or_or : (a e b c f : Bool) → a ≡ (e || (b || c)) → (a || f) ≡ (e || (b || (c || f)))
or_or_or a true b c f h = rw h refl
or_or_or a false true c f h = rw h refl
or_or_or a false false c f h = rw h refl

-- a range of its own
pub put_from : (low x : ℕ) (rs : List (ℕ × ℕ)) (i : ℕ) → AreFrom low rs → low ≤ x → i ≤ length rs
    → ((k : ℕ) (d : ℕ × ℕ) → k < i → (get_or rs k d).1 + 1 < x) → ((d : ℕ × ℕ) → i < length rs → x + 1 < (get_or rs i d).0)
    → AreFrom low (insert rs i (x, x)) × Adds rs (insert rs i (x, x)) x
put_from low x [] zero a h le before after = ((h, (omega arith, tt)), λ y. ap (λ b. b || false) (one_is x y))
put_from low x [] (suc i) a h le before after = absurd (omega arith)
put_from low x (r ∷ rs) zero a h le before after =
    let first : x + 1 < r.0 = after r (omega arith) in
    ((h, (omega arith, (omega arith, a.1))), λ y. ap (λ b. b || in_ranges (r ∷ rs) y) (one_is x y))
put_from low x (r ∷ rs) (suc i) a h le before after =
    let here : r.1 + 1 < x = before 0 r (omega arith) in
    let more = put_from (r.1 + 2) x rs i a.1.1 (omega arith) (omega arith) (λ k d lt. before (suc k) d (omega arith)) (λ d lt. after d (omega arith)) in
    ((a.0, (a.1.0, more.0)), λ y. swap_or (is_within y r) (nat_eq y x) (in_ranges (insert rs i (x, x)) y) (in_ranges rs y) (more.1 y))

-- a range that ends there
pub longer_from : (low x : ℕ) (rs : List (ℕ × ℕ)) (j : ℕ) (d : ℕ × ℕ) → AreFrom low rs → j < length rs → (get_or rs j d).1 + 1 ≡ x
    → ((d : ℕ × ℕ) → suc j < length rs → x + 1 < (get_or rs (suc j) d).0)
    → AreFrom low (set rs j ((get_or rs j d).0, x)) × Adds rs (set rs j ((get_or rs j d).0, x)) x
longer_from low x [] j d a lt e after = absurd (omega arith)
longer_from low x (r ∷ []) zero d a lt e after =
    ((a.0, (omega (arith, a.1.0), tt)), λ y. or_or (is_within y (r.0, x)) (nat_eq y x) (is_within y r) false (longer_is r.0 r.1 x y a.1.0 e))
longer_from low x (r ∷ s ∷ rs) zero d a lt e after =
    let next : x + 1 < s.0 = after s (omega arith) in (
      (a.0, (omega (arith, a.1.0), (omega arith, a.1.1.1))),
      λ y. or_or (is_within y (r.0, x)) (nat_eq y x) (is_within y r) (in_ranges (s ∷ rs) y)
          (longer_is r.0 r.1 x y a.1.0 e),
    )
longer_from low x (r ∷ rs) (suc j) d a lt e after =
    let more = longer_from (r.1 + 2) x rs j d a.1.1 (omega arith) e (λ d lt. after d (omega arith)) in
    ((a.0, (a.1.0, more.0)), λ y. swap_or (is_within y r) (nat_eq y x) (in_ranges (set rs j ((get_or rs j d).0, x)) y) (in_ranges rs y) (more.1 y))

-- a range that begins there
pub earlier_from : (low x : ℕ) (rs : List (ℕ × ℕ)) (i : ℕ) (d : ℕ × ℕ) → AreFrom low rs → low ≤ x → i < length rs → x + 1 ≡ (get_or rs i d).0
    → ((k : ℕ) (d : ℕ × ℕ) → k < i → (get_or rs k d).1 + 1 < x)
    → AreFrom low (set rs i (x, (get_or rs i d).1)) × Adds rs (set rs i (x, (get_or rs i d).1)) x
earlier_from low x [] i d a h lt e before = absurd (omega arith)
earlier_from low x (r ∷ rs) zero d a h lt e before =
    ((h, (omega (arith, a.1.0), a.1.1)), λ y. or_or (is_within y (x, r.1)) (nat_eq y x) (is_within y r) (in_ranges rs y) (earlier_is r.0 r.1 x y a.1.0 e))
earlier_from low x (r ∷ rs) (suc i) d a h lt e before =
    let here : r.1 + 1 < x = before 0 r (omega arith) in
    let more = earlier_from (r.1 + 2) x rs i d a.1.1 (omega arith) (omega arith) e (λ k d lt. before (suc k) d (omega arith)) in
    ((a.0, (a.1.0, more.0)), λ y. swap_or (is_within y r) (nat_eq y x) (in_ranges (set rs i (x, (get_or rs i d).1)) y) (in_ranges rs y) (more.1 y))

-- two ranges that become one
pub joined_from : (low x : ℕ) (rs : List (ℕ × ℕ)) (j : ℕ) (d : ℕ × ℕ) → AreFrom low rs → suc j < length rs → (get_or rs j d).1 + 1 ≡ x
    → x + 1 ≡ (get_or rs (suc j) d).0
    → AreFrom low (remove (set rs j ((get_or rs j d).0, (get_or rs (suc j) d).1)) (suc j))
    × Adds rs (remove (set rs j ((get_or rs j d).0, (get_or rs (suc j) d).1)) (suc j)) x
joined_from low x [] j d a lt e f = absurd (omega arith)
joined_from low x (r ∷ []) j d a lt e f = absurd (omega arith)
joined_from low x (r ∷ s ∷ rs) zero d a lt e f = (
  (a.0, (omega (arith, a.1.0, a.1.1.1.0), a.1.1.1.1)),
  λ y. or_or_or (is_within y (r.0, s.1)) (nat_eq y x) (is_within y r) (is_within y s)
      (in_ranges rs y) (joined_is r.0 r.1 s.0 s.1 x y a.1.0 a.1.1.1.0 e f),
)
joined_from low x (r ∷ s ∷ rs) (suc j) d a lt e f =
    let more = joined_from (r.1 + 2) x (s ∷ rs) j d a.1.1 (omega arith) e f in (
      (a.0, (a.1.0, more.0)),
      λ y. swap_or (is_within y r) (nat_eq y x)
          (in_ranges (remove (set (s ∷ rs) j ((get_or (s ∷ rs) j d).0, (get_or (s ∷ rs) (suc j) d).1)) (suc j)) y) (in_ranges (s ∷ rs) y) (more.1 y),
    )

-- one number more, and no other
pub adds_one : (rs rs' : List (ℕ × ℕ)) (x : ℕ) → Adds rs rs' x → Inserts (in_ranges rs) (in_ranges rs') x
adds_one rs rs' x h = record {
  present = let same : nat_eq x x ≡ true = grind (arith, nat_tests) in h x ∙ ap (λ b. b || in_ranges rs x) same;
  others = λ y ne. let differ : nat_eq y x ≡ false = grind (arith, nat_tests) in h y ∙ ap (λ b. b || in_ranges rs y) differ;
}

pub cut_before : (x : ℕ) (rs : List (ℕ × ℕ)) (i k : ℕ) (d : ℕ × ℕ) → IsCut x rs i → k < i → i ≤ length rs → (get_or rs k d).1 < x
cut_before x [] i k d cut lt h = absurd (omega arith)
cut_before x (r ∷ rs) zero k d cut lt h = absurd (omega arith)
cut_before x (r ∷ rs) (suc i) zero d cut lt h = cut.0
cut_before x (r ∷ rs) (suc i) (suc k) d cut lt h = cut_before x rs i k d cut.1 (omega arith) (omega arith)

-- of a number that is in none, the range at its cut begins after it
pub begins_later : (x : ℕ) (rs : List (ℕ × ℕ)) (i : ℕ) (d : ℕ × ℕ) → AreRanges rs → IsCut x rs i → i < length rs → in_ranges rs x ≡ false
    → x < (get_or rs i d).0
begins_later x rs i d a cut lt absent =
    let test : nat_le (get_or rs i d).0 x ≡ false = sym (in_at 0 x rs i d (are_from rs a) cut lt) ∙ absent in
    grind (arith, nat_tests)

-- what putting in a number makes of the ranges

abbrev pub IsPut : List (ℕ × ℕ) → List (ℕ × ℕ) → ℕ → Type 0
IsPut rs rs' x = AreRanges rs' × Inserts (in_ranges rs) (in_ranges rs') x

is_put : (rs rs' : List (ℕ × ℕ)) (x : ℕ) → AreFrom 0 rs' × Adds rs rs' x → IsPut rs rs' x
is_put rs rs' x h = (ranges_from 0 rs' h.0, adds_one rs rs' x h.1)

pub all_before : (rs : List (ℕ × ℕ)) → AreRanges rs → (x i : ℕ) → ((d : ℕ × ℕ) → 0 < i → (get_or rs (i - 1) d).1 + 1 < x) → i ≤ length rs
    → (k : ℕ) (d : ℕ × ℕ) → k < i → (get_or rs k d).1 + 1 < x
all_before rs a x i before le k d lt =
    let last = before d (omega arith) in
    let grow = ends_grow rs a k (i - 1) d (omega arith) (omega arith) in
    omega (arith, last, grow)

pub put_is : (rs : List (ℕ × ℕ)) (x i : ℕ) → AreRanges rs → i ≤ length rs → ((d : ℕ × ℕ) → 0 < i → (get_or rs (i - 1) d).1 + 1 < x)
    → ((d : ℕ × ℕ) → i < length rs → x + 1 < (get_or rs i d).0) → IsPut rs (insert rs i (x, x)) x
put_is rs x i a le before after = is_put rs (insert rs i (x, x)) x (put_from 0 x rs i (are_from rs a) (omega arith) le (all_before rs a x i before le) after)

last_put : (rs : List (ℕ × ℕ)) (r : ℕ × ℕ) → insert rs (length rs) r ≡ rs ++ r ∷ []
last_put [] r = refl
last_put (s ∷ rs) r = ap (λ z. s ∷ z) (last_put rs r)

pub put_last : (rs : List (ℕ × ℕ)) (x i : ℕ) → AreRanges rs → i ≡ length rs → ((d : ℕ × ℕ) → 0 < i → (get_or rs (i - 1) d).1 + 1 < x) → IsPut rs (rs ++ (x, x) ∷ []) x
put_last rs x i a last before =
    subst (λ z. IsPut rs z x) (ap (λ j. insert rs j (x, x)) last ∙ last_put rs (x, x)) (put_is rs x i a (omega (arith, last)) before (λ d lt. absurd (omega (arith, last))))

pub earlier_is_put : (rs : List (ℕ × ℕ)) (x i : ℕ) (r : ℕ × ℕ) → AreRanges rs → i < length rs → x + 1 ≡ (get_or rs i r).0
    → ((d : ℕ × ℕ) → 0 < i → (get_or rs (i - 1) d).1 + 1 < x) → r ≡ get_or rs i r → IsPut rs (set rs i (x, r.1)) x
earlier_is_put rs x i r a lt e before is =
    subst (λ (z : ℕ × ℕ). IsPut rs (set rs i (x, z.1)) x) (sym is)
    (is_put rs (set rs i (x, (get_or rs i r).1)) x (earlier_from 0 x rs i r (are_from rs a) (omega arith) lt e (all_before rs a x i before (omega arith))))

pub longer_is_put : (rs : List (ℕ × ℕ)) (x i : ℕ) (r : ℕ × ℕ) → AreRanges rs → 0 < i → i ≤ length rs → (get_or rs (i - 1) r).1 + 1 ≡ x
    → ((d : ℕ × ℕ) → i < length rs → x + 1 < (get_or rs i d).0) → r ≡ get_or rs (i - 1) r → IsPut rs (set rs (i - 1) (r.0, x)) x
longer_is_put rs x zero r a pos le e after is = absurd (omega arith)
longer_is_put rs x (suc i) r a pos le e after is =
    let back : suc i - 1 ≡ i = omega arith in
    let at : (get_or rs i r).1 + 1 ≡ x = subst (λ j. (get_or rs j r).1 + 1 ≡ x) back e in
    let here : r ≡ get_or rs i r = subst (λ j. r ≡ get_or rs j r) back is in
    subst (λ j. IsPut rs (set rs j (r.0, x)) x) (sym back)
    (subst (λ (z : ℕ × ℕ). IsPut rs (set rs i (z.0, x)) x) (sym here)
    (is_put rs (set rs i ((get_or rs i r).0, x)) x (longer_from 0 x rs i r (are_from rs a) (omega arith) at after)))

pub joined_is_put : (rs : List (ℕ × ℕ)) (x i : ℕ) → AreRanges rs → 0 < i → i < length rs → (get_or rs (i - 1) (0, 0)).1 + 1 ≡ x
    → x + 1 ≡ (get_or rs i (0, 0)).0 → IsPut rs (joined_at rs i) x
joined_is_put rs x zero a pos lt e f = absurd (omega arith)
joined_is_put rs x (suc i) a pos lt e f =
    let back : suc i - 1 ≡ i = omega arith in
    let at : (get_or rs i (0, 0)).1 + 1 ≡ x = subst (λ j. (get_or rs j (0, 0)).1 + 1 ≡ x) back e in
    subst (λ j. IsPut rs (remove (set rs j ((get_or rs j (0, 0)).0, (get_or rs (suc i) (0, 0)).1)) (suc i)) x) (sym back)
    (is_put rs (remove (set rs i ((get_or rs i (0, 0)).0, (get_or rs (suc i) (0, 0)).1)) (suc i)) x (joined_from 0 x rs i (0, 0) (are_from rs a) lt at f))
