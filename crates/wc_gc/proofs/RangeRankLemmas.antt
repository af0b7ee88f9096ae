-- How many numbers in sorted ranges are below one.
use Rattle.std.proofs.Common.{◌≡◌, ◌≢◌, ℕ, zero, suc, ◌+◌, ◌-◌, ◌/◌, ◌^◌, ◌<◌, ◌≤◌, List, [], ◌∷◌, ◌++◌, length, get_or, refl, sym, ◌∙◌, ap, subst, Bool, true}
use Rattle.std.proofs.Common.{false, cond, ◌&&◌, ◌||◌, ◌⊎◌, nat_le, inl, inr, arith, All}
use Rattle.std.proofs.Math.Nat.{pow-suc}
use Rattle.std.proofs.lemmas.Bool.Decides.{eqb_tells, nat_tests}
use Rattle.std.proofs.lemmas.List.{get_or_append_left, get_or_default}
use Rattle.std.proofs.Math.Bool.{or-true}
use Rattle.wc_gc.specs.Counts.{count_below}
use Rattle.wc_gc.specs.Ranges.{is_within, in_ranges, AreRanges}
use Rattle.wc_gc.proofs.RangeLemmas.{ends_before}
use Rattle.wc_gc.proofs.RankLemmas.{one_more}

-- a run of numbers that are in the set, or are not

all_over : (has : ℕ → Bool) (a n : ℕ) → ((k : ℕ) → a ≤ k → k < a + n → has k ≡ true) → count_below has (a + n) ≡ count_below has a + n
all_over has a zero h = let e : a + 0 ≡ a = omega arith in ap (count_below has) e ∙ omega arith
all_over has a (suc n) h =
    let next : a + suc n ≡ suc (a + n) = omega arith in
    let here = one_more has (a + n) ∙ ap (λ b. count_below has (a + n) + cond b 1 0) (h (a + n) (omega arith) (omega arith)) in
    let before = all_over has a n (λ k le lt. h k le (omega arith)) in
    ap (count_below has) next ∙ omega (arith, here, before)

none_over : (has : ℕ → Bool) (a n : ℕ) → ((k : ℕ) → a ≤ k → k < a + n → has k ≡ false) → count_below has (a + n) ≡ count_below has a
none_over has a zero h = let e : a + 0 ≡ a = omega arith in ap (count_below has) e
none_over has a (suc n) h =
    let next : a + suc n ≡ suc (a + n) = omega arith in
    let here = one_more has (a + n) ∙ ap (λ b. count_below has (a + n) + cond b 1 0) (h (a + n) (omega arith) (omega arith)) in
    let before = none_over has a n (λ k le lt. h k le (omega arith)) in
    ap (count_below has) next ∙ omega (arith, here, before)

all_to : (has : ℕ → Bool) (a b : ℕ) → a ≤ b → ((k : ℕ) → a ≤ k → k < b → has k ≡ true) → count_below has b ≡ count_below has a + (b - a)
all_to has a b le h =
    let to : a + (b - a) ≡ b = omega arith in
    sym (ap (count_below has) to) ∙ all_over has a (b - a) (λ k l r. h k l (omega arith))

none_to : (has : ℕ → Bool) (a b : ℕ) → a ≤ b → ((k : ℕ) → a ≤ k → k < b → has k ≡ false) → count_below has b ≡ count_below has a
none_to has a b le h =
    let to : a + (b - a) ≡ b = omega arith in
    sym (ap (count_below has) to) ∙ none_over has a (b - a) (λ k l r. h k l (omega arith))

-- numbers inside a range, and between two

pub inside : (rs : List (ℕ × ℕ)) (i y : ℕ) (d : ℕ × ℕ) → i < length rs → (get_or rs i d).0 ≤ y → y ≤ (get_or rs i d).1 → in_ranges rs y ≡ true
inside [] i y d lt le ge = absurd (omega arith)
inside (r ∷ rs) zero y d lt le ge =
    let one : nat_le r.0 y ≡ true = grind (arith, nat_tests) in
    let two : nat_le y r.1 ≡ true = grind (arith, nat_tests) in
    rw (one, two) refl
inside (r ∷ rs) (suc i) y d lt le ge = ap (λ b. is_within y r || b) (inside rs i y d (omega arith) le ge) ∙ or-true (is_within y r)

outside : (y : ℕ) (r : ℕ × ℕ) (b : Bool) → (r.1 < y) ⊎ (y < r.0) → (is_within y r || b) ≡ b
outside y r b (inl after) =
    let test : nat_le y r.1 ≡ false = grind (arith, nat_tests) in rw test (both (nat_le r.0 y))
  where
    both : (c : Bool) → ((c && false) || b) ≡ b
    both true = refl
    both false = refl
outside y r b (inr before) =
    let test : nat_le r.0 y ≡ false = grind (arith, nat_tests) in rw test refl

-- the ranges before an index end before a number
abbrev pub EndBefore : List (ℕ × ℕ) → ℕ → ℕ → Type 0
EndBefore rs i y = (k : ℕ) (d : ℕ × ℕ) → k < i → (get_or rs k d).1 < y

-- those from it on begin at a number or later
abbrev pub BeginAt : List (ℕ × ℕ) → ℕ → ℕ → Type 0
BeginAt rs i y = (k : ℕ) (d : ℕ × ℕ) → i ≤ k → k < length rs → y ≤ (get_or rs k d).0

pub between : (rs : List (ℕ × ℕ)) (i y : ℕ) → EndBefore rs i y → BeginAt rs i (y + 1) → in_ranges rs y ≡ false
between [] i y before after = refl
between (r ∷ rs) zero y before after =
    let here : y + 1 ≤ r.0 = after 0 r (omega arith) (omega arith) in
    outside y r (in_ranges rs y) (inr (omega arith))
    ∙ between rs zero y (λ k d lt. absurd (omega arith)) (λ k d le lt. after (suc k) d (omega arith) (omega arith))
between (r ∷ rs) (suc i) y before after =
    outside y r (in_ranges rs y) (inl (before 0 r (omega arith)))
    ∙ between rs i y (λ k d lt. before (suc k) d (omega arith)) (λ k d le lt. after (suc k) d (omega arith) (omega arith))

-- between two ranges all numbers have one rank
pub gap_rank : (rs : List (ℕ × ℕ)) (i a b : ℕ) → a ≤ b → EndBefore rs i a → BeginAt rs i b → count_below (in_ranges rs) b ≡ count_below (in_ranges rs) a
gap_rank rs i a b le before after =
    none_to (in_ranges rs) a b le (λ y l r. between rs i y (λ k d lt. omega (arith, before k d lt)) (λ k d ge lt. omega (arith, after k d ge lt)))

-- inside a range ranks grow by one
pub range_rank : (rs : List (ℕ × ℕ)) (i b : ℕ) (d : ℕ × ℕ) → i < length rs → (get_or rs i d).0 ≤ b → b ≤ (get_or rs i d).1 + 1
    → count_below (in_ranges rs) b ≡ count_below (in_ranges rs) (get_or rs i d).0 + (b - (get_or rs i d).0)
range_rank rs i b d lt le ge = all_to (in_ranges rs) (get_or rs i d).0 b le (λ y l r. inside rs i y d lt l (omega arith))

-- below all ranges there is none
pub none_first : (rs : List (ℕ × ℕ)) (b : ℕ) → BeginAt rs 0 b → count_below (in_ranges rs) b ≡ 0
none_first rs b after = gap_rank rs 0 0 b (omega arith) (λ k d lt. absurd (omega arith)) after

-- the ranges before an index, counted
abbrev pub IsTotal : List (ℕ × ℕ) → ℕ → ℕ → Type 0
IsTotal rs i total = (y : ℕ) → EndBefore rs i y → BeginAt rs i y → total ≡ count_below (in_ranges rs) y

pub starts : (rs : List (ℕ × ℕ)) → AreRanges rs → (i k : ℕ) (d e : ℕ × ℕ) → i ≤ k → k < length rs → (get_or rs i e).0 ≤ (get_or rs k d).0
starts rs a i k d e le lt =
    let same = ap (λ (r : ℕ × ℕ). r.0) (get_or_default rs i e d (omega arith)) in
    elim (eqb_tells i k) [
      | inl q ↦ let is : i ≡ k = q.1 in subst (λ z. (get_or rs i e).0 ≤ (get_or rs z d).0) is (omega (arith, same))
      | inr n ↦ let ne : i ≢ k = n.1 in let less : i < k = omega arith in omega (arith, same, a.0 i d (omega arith), a.1 i k d less lt)
    ]

pub first_before : (rs : List (ℕ × ℕ)) → AreRanges rs → (i : ℕ) (e : ℕ × ℕ) → i < length rs → EndBefore rs i (get_or rs i e).0
first_before rs a i e lt k d less =
    let same = ap (λ (r : ℕ × ℕ). r.0) (get_or_default rs i e d lt) in
    omega (arith, same, a.1 k i d less lt)

-- the rank of a range's first number
pub first_rank : (rs : List (ℕ × ℕ)) → AreRanges rs → (i total : ℕ) (e : ℕ × ℕ) → i < length rs → IsTotal rs i total
    → total ≡ count_below (in_ranges rs) (get_or rs i e).0
first_rank rs a i total e lt is = is (get_or rs i e).0 (first_before rs a i e lt) (λ k d le less. starts rs a i k d e le less)

-- one range more
pub total_more : (rs : List (ℕ × ℕ)) → AreRanges rs → (i total : ℕ) (e : ℕ × ℕ) → i < length rs → IsTotal rs i total
    → IsTotal rs (i + 1) (total + ((get_or rs i e).1 - (get_or rs i e).0 + 1))
total_more rs a i total e lt is y before after =
    let first = first_rank rs a i total e lt is in
    let ends = before i e (omega arith) in
    let filled = a.0 i e lt in
    let here = range_rank rs i ((get_or rs i e).1 + 1) e lt (omega (arith, filled)) (omega arith) in
    let past : EndBefore rs (i + 1) ((get_or rs i e).1 + 1) = λ k d less. elim (eqb_tells k i) [
      | inl q ↦ let is : k ≡ i = q.1 in let same = ap (λ (r : ℕ × ℕ). r.1) (get_or_default rs i e d lt) in rw is (omega (arith, same))
      | inr n ↦ let ne : k ≢ i = n.1 in let fb = first_before rs a i e lt k d (omega arith) in omega (arith, fb, filled)
    ] in
    let rest = gap_rank rs (i + 1) ((get_or rs i e).1 + 1) y (omega (arith, ends)) past after in
    omega (arith, first, here, rest, filled)

-- probes

pub halves : (s t e : ℕ) → s < 2 ^ e → 0 < s → t ≤ s / 2 → (f : ℕ) × (e ≡ suc f) × (t < 2 ^ f)
halves s t zero h pos le = absurd (omega arith)
halves s t (suc f) h pos le = let p = pow-suc 2 f in (f, refl, omega (arith, p))

pub last_is : (xs : List ℕ) (x i : ℕ) → length xs ≡ i → get_or (xs ++ x ∷ []) i 0 ≡ x
last_is [] x i h = let e : i ≡ 0 = omega arith in rw e refl
last_is (y ∷ xs) x zero h = absurd (omega arith)
last_is (y ∷ xs) x (suc i) h = last_is xs x i (omega arith)

pub each_more : (expected : ℕ → ℕ) (before : List ℕ) (x i : ℕ) → length before ≡ i → ((k : ℕ) → k < i → get_or before k 0 ≡ expected k) → x ≡ expected i
    → (k : ℕ) → k < i + 1 → get_or (before ++ x ∷ []) k 0 ≡ expected k
each_more expected before x i long each is k lt =
    elim (eqb_tells k i) [
      | inl e ↦ let same : k ≡ i = e.1 in rw same (last_is before x i long ∙ is)
      | inr n ↦ let ne : k ≢ i = n.1 in let less : k < i = omega arith in get_or_append_left before (x ∷ []) 0 k (omega arith) ∙ each k less
    ]

-- the rank of a number between the ranges, by what was counted

pub read_rank : (rs : List (ℕ × ℕ)) (before : List ℕ) → AreRanges rs → length before ≡ length rs
    → ((i : ℕ) → i < length rs → get_or before i 0 ≡ count_below (in_ranges rs) (get_or rs i (0, 0)).0)
    → (i x : ℕ) → i < length before → EndBefore rs i x → BeginAt rs i (x + 1) → get_or before i 0 ≡ count_below (in_ranges rs) x
read_rank rs before a long each i x lt ends begins =
    let within : i < length rs = omega (arith, long) in
    let first = begins i (0, 0) (omega arith) within in
    let gap = gap_rank rs i x (get_or rs i (0, 0)).0 (omega (arith, first)) ends (λ k d le less. starts rs a i k d (0, 0) le less) in
    each i within ∙ gap

pub total_rank : (rs : List (ℕ × ℕ)) (total i x : ℕ) → ((y : ℕ) → All (λ (r : ℕ × ℕ). r.1 < y) rs → total ≡ count_below (in_ranges rs) y)
    → length rs ≤ i → EndBefore rs i x → total ≡ count_below (in_ranges rs) x
total_rank rs total i x whole past ends = whole x (λ k d lt. ends k d (omega arith))

-- a step of the search

pub probe_less : (rs : List (ℕ × ℕ)) → AreRanges rs → (m x high : ℕ) (r : ℕ × ℕ) → r ≡ get_or rs m r → m ≤ high → m < length rs → x < r.0 → BeginAt rs m (x + 1)
probe_less rs a m x high r is le lt less k d from within =
    let same = ap (λ (z : ℕ × ℕ). z.0) is in
    omega (arith, same, starts rs a m k d r from within)

pub probe_more : (rs : List (ℕ × ℕ)) → AreRanges rs → (m x : ℕ) (r : ℕ × ℕ) → r ≡ get_or rs m r → m < length rs → r.1 < x → EndBefore rs (m + 1) x
probe_more rs a m x r is lt more k d below =
    let same = ap (λ (z : ℕ × ℕ). z.1) is in
    ends_before rs a k m x d r (omega arith) lt (omega (arith, same))

pub probe_counted : (length probes s t : ℕ) → 0 < s → t ≤ s / 2
    → ((digits : ℕ) → length < 2 ^ digits → (left : ℕ) × (probes + left ≡ digits) × (s < 2 ^ left)) → (digits : ℕ) → length < 2 ^ digits
    → (left : ℕ) × (probes + 1 + left ≡ digits) × (t < 2 ^ left)
probe_counted length probes s t pos le h digits bounded =
    let old = h digits bounded in
    let half = halves s t old.0 old.2 pos le in
    let one = old.1 in
    let two = half.1 in
    (half.0, omega (arith, one, two), half.2)

pub probe_found : (rs : List (ℕ × ℕ)) (before : List ℕ) → length before ≡ length rs
    → ((i : ℕ) → i < length rs → get_or before i 0 ≡ count_below (in_ranges rs) (get_or rs i (0, 0)).0)
    → (m x : ℕ) (r : ℕ × ℕ) → r ≡ get_or rs m r → m < length rs → r.0 ≤ x → x ≤ r.1 → get_or before m 0 + (x - r.0) ≡ count_below (in_ranges rs) x
probe_found rs before long each m x r is lt le ge =
    let same = get_or_default rs m (0, 0) r lt in
    let first = ap (λ (z : ℕ × ℕ). z.0) same in
    let own = ap (λ (z : ℕ × ℕ). z.0) is in
    let last = ap (λ (z : ℕ × ℕ). z.1) is in
    let here = range_rank rs m x r lt (omega (arith, own)) (omega (arith, last)) in
    let begun = each m lt ∙ ap (count_below (in_ranges rs)) first in
    omega (arith, here, begun, own)

pub inside_range : (rs : List (ℕ × ℕ)) (m x : ℕ) (r : ℕ × ℕ) → r ≡ get_or rs m r → m < length rs → r.0 ≤ x → x ≤ r.1 → in_ranges rs x ≡ true
inside_range rs m x r is lt le ge =
    let own = ap (λ (z : ℕ × ℕ). z.0) is in
    let last = ap (λ (z : ℕ × ℕ). z.1) is in
    inside rs m x r lt (omega (arith, own, le)) (omega (arith, last, ge))

pub found_rank : (before : List ℕ) (m b y c : ℕ) → m < length before → b ≡ get_or before m b → get_or before m 0 + y ≡ c → b + y ≡ c
found_rank before m b y c lt is found =
    let same = get_or_default before m b 0 lt in
    omega (arith, is, same, found)
