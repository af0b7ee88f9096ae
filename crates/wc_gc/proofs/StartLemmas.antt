-- Where a number is looked for first.
use Rattle.std.proofs.Common.{◌≡◌, ◌≢◌, ℕ, true, nat_le, zero, suc, ◌+◌, ◌*◌, ◌/◌, ◌<◌, ◌≤◌, List, [], ◌∷◌, ◌++◌, length, get_or, sym, ◌∙◌, ap, subst, inl, inr, arith}
use Rattle.std.proofs.Math.Nat.{div-lt_iff_lt-mul, div-mul-le_self, le-div_iff_mul-le, mul-le-mul_right}
use Rattle.std.proofs.lemmas.Bool.{cases_lt, false≢true}
use Rattle.std.proofs.lemmas.Bool.Decides.{eqb_tells, nat_tests}
use Rattle.std.proofs.lemmas.List.{get_or_append_left, get_or_default, get_or_past, length-append}
use Rattle.wc_gc.specs.Ranges.{AreRanges, in_ranges}
use Rattle.wc_gc.specs.Private.RangeSet.{AreStarts, IsCut, IsCutAt}
use Rattle.wc_gc.proofs.RangeLemmas.{are_from, cut_at, cut_before, ends_after, ends_grow, in_at, in_none}
use Rattle.wc_gc.proofs.RangeRankLemmas.{last_is}

-- cuts

pub cut_within : (x : ℕ) (rs : List (ℕ × ℕ)) (i : ℕ) → IsCut x rs i → i ≤ length rs
cut_within x [] i cut = omega (arith, cut)
cut_within x (r ∷ rs) zero cut = omega arith
cut_within x (r ∷ rs) (suc i) cut = let rest = cut_within x rs i cut.1 in omega (arith, rest)

pub cut_from : (x : ℕ) (rs : List (ℕ × ℕ)) (i j : ℕ) → IsCut x rs i → ((k : ℕ) (d : ℕ × ℕ) → k < j → (get_or rs k d).1 < x) → j ≤ length rs → j ≤ i
cut_from x [] i j cut before le = omega arith
cut_from x (r ∷ rs) i zero cut before le = omega arith
cut_from x (r ∷ rs) zero (suc j) cut before le = let here : r.1 < x = before 0 r (omega arith) in absurd (omega (arith, here, cut))
cut_from x (r ∷ rs) (suc i) (suc j) cut before le =
    let rest = cut_from x rs i j cut.1 (λ k d lt. before (suc k) d (omega arith)) (omega arith) in
    omega (arith, rest)

pub cut_by : (x : ℕ) (rs : List (ℕ × ℕ)) (i j : ℕ) → IsCut x rs i → ((d : ℕ × ℕ) → j < length rs → x ≤ (get_or rs j d).1) → i ≤ j
cut_by x [] i j cut reach = omega (arith, cut)
cut_by x (r ∷ rs) zero j cut reach = omega arith
cut_by x (r ∷ rs) (suc i) zero cut reach = let here : x ≤ r.1 = reach r (omega arith) in absurd (omega (arith, here, cut.0))
cut_by x (r ∷ rs) (suc i) (suc j) cut reach =
    let rest = cut_by x rs i j cut.1 (λ d lt. reach d (omega arith)) in
    omega (arith, rest)

pub cut_once : (x : ℕ) (rs : List (ℕ × ℕ)) (i j : ℕ) → IsCut x rs i → IsCut x rs j → i ≡ j
cut_once x [] i j c e = omega (arith, c, e)
cut_once x (r ∷ rs) zero zero c e = omega arith
cut_once x (r ∷ rs) zero (suc j) c e = absurd (omega (arith, c, e.0))
cut_once x (r ∷ rs) (suc i) zero c e = absurd (omega (arith, c.0, e))
cut_once x (r ∷ rs) (suc i) (suc j) c e = ap suc (cut_once x rs i j c.1 e.1)

-- the range at the cut of a number in the set has it

cut_reaches : (x : ℕ) (rs : List (ℕ × ℕ)) (i : ℕ) (d : ℕ × ℕ) → IsCut x rs i → i < length rs → x ≤ (get_or rs i d).1
cut_reaches x [] i d cut lt = absurd (omega arith)
cut_reaches x (r ∷ rs) zero d cut lt = cut
cut_reaches x (r ∷ rs) (suc i) d cut lt = cut_reaches x rs i d cut.1 (omega arith)

cut_by_indices : (x : ℕ) (rs : List (ℕ × ℕ)) → AreRanges rs → (i : ℕ) → IsCut x rs i → IsCutAt x rs i
cut_by_indices x rs a i cut =
    let within = cut_within x rs i cut in
    let reach = cut_reaches x rs i (0, 0) cut in
    (within, (λ k d lt. cut_before x rs i k d cut lt within), (λ k d le lt. ends_after rs a k i x d (0, 0) le lt (reach (omega (arith, le, lt)))))

pub found_at : (x : ℕ) (rs : List (ℕ × ℕ)) (i : ℕ) (r : ℕ × ℕ) → AreRanges rs → IsCut x rs i → i < length rs → r ≡ get_or rs i r → in_ranges rs x ≡ true
    → (r.0 ≤ x) × (x ≤ r.1)
found_at x rs i r a cut lt is has =
    let test : nat_le (get_or rs i r).0 x ≡ true = sym (in_at 0 x rs i r (are_from rs a) cut lt) ∙ has in
    let begun : (get_or rs i r).0 ≤ x = grind (arith, nat_tests) in
    let reach = cut_reaches x rs i r cut lt in
    let first = ap (λ (z : ℕ × ℕ). z.0) is in
    let last = ap (λ (z : ℕ × ℕ). z.1) is in
    (omega (arith, begun, first), omega (arith, reach, last))

pub found_within : (x : ℕ) (rs : List (ℕ × ℕ)) (i : ℕ) → IsCut x rs i → in_ranges rs x ≡ true → i < length rs
found_within x rs i cut has =
    elim (cases_lt i (length rs)) [
      | inl less ↦ less
      | inr past ↦ absurd (false≢true (sym (in_none x rs i cut past) ∙ has))
    ]

-- the ranges before the start of a number's block end before the number

pub before_start : (x block : ℕ) (rs : List (ℕ × ℕ)) (s : ℕ) → IsCut (x / block * block) rs s → (k : ℕ) (d : ℕ × ℕ) → k < s → (get_or rs k d).1 < x
before_start x block rs s cut k d lt =
    let within = cut_within (x / block * block) rs s cut in
    let before = cut_before (x / block * block) rs s k d cut lt within in
    let first = div-mul-le_self x block in
    omega (arith, before, first)

-- one range more

start_is : (rs : List (ℕ × ℕ)) → AreRanges rs → (block b i : ℕ) → 0 < block → i < length rs → b ≤ (get_or rs i (0, 0)).1 / block
    → ((k : ℕ) (d : ℕ × ℕ) → k < i → (get_or rs k d).1 < b * block) → IsCut (b * block) rs i
start_is rs a block b i filled lt le before =
    let reach : b * block ≤ (get_or rs i (0, 0)).1 = (le-div_iff_mul-le filled).0 le in
    cut_at (b * block) rs i (omega arith) before (λ k d from within. ends_after rs a k i (b * block) d (0, 0) from within reach)

-- an index for each block that has none

abbrev pub AreKept : List ℕ → List ℕ → Type 0
AreKept old new = (b : ℕ) → b < length old → get_or new b 0 ≡ get_or old b 0

abbrev pub AreAdded : List ℕ → List ℕ → ℕ → ℕ → Type 0
AreAdded old new block i = (b : ℕ) → length old ≤ b → b < length new → (get_or new b 0 ≡ i) × (b ≤ block)

pub start_pushed : (old starts : List ℕ) (block i n : ℕ) → length starts ≡ n → length old ≤ n → n ≤ block → AreKept old starts → AreAdded old starts block i
    → AreKept old (starts ++ i ∷ []) × AreAdded old (starts ++ i ∷ []) block i
start_pushed old starts block i n long from to kept added = (
  λ b lt. get_or_append_left starts (i ∷ []) 0 b (omega (arith, long, from)) ∙ kept b lt,
  λ b le lt.
      let size = length-append starts (i ∷ []) in
      elim (eqb_tells b n) [
        | inl e ↦ let same : b ≡ n = e.1 in (last_is starts i b (omega (arith, same, long)), omega (arith, same, to))
        | inr e ↦
            let ne : b ≢ n = e.1 in
            let less : b < length starts = omega (arith, lt, size, long) in
            let one = added b le less in
            (get_or_append_left starts (i ∷ []) 0 b less ∙ one.0, one.1)
      ],
)

-- the starts of blocks by the ranges before an index
pub record AreStartsTo (block : ℕ) (rs : List (ℕ × ℕ)) (i : ℕ) (starts : List ℕ) : Type 0 where
  pub begins : (b : ℕ) → b < length starts → IsCut (b * block) rs (get_or starts b 0)
  pub ended : (k : ℕ) (d : ℕ × ℕ) → k < i → (get_or rs k d).1 < length starts * block

pub starts_more : (rs : List (ℕ × ℕ)) → AreRanges rs → (block i : ℕ) (old new : List ℕ) → 0 < block → i < length rs → AreStartsTo block rs i old
    → AreKept old new → AreAdded old new ((get_or rs i (0, 0)).1 / block) i → (get_or rs i (0, 0)).1 / block < length new → AreStartsTo block rs (i + 1) new
starts_more rs a block i old new filled lt s kept added past = record {
  begins = λ b within. elim (cases_lt b (length old)) [
    | inl less ↦ subst (λ j. IsCut (b * block) rs j) (sym (kept b less)) (s.begins b less)
    | inr more ↦
        let one = added b more within in
        subst (λ j. IsCut (b * block) rs j) (sym one.0)
        (start_is rs a block b i filled lt one.1
        (λ k d below. let ended = s.ended k d below in let bound = mul-le-mul_right block more in omega (arith, ended, bound)))
  ];
  ended = λ k d below.
      let grow = ends_grow rs a k i d (omega arith) lt in
      let same = ap (λ (r : ℕ × ℕ). r.1) (get_or_default rs i d (0, 0) lt) in
      let last : (get_or rs i (0, 0)).1 < length new * block = (div-lt_iff_lt-mul filled).0 past in
      omega (arith, grow, same, last);
}

pub all_starts : (rs : List (ℕ × ℕ)) → AreRanges rs → (block i : ℕ) (starts : List ℕ) → i ≡ length rs → AreStartsTo block rs i starts → AreStarts block rs starts
all_starts rs a block i starts all s b =
    cut_by_indices (b * block) rs a (get_or starts b (length rs)) (elim (cases_lt b (length starts)) [
      | inl less ↦ subst (λ j. IsCut (b * block) rs j) (sym (get_or_default starts b (length rs) 0 less)) (s.begins b less)
      | inr past ↦
          subst (λ j. IsCut (b * block) rs j) (sym (get_or_past starts b (length rs) past))
          (cut_at (b * block) rs (length rs) (omega arith)
          (λ k d lt. let ended = s.ended k d (omega (arith, all)) in let bound = mul-le-mul_right block past in omega (arith, ended, bound))
          (λ k d le lt. absurd (omega arith)))
    ])
