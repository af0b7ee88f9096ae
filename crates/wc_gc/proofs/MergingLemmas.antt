-- Ranges in any order, and sorted ranges after which others are put.
use Rattle.std.proofs.Common.{◌≡◌, ℕ, zero, suc, ◌+◌, ◌-◌, ◌<◌, ◌≤◌, List, [], ◌∷◌, ◌++◌, length, take, get_or, set, max, refl, sym, ◌∙◌, ap, Bool, true, false}
use Rattle.std.proofs.Common.{◌||◌, ◌&&◌, nat_eq, nat_le, arith}
use Rattle.std.specs.List.{list_any}
use Rattle.std.proofs.lemmas.Bool.Decides.{nat_tests}
use Rattle.std.proofs.lemmas.List.{take_more}
use Rattle.std.proofs.lemmas.List.Folds.{list_any-append}
use Rattle.std.proofs.Math.Bool.{or-false}
use Rattle.wc_gc.specs.Ranges.{is_within, in_ranges, AreRanges}
use Rattle.wc_gc.specs.Private.Merging.{AreFilled, BeginBy, lengthened}
use Rattle.wc_gc.proofs.RangeLemmas.{AreFrom, are_from, ranges_from, all_before, one_is}

or_assoc : (a b c : Bool) → (a || (b || c)) ≡ ((a || b) || c)
or_assoc true b c = refl
or_assoc false b c = refl

-- a range and one that it overlaps or touches
wider_is : (a b e f y : ℕ) → a ≤ b → a ≤ e → e ≤ b + 1 → e ≤ f → is_within y (a, max b f) ≡ (is_within y (a, b) || is_within y (e, f))
wider_is a b e f y h k p q = grind (arith, nat_tests)

abbrev Widens : List (ℕ × ℕ) → List (ℕ × ℕ) → ℕ → ℕ → Type 0
Widens rs rs' e f = (y : ℕ) → in_ranges rs' y ≡ (in_ranges rs y || is_within y (e, f))

longer_last : (low e f : ℕ) (rs : List (ℕ × ℕ)) (j : ℕ) → AreFrom low rs → suc j ≡ length rs → (get_or rs j (0, 0)).0 ≤ e
    → e ≤ (get_or rs j (0, 0)).1 + 1 → e ≤ f
    → AreFrom low (set rs j ((get_or rs j (0, 0)).0, max (get_or rs j (0, 0)).1 f))
    × Widens rs (set rs j ((get_or rs j (0, 0)).0, max (get_or rs j (0, 0)).1 f)) e f
longer_last low e f [] j a n s h w = absurd (omega arith)
longer_last low e f (r ∷ []) (suc j) a n s h w = absurd (omega arith)
longer_last low e f (r ∷ []) zero a n s h w =
    let filled = a.1.0 in (
      (a.0, (omega (arith, filled), tt)),
      λ y. or-false (is_within y (r.0, max r.1 f))
          ∙ (wider_is r.0 r.1 e f y a.1.0 s h w ∙ ap (λ b. b || is_within y (e, f)) (sym (or-false (is_within y r)))),
    )
longer_last low e f (r ∷ s ∷ rs) zero a n b h w = absurd (omega arith)
longer_last low e f (r ∷ s ∷ rs) (suc j) a n b h w =
    let more = longer_last (r.1 + 2) e f (s ∷ rs) j a.1.1 (omega arith) b h w in
    ((a.0, (a.1.0, more.0)), λ y. ap (λ c. is_within y r || c) (more.1 y) ∙ or_assoc (is_within y r) (in_ranges (s ∷ rs) y) (is_within y (e, f)))

put_last : (low e f : ℕ) (rs : List (ℕ × ℕ)) → AreFrom low rs → low ≤ e → e ≤ f → ((k : ℕ) (d : ℕ × ℕ) → k < length rs → (get_or rs k d).1 + 1 < e)
    → AreFrom low (rs ++ (e, f) ∷ []) × Widens rs (rs ++ (e, f) ∷ []) e f
put_last low e f [] a h w before = ((h, (w, tt)), λ y. or-false (is_within y (e, f)))
put_last low e f (r ∷ rs) a h w before =
    let first = before 0 r (omega arith) in
    let more = put_last (r.1 + 2) e f rs a.1.1 (omega (arith, first)) w (λ k d lt. before (suc k) d (omega arith)) in
    ((a.0, (a.1.0, more.0)), λ y. ap (λ c. is_within y r || c) (more.1 y) ∙ or_assoc (is_within y r) (in_ranges rs y) (is_within y (e, f)))

begun_set : (x : ℕ) (rs : List (ℕ × ℕ)) (j : ℕ) (v : ℕ × ℕ) → BeginBy x rs → v.0 ≤ x → BeginBy x (set rs j v)
begun_set x [] j v h w k d lt = absurd (omega arith)
begun_set x (r ∷ rs) zero v h w zero d lt = w
begun_set x (r ∷ rs) zero v h w (suc k) d lt = h (suc k) d (omega arith)
begun_set x (r ∷ rs) (suc j) v h w zero d lt = h 0 d (omega arith)
begun_set x (r ∷ rs) (suc j) v h w (suc k) d lt = begun_set x rs j v (λ k d lt. h (suc k) d (omega arith)) w k d (omega arith)

begun_push : (x : ℕ) (rs : List (ℕ × ℕ)) (v : ℕ × ℕ) → BeginBy x rs → v.0 ≤ x → BeginBy x (rs ++ v ∷ [])
begun_push x [] v h w zero d lt = w
begun_push x [] v h w (suc k) d lt = absurd (omega arith)
begun_push x (r ∷ rs) v h w zero d lt = h 0 d (omega arith)
begun_push x (r ∷ rs) v h w (suc k) d lt = begun_push x rs v (λ k d lt. h (suc k) d (omega arith)) w k d (omega arith)

-- what appending a range makes of ranges that begin before it
abbrev pub IsAppended : List (ℕ × ℕ) → List (ℕ × ℕ) → ℕ → ℕ → Type 0
IsAppended rs rs' e f = AreRanges rs' × BeginBy e rs' × Widens rs rs' e f

pub appended_longer : (rs : List (ℕ × ℕ)) (e f : ℕ) → AreRanges rs → BeginBy e rs → 0 < length rs → e ≤ (get_or rs (length rs - 1) (0, 0)).1 + 1
    → e ≤ f → IsAppended rs (lengthened rs f) e f
appended_longer rs e f a begun pos reach w =
    let j : ℕ = length rs - 1 in
    let begins = begun (length rs - 1) (0, 0) (omega arith) in
    let more = longer_last 0 e f rs (length rs - 1) (are_from rs a) (omega arith) begins reach w in
    (ranges_from 0 (lengthened rs f) more.0, begun_set e rs (length rs - 1) _ begun begins, more.1)

pub appended_apart : (rs : List (ℕ × ℕ)) (e f : ℕ) → AreRanges rs → BeginBy e rs
    → ((d : ℕ × ℕ) → 0 < length rs → (get_or rs (length rs - 1) d).1 + 1 < e) → e ≤ f → IsAppended rs (rs ++ (e, f) ∷ []) e f
appended_apart rs e f a begun apart w =
    let more = put_last 0 e f rs (are_from rs a) (omega arith) w (all_before rs a e (length rs) apart (omega arith)) in
    (ranges_from 0 (rs ++ (e, f) ∷ []) more.0, begun_push e rs (e, f) begun (omega arith), more.1)

-- what begins by a number begins by a later one

pub begun_later : (x z : ℕ) (rs : List (ℕ × ℕ)) → BeginBy x rs → x ≤ z → BeginBy z rs
begun_later x z rs h le k d lt = let at = h k d lt in omega (arith, at)

-- one number more as a range of its own

pub filled_push : (rs : List (ℕ × ℕ)) (x : ℕ) → AreFilled rs → AreFilled (rs ++ (x, x) ∷ [])
filled_push [] x h zero d lt = omega arith
filled_push [] x h (suc k) d lt = absurd (omega arith)
filled_push (r ∷ rs) x h zero d lt = h 0 d (omega arith)
filled_push (r ∷ rs) x h (suc k) d lt = filled_push rs x (λ k d lt. h (suc k) d (omega arith)) k d (omega arith)

pub number_more : (rs pieces : List (ℕ × ℕ)) (numbers : List ℕ) (i y : ℕ) → i < length numbers
    → in_ranges pieces y ≡ (in_ranges rs y || list_any (nat_eq y) (take i numbers))
    → in_ranges (pieces ++ (get_or numbers i 0, get_or numbers i 0) ∷ []) y ≡ (in_ranges rs y || list_any (nat_eq y) (take (i + 1) numbers))
number_more rs pieces numbers i y lt before =
    let x = get_or numbers i 0 in
    list_any-append (is_within y) pieces ((x, x) ∷ [])
    ∙ (ap (λ b. b || (is_within y (x, x) || false)) before
    ∙ (ap (λ b. (in_ranges rs y || list_any (nat_eq y) (take i numbers)) || (b || false)) (one_is x y)
    ∙ (sym (or_assoc (in_ranges rs y) (list_any (nat_eq y) (take i numbers)) (nat_eq y x || false))
    ∙ ap (λ b. in_ranges rs y || b) (sym (ap (list_any (nat_eq y)) (take_more numbers i 0 lt) ∙ list_any-append (nat_eq y) (take i numbers) (x ∷ []))))))

-- one range more of those that begin in order

pub piece_more : (pieces rs rs' : List (ℕ × ℕ)) (i y e f : ℕ) → i < length pieces → in_ranges rs' y ≡ (in_ranges rs y || is_within y (e, f))
    → in_ranges rs y ≡ in_ranges (take i pieces) y → e ≡ (get_or pieces i (0, 0)).0 → f ≡ (get_or pieces i (0, 0)).1
    → in_ranges rs' y ≡ in_ranges (take (i + 1) pieces) y
piece_more pieces rs rs' i y e f lt more before first last =
    let piece = get_or pieces i (0, 0) in
    more
    ∙ (ap (λ b. b || is_within y (e, f)) before
    ∙ (ap (λ (z : ℕ). in_ranges (take i pieces) y || (nat_le z y && nat_le y f)) first
    ∙ (ap (λ (z : ℕ). in_ranges (take i pieces) y || (nat_le (get_or pieces i (0, 0)).0 y && nat_le y z)) last
    ∙ sym (ap (list_any (is_within y)) (take_more pieces i (0, 0) lt)
    ∙ (list_any-append (is_within y) (take i pieces) (piece ∷ []) ∙ ap (λ b. in_ranges (take i pieces) y || b) (or-false (is_within y piece)))))))
