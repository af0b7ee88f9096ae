-- Rows, one after another.
use Rattle.std.proofs.Common.{◌≡◌, ◌⊎◌, ℕ, ◌+◌, ◌-◌, ◌<◌, ◌≤◌, List, [], ◌∷◌, ◌++◌, length, take, drop, get_or, Bool, false, sym, ◌∙◌, ap, subst, inl, inr, arith}
use Rattle.std.specs.Prelude.{All}
use Rattle.std.specs.List.{slice_range}
use Rattle.std.proofs.lemmas.Bool.{cases_eq, cases_lt}
use Rattle.std.proofs.lemmas.List.{drop-append-le, get_or_append_left, get_or_past, length-append, length-drop, length_push, take-append-le, take_all}
use Rattle.std.proofs.Math.Seq.{drop-append_seam, get_or-append_seam}
use Rattle.wc_why.specs.Rows.{row_in}

-- the rows of the first items of a graph
pub record AreRowsTo (size : ℕ) (names : ℕ → List ℕ) (is_closed : ℕ → Bool) (starts all : List ℕ) (closed : List Bool) (count : ℕ) : Type 0 where
  pub each : length starts ≡ count + 1
  pub sized : length closed ≡ count
  pub last : get_or starts count 0 ≡ length all
  pub within : (n : ℕ) → get_or starts n 0 ≤ length all
  pub rising : (n : ℕ) → n < count → get_or starts n 0 ≤ get_or starts (n + 1) 0
  pub named : (n : ℕ) → n < count → row_in starts all n ≡ names n
  pub closes : (n : ℕ) → n < count → get_or closed n false ≡ is_closed n
  pub below : (n : ℕ) → n < count → All (λ m. m < size) (names n)

-- what is read of a part does not change when more is appended
pub range_kept : (xs ys : List ℕ) (a b : ℕ) → a ≤ length xs → b ≤ length xs → slice_range (xs ++ ys) a b ≡ slice_range xs a b
range_kept xs ys a b la lb =
    let len = length-drop a xs in
    ap (take (b - a)) (drop-append-le a xs ys la) ∙ take-append-le (b - a) (drop a xs) ys (omega (arith, len, la, lb))

pub range_last : (xs ys : List ℕ) (a b : ℕ) → a ≡ length xs → b ≡ length (xs ++ ys) → slice_range (xs ++ ys) a b ≡ ys
range_last xs ys a b ea eb =
    let len = length-append xs ys in
    subst (λ z. take (b - z) (drop z (xs ++ ys)) ≡ ys) (sym ea)
    (ap (take (b - length xs)) (drop-append_seam xs ys) ∙ take_all (b - length xs) ys (omega (arith, len, eb)))

module _ (size : ℕ) (names : ℕ → List ℕ) (is_closed : ℕ → Bool) (starts all : List ℕ) (closed : List Bool) (count : ℕ) (a : AreRowsTo size names is_closed starts all closed count)
    (row all' starts' : List ℕ) (closed' : List Bool) (b : Bool) (is : row ≡ names count) (alls : all' ≡ all ++ row) (begins : starts' ≡ starts ++ length all' ∷ [])
    (closes : closed' ≡ closed ++ b ∷ []) (told : b ≡ is_closed count) (low : All (λ m. m < size) (names count)) where
  longer : length all ≤ length all'
  longer = let e = ap length alls in let l = length-append all row in omega (arith, e, l)

  old : (n : ℕ) → n ≤ count → get_or starts' n 0 ≡ get_or starts n 0
  old n le = ap (λ z. get_or z n 0) begins ∙ get_or_append_left starts (length all' ∷ []) 0 n (let e = a.each in omega (arith, e, le))

  new : get_or starts' (count + 1) 0 ≡ length all'
  new =
      ap (λ z. get_or z (count + 1) 0) begins
      ∙ (ap (λ z. get_or (starts ++ length all' ∷ []) z 0) (sym a.each) ∙ get_or-append_seam starts (length all') [] 0)

  inside : (n : ℕ) → get_or starts' n 0 ≤ length all'
  inside n = elim (cases_lt n (count + 1)) [
    | inl lt ↦ let e = old n (omega (arith, lt)) in let w = a.within n in omega (arith, e, w, longer)
    | inr past ↦
        elim (cases_eq n (count + 1)) [
          | inl eq ↦ let e : get_or starts' n 0 ≡ length all' = ap (λ z. get_or starts' z 0) eq ∙ new in omega (arith, e)
          | inr apart ↦
              let len : length starts' ≡ length starts + 1 = ap length begins ∙ length_push starts (length all') in
              let s = a.each in
              let e = get_or_past starts' n 0 (omega (arith, len, s, past, apart)) in omega (arith, e)
        ]
  ]

  row_old : (n : ℕ) → n < count → row_in starts' all' n ≡ row_in starts all n
  row_old n lt =
      let first = old n (omega (arith, lt)) in
      let second = old (n + 1) (omega (arith, lt)) in
      ap (λ z. slice_range all' z (get_or starts' (n + 1) 0)) first
      ∙ (ap (λ z. slice_range all' (get_or starts n 0) z) second
      ∙ (ap (λ z. slice_range z (get_or starts n 0) (get_or starts (n + 1) 0)) alls
      ∙ range_kept all row (get_or starts n 0) (get_or starts (n + 1) 0) (a.within n) (a.within (n + 1))))

  row_new : row_in starts' all' count ≡ row
  row_new =
      ap (λ z. slice_range z (get_or starts' count 0) (get_or starts' (count + 1) 0)) alls
      ∙ range_last all row (get_or starts' count 0) (get_or starts' (count + 1) 0) (old count (omega arith) ∙ a.last) (new ∙ ap length alls)

  last_case : (n : ℕ) → n < count + 1 → (n < count) ⊎ (n ≡ count)
  last_case n lt = elim (cases_lt n count) [
    | inl l ↦ inl l
    | inr past ↦ inr (omega (arith, lt, past))
  ]

  pub rows_more : AreRowsTo size names is_closed starts' all' closed' (count + 1)
  rows_more = record {
    each = let e : length starts' ≡ length starts + 1 = ap length begins ∙ length_push starts (length all') in let s = a.each in omega (arith, e, s);
    sized = let e : length closed' ≡ length closed + 1 = ap length closes ∙ length_push closed b in let s = a.sized in omega (arith, e, s);
    last = new;
    within = inside;
    rising = λ n lt. elim (last_case n lt) [
      | inl l ↦ let x = old n (omega (arith, l)) in let y = old (n + 1) (omega (arith, l)) in let r = a.rising n l in omega (arith, x, y, r)
      | inr e ↦ subst (λ z. get_or starts' z 0 ≤ get_or starts' (z + 1) 0) (sym e) (let x = old count (omega arith) in let l = a.last in let y = new in omega (arith, x, l, y, longer))
    ];
    named = λ n lt. elim (last_case n lt) [
      | inl l ↦ row_old n l ∙ a.named n l
      | inr e ↦ subst (λ z. row_in starts' all' z ≡ names z) (sym e) (row_new ∙ is)
    ];
    closes = λ n lt. elim (last_case n lt) [
      | inl l ↦ ap (λ z. get_or z n false) closes ∙ (get_or_append_left closed (b ∷ []) false n (let s = a.sized in omega (arith, s, l)) ∙ a.closes n l)
      | inr e ↦
          subst (λ z. get_or closed' z false ≡ is_closed z) (sym e)
          (ap (λ z. get_or z count false) closes
          ∙ (subst (λ z. get_or (closed ++ b ∷ []) z false ≡ b) a.sized (get_or-append_seam closed b [] false) ∙ told))
    ];
    below = λ n lt. elim (last_case n lt) [
      | inl l ↦ a.below n l
      | inr e ↦ subst (λ z. All (λ m. m < size) (names z)) (sym e) low
    ];
  }
