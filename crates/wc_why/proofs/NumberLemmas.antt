-- The numbers of the items of parts.
use Rattle.std.proofs.Common.{◌≡◌, ℕ, ◌+◌, ◌-◌, ◌<◌, ◌≤◌, List, [], ◌∷◌, ◌++◌, length, map, take, replicate, get_or, Bool, true, false, cond, nat_eq, nat_lt, Option, Some, None, refl, sym, ◌∙◌, ap, subst, inl, inr, arith, lt-ltb, ltb-true}
use Rattle.std.specs.List.{slice_get}
use Rattle.std.specs.Option.{option_and_then, option_map_or}
use Rattle.std.proofs.lemmas.Bool.{cases_lt, eqb-true}
use Rattle.std.proofs.lemmas.Cmp.{nat_eq_equiv}
use Rattle.std.proofs.lemmas.List.{get_or-map, get_or-replicate, get_or_append_left, length-append, length-map, length-replicate, length-take-le, length_push, take_more}
use Rattle.std.proofs.lemmas.Option.{get_or_from_slice_get, same_Some, slice_get-get_or, slice_get_within}
use Rattle.std.proofs.Math.Seq.{get_or-append_right, get_or-append_seam}
use Rattle.wc_graph.proofs.ChainTreeLemmas.{push_cases}
use Rattle.wc_graph.proofs.ListLemmas.{back_at, get_front, get_last}
use Rattle.wc_why.specs.Graph.{has_item}
use Rattle.wc_why.specs.Part.{PartView, part_view}
use Rattle.wc_why.specs.Private.Numbers.{AreNumbersIn, number_in, place_in}
use Rattle.wc_why.specs.declared.part.Part.{Part}

-- one more part
module _ (parts : List PartView) (starts owners : List ℕ) (a : AreNumbersIn parts starts owners) (part : PartView) (starts' owners' : List ℕ)
    (begins : starts' ≡ starts ++ length owners ∷ []) (owns : owners' ≡ owners ++ replicate part.size (length parts)) where
  longer : length owners' ≡ length owners + part.size
  longer =
      ap length owns ∙ (length-append owners (replicate part.size (length parts)) ∙ ap (λ k. length owners + k) (length-replicate part.size (length parts)))

  old_owner : (x : ℕ) → x < length owners → get_or owners' x 0 ≡ get_or owners x 0
  old_owner x lt = ap (λ l. get_or l x 0) owns ∙ get_or_append_left owners (replicate part.size (length parts)) 0 x lt

  new_owner : (x : ℕ) → length owners ≤ x → x < length owners' → get_or owners' x 0 ≡ length parts
  new_owner x le lt =
      ap (λ l. get_or l x 0) owns
      ∙ (get_or-append_right owners (replicate part.size (length parts)) x 0 le
      ∙ get_or-replicate part.size (x - length owners) (length parts) 0 (omega (arith, le, lt, longer)))

  old_start : (p : ℕ) → p < length parts → get_or starts' p 0 ≡ get_or starts p 0
  old_start p lt = ap (λ l. get_or l p 0) begins ∙ get_or_append_left starts (length owners ∷ []) 0 p (let e = a.each in omega (arith, e, lt))

  new_start : get_or starts' (length parts) 0 ≡ length owners
  new_start =
      ap (λ l. get_or l (length parts) 0) begins
      ∙ subst (λ k. get_or (starts ++ length owners ∷ []) k 0 ≡ length owners) a.each (get_or-append_seam starts (length owners) [] 0)

  abbrev IsOwned : ℕ → ℕ → ℕ → Type 0
  IsOwned x p start = (v : PartView) × (slice_get (parts ++ part ∷ []) p ≡ Some v) × (start ≤ x) × (x < start + v.size)

  own_old : (x : ℕ) → x < length owners → IsOwned x (get_or owners' x 0) (get_or starts' (get_or owners' x 0) 0)
  own_old x lt =
      let (v, at, le, less) = a.owned x lt in
      let within = slice_get_within parts (get_or owners x 0) v at in
      subst (λ p. IsOwned x p (get_or starts' p 0)) (sym (old_owner x lt))
      (subst (IsOwned x (get_or owners x 0)) (sym (old_start (get_or owners x 0) within)) (v, get_front parts (part ∷ []) (get_or owners x 0) v at, le, less))

  own_new : (x : ℕ) → length owners ≤ x → x < length owners' → IsOwned x (get_or owners' x 0) (get_or starts' (get_or owners' x 0) 0)
  own_new x le lt =
      subst (λ p. IsOwned x p (get_or starts' p 0)) (sym (new_owner x le lt))
      (subst (IsOwned x (length parts)) (sym new_start) (part, get_last parts part, le, omega (arith, lt, longer)))

  there_old : (p : ℕ) (v : PartView) (n : ℕ) → slice_get parts p ≡ Some v → n < v.size → slice_get owners' (get_or starts' p 0 + n) ≡ Some p
  there_old p v n at lt =
      subst (λ s. slice_get owners' (s + n) ≡ Some p) (sym (old_start p (slice_get_within parts p v at)))
      (ap (λ l. slice_get l (get_or starts p 0 + n)) owns
      ∙ get_front owners (replicate part.size (length parts)) (get_or starts p 0 + n) p (a.there p v n at lt))

  there_new : (n : ℕ) → n < part.size → slice_get owners' (get_or starts' (length parts) 0 + n) ≡ Some (length parts)
  there_new n lt =
      let len = length-replicate part.size (length parts) in
      subst (λ s. slice_get owners' (s + n) ≡ Some (length parts)) (sym new_start)
      (ap (λ l. slice_get l (length owners + n)) owns
      ∙ (back_at owners (replicate part.size (length parts)) n
      ∙ (slice_get-get_or (replicate part.size (length parts)) n 0 (omega (arith, len, lt))
      ∙ ap (λ k. Some k) (get_or-replicate part.size n (length parts) 0 lt))))

  pub numbers_more : AreNumbersIn (parts ++ part ∷ []) starts' owners'
  numbers_more = record {
    each =
        let s = ap length begins ∙ length_push starts (length owners) in
        let p = length_push parts part in
        let e = a.each in omega (arith, s, p, e);
    owned = λ x lt. elim (cases_lt x (length owners)) [
      | inl less ↦ own_old x less
      | inr past ↦ own_new x past lt
    ];
    there = λ p v n at lt. elim (push_cases parts part p v at) [
      | inl before ↦ there_old p v n before lt
      | inr last ↦
          let (e, same) = last in
          subst (λ q. slice_get owners' (get_or starts' q 0 + n) ≡ Some q) (sym e) (there_new n (subst (λ w. n < w.size) same lt))
    ];
  }

-- the next part
pub numbers_next : (parts : List Part) (i : ℕ) (starts owners : List ℕ) → AreNumbersIn (take i (map part_view parts)) starts owners → (part : Part) → i < length parts
    → part ≡ get_or parts i part → (starts' owners' : List ℕ) → starts' ≡ starts ++ length owners ∷ []
    → owners' ≡ owners ++ replicate (length part.rows.now.closed.items) i
    → AreNumbersIn (take (i + 1) (map part_view parts)) starts' owners'
numbers_next parts i starts owners a part lt is starts' owners' begins owns =
    let len = length-map parts part_view in
    let more : take (i + 1) (map part_view parts) ≡ take i (map part_view parts) ++ part_view part ∷ [] =
    take_more (map part_view parts) i (part_view part) (omega (arith, len, lt))
    ∙ ap (λ v. take i (map part_view parts) ++ v ∷ []) (get_or-map part_view parts i part (part_view part) lt ∙ ap part_view (sym is)) in
    let count : length (take i (map part_view parts)) ≡ i = length-take-le i (map part_view parts) (omega (arith, len, lt)) in
    let are : owners' ≡ owners ++ replicate (length part.rows.now.closed.items) (length (take i (map part_view parts))) =
    owns ∙ ap (λ k. owners ++ replicate (length part.rows.now.closed.items) k) (sym count) in
    subst (λ l. AreNumbersIn l starts' owners') (sym more) (numbers_more (take i (map part_view parts)) starts owners a (part_view part) starts' owners' begins are)

-- what numbers say
module _ (parts : List PartView) (starts owners : List ℕ) (a : AreNumbersIn parts starts owners) where
  pub started : (x : ℕ) → x < length owners → get_or starts (get_or owners x 0) 0 ≤ x
  started x lt = (a.owned x lt).2

  -- the item of a number is there
  pub item_there : (x : ℕ) → x < length owners → has_item parts (place_in starts owners x) ≡ true
  item_there x lt =
      let (v, at, le, less) = a.owned x lt in
      ap (λ o. option_map_or (λ (part : PartView). nat_lt (x - get_or starts (get_or owners x 0) 0) part.size) o false) at
      ∙ lt-ltb (x - get_or starts (get_or owners x 0) 0) v.size (omega (arith, le, less))

  -- numbers of one item are the same
  pub one_number : (x y : ℕ) → x < length owners → y < length owners → place_in starts owners x ≡ place_in starts owners y → x ≡ y
  one_number x y lx ly e =
      let p : get_or owners x 0 ≡ get_or owners y 0 = ap (λ (z : ℕ × ℕ). z.0) e in
      let n : x - get_or starts (get_or owners x 0) 0 ≡ y - get_or starts (get_or owners y 0) 0 = ap (λ (z : ℕ × ℕ). z.1) e in
      let s : get_or starts (get_or owners x 0) 0 ≡ get_or starts (get_or owners y 0) 0 = ap (λ q. get_or starts q 0) p in
      let bx = started x lx in
      let b = started y ly in omega (arith, n, s, bx, b)

  -- an item that is there has a number
  module _ (p n : ℕ) (v : PartView) (at : slice_get parts p ≡ Some v) (lt : n < v.size) where
    owner_at : slice_get owners (get_or starts p 0 + n) ≡ Some p
    owner_at = a.there p v n at lt

    pub number_below : get_or starts p 0 + n < length owners
    number_below = slice_get_within owners (get_or starts p 0 + n) p owner_at

    pub place_back : place_in starts owners (get_or starts p 0 + n) ≡ (p, n)
    place_back =
        let own : get_or owners (get_or starts p 0 + n) 0 ≡ p = get_or_from_slice_get owners (get_or starts p 0 + n) p 0 owner_at in
        subst (λ (q : ℕ). ◌≡◌ {A = ℕ × ℕ} (q, get_or starts p 0 + n - get_or starts q 0) (p, n)) (sym own)
        (ap (λ (m : ℕ). (p, m)) (let e : get_or starts p 0 + n - get_or starts p 0 ≡ n = omega arith in e))

    pub number_there : number_in starts owners (p, n) ≡ Some (get_or starts p 0 + n)
    number_there =
        let within : p < length starts = let w = slice_get_within parts p v at in let e = a.each in omega (arith, w, e) in
        ap (option_and_then (λ start. option_and_then (λ q. cond (nat_eq q p) (Some (start + n)) None) (slice_get owners (start + n))))
        (slice_get-get_or starts p 0 within)
        ∙ (ap (option_and_then (λ q. cond (nat_eq q p) (Some (get_or starts p 0 + n)) None)) owner_at
        ∙ ap (λ b. cond b (Some (get_or starts p 0 + n)) None) (nat_eq_equiv.refl p))

  -- a number that is found is that of the item
  abbrev by_owner : ℕ × ℕ → ℕ → Option ℕ → Option ℕ
  by_owner y start owner = option_and_then (λ q. cond (nat_eq q y.0) (Some (start + y.1)) None) owner

  from_owner : (y : ℕ × ℕ) (x q : ℕ) → slice_get starts y.0 ≡ Some (get_or starts y.0 0) → slice_get owners (get_or starts y.0 0 + y.1) ≡ Some q → (b : Bool) → nat_eq q y.0 ≡ b
      → cond b (Some (get_or starts y.0 0 + y.1)) None ≡ Some x → (x < length owners) × (place_in starts owners x ≡ y)
  from_owner y x q begun at true e is =
      let same : get_or starts y.0 0 + y.1 ≡ x = same_Some (get_or starts y.0 0 + y.1) x is in
      let own : slice_get owners x ≡ Some q = subst (λ k. slice_get owners k ≡ Some q) same at in
      let is_p : get_or owners x 0 ≡ y.0 = get_or_from_slice_get owners x q 0 own ∙ eqb-true q y.0 e in (
        slice_get_within owners x q own,
        subst (λ (p : ℕ). ◌≡◌ {A = ℕ × ℕ} (p, x - get_or starts p 0) y) (sym is_p)
            (ap (λ (m : ℕ). (y.0, m)) (let s : x - get_or starts y.0 0 ≡ y.1 = omega (arith, same) in s)),
      )
  from_owner y x q begun at false e is = absurd cc

  by_start : (y : ℕ × ℕ) (x : ℕ) (start owner : Option ℕ) → slice_get starts y.0 ≡ start → slice_get owners (get_or starts y.0 0 + y.1) ≡ owner
      → option_and_then (λ s. by_owner y s (slice_get owners (s + y.1))) start ≡ Some x → (x < length owners) × (place_in starts owners x ≡ y)
  by_start y x None owner e f is = absurd cc
  by_start y x (Some s) None e f is =
      let same : get_or starts y.0 0 ≡ s = get_or_from_slice_get starts y.0 s 0 e in
      let gone : slice_get owners (s + y.1) ≡ None = subst (λ k. slice_get owners (k + y.1) ≡ None) same f in
      absurd (let eq : None ≡ Some x = sym (ap (by_owner y s) gone) ∙ is in cc)
  by_start y x (Some s) (Some q) e f is =
      let same : get_or starts y.0 0 ≡ s = get_or_from_slice_get starts y.0 s 0 e in
      let is_q : slice_get owners (s + y.1) ≡ Some q = subst (λ k. slice_get owners (k + y.1) ≡ Some q) same f in
      let told : by_owner y s (Some q) ≡ Some x = sym (ap (by_owner y s) is_q) ∙ is in
      from_owner y x q (e ∙ ap (λ k. Some k) (sym same)) f (nat_eq q y.0) refl (subst (λ k. by_owner y k (Some q) ≡ Some x) (sym same) told)

  pub number_is : (y : ℕ × ℕ) (x : ℕ) → number_in starts owners y ≡ Some x → (x < length owners) × (place_in starts owners x ≡ y)
  number_is y x is = by_start y x (slice_get starts y.0) (slice_get owners (get_or starts y.0 0 + y.1)) refl refl is

  -- what is there
  pub there_of : (y : ℕ × ℕ) → has_item parts y ≡ true → (v : PartView) × (slice_get parts y.0 ≡ Some v) × (y.1 < v.size)
  there_of y h = by (slice_get parts y.0) refl h
    where
      by : (o : Option PartView) → slice_get parts y.0 ≡ o → option_map_or (λ (part : PartView). nat_lt y.1 part.size) o false ≡ true
          → (v : PartView) × (slice_get parts y.0 ≡ Some v) × (y.1 < v.size)
      by None e h = absurd (let eq : false ≡ true = h in cc)
      by (Some v) e h = (v, e, ltb-true y.1 v.size h)

  pub number_of_there : (y : ℕ × ℕ) → has_item parts y ≡ true → (x : ℕ) × (number_in starts owners y ≡ Some x) × (x < length owners) × (place_in starts owners x ≡ y)
  number_of_there y h =
      let (v, at, lt) = there_of y h in
      (get_or starts y.0 0 + y.1, number_there y.0 y.1 v at lt, number_below y.0 y.1 v at lt, place_back y.0 y.1 v at lt)

  -- an item that has no number is not there
  pub none_there : (y : ℕ × ℕ) → number_in starts owners y ≡ None → has_item parts y ≡ false
  none_there y none = by (has_item parts y) refl
    where
      by : (b : Bool) → has_item parts y ≡ b → has_item parts y ≡ false
      by true h = let (x, is, less, same) = number_of_there y h in absurd (let eq : None ≡ Some x = sym none ∙ is in cc)
      by false h = h

  pub number_back : (x : ℕ) → x < length owners → number_in starts owners (place_in starts owners x) ≡ Some x
  number_back x lt =
      let (z, is, less, same) = number_of_there (place_in starts owners x) (item_there x lt) in
      is ∙ ap (λ k. Some k) (one_number z x less lt same)
