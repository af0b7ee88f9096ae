-- What is made of things in a row, when one more of them is passed.
use Rattle.std.proofs.Common.{◌≡◌, ◌⊎◌, ℕ, ◌+◌, ◌<◌, suc, All, List, [], ◌∷◌, ◌++◌, Option, Some, None, length, map, take, get_or, option_map, refl, sym, ap, ◌∙◌, subst, append-nil, append_assoc, arith, inl, inr}
use Rattle.std.specs.List.{cons_option, filter_map, flat_map, range_with_len, slice_get}
use Rattle.std.specs.Option.{option_to_list}
use Rattle.std.proofs.lemmas.List.{map-append}
use Rattle.std.proofs.lemmas.Option.{slice_get-get_or, slice_get_within}
use Rattle.wc_graph.proofs.ChainTreeLemmas.{push_cases}
use Rattle.wc_graph.proofs.ListLemmas.{range_more}
use Rattle.wc_import_paths.proofs.PickedLemmas.{taken_more}

pub next_range : (n : ℕ) → range_with_len 0 (n + 1) ≡ range_with_len 0 n ++ n ∷ []
next_range n =
    let next : n + 1 ≡ suc n = omega arith in
    let same : 0 + n ≡ n = omega arith in
    ap (range_with_len 0) next ∙ (range_more 0 n ∙ ap (λ z. range_with_len 0 n ++ z ∷ []) same)

module _ {X B : Type 0} (f : X → List B) where
  pub flat_next : (now new : List B) (left rest : List X) (x : X) (all : List B) → left ≡ x ∷ rest → new ≡ now ++ f x → now ++ flat_map f left ≡ all
      → new ++ flat_map f rest ≡ all
  flat_next now new left rest x all is put made =
      ap (λ z. z ++ flat_map f rest) put ∙ (append_assoc now (f x) (flat_map f rest) ∙ (ap (λ z. now ++ flat_map f z) (sym is) ∙ made))

  pub flat_end : (now : List B) (left : List X) (all : List B) → left ≡ [] → now ++ flat_map f left ≡ all → now ≡ all
  flat_end now left all none made = sym (append-nil now) ∙ (ap (λ z. now ++ flat_map f z) (sym none) ∙ made)

module _ {X B : Type 0} (f : X → Option B) where
  pub filter_one : (x : X) (xs : List X) → filter_map f (x ∷ xs) ≡ option_to_list (f x) ++ filter_map f xs
  filter_one x xs = by (f x)
    where
      by : (o : Option B) → cons_option o (filter_map f xs) ≡ option_to_list o ++ filter_map f xs
      by None = refl
      by (Some y) = refl

  pub filter_next : (now new : List B) (left rest : List X) (x : X) (all : List B) → left ≡ x ∷ rest → new ≡ now ++ option_to_list (f x) → now ++ filter_map f left ≡ all
      → new ++ filter_map f rest ≡ all
  filter_next now new left rest x all is put made =
      ap (λ z. z ++ filter_map f rest) put ∙ (append_assoc now (option_to_list (f x)) (filter_map f rest)
      ∙ (ap (λ z. now ++ z) (sym (filter_one x rest)) ∙ (ap (λ z. now ++ filter_map f z) (sym is) ∙ made)))

  pub filter_end : (now : List B) (left : List X) (all : List B) → left ≡ [] → now ++ filter_map f left ≡ all → now ≡ all
  filter_end now left all none made = sym (append-nil now) ∙ (ap (λ z. now ++ filter_map f z) (sym none) ∙ made)

  filter_both : (xs ys : List X) → filter_map f (xs ++ ys) ≡ filter_map f xs ++ filter_map f ys
  filter_both [] ys = refl
  filter_both (x ∷ xs) ys =
      filter_one x (xs ++ ys) ∙ (ap (λ z. option_to_list (f x) ++ z) (filter_both xs ys)
      ∙ (sym (append_assoc (option_to_list (f x)) (filter_map f xs) (filter_map f ys)) ∙ ap (λ z. z ++ filter_map f ys) (sym (filter_one x xs))))

  alone : (x : X) → filter_map f (x ∷ []) ≡ option_to_list (f x)
  alone x = filter_one x [] ∙ append-nil (option_to_list (f x))

module _ {B : Type 0} (f : ℕ → Option B) where
  -- at the positions of a list
  pub range_next : (k : ℕ) (now new : List B) → now ≡ filter_map f (range_with_len 0 k) → new ≡ now ++ option_to_list (f k) → new ≡ filter_map f (range_with_len 0 (k + 1))
  range_next k now new made put =
      put ∙ (ap (λ z. z ++ option_to_list (f k)) made ∙ (ap (λ z. filter_map f (range_with_len 0 k) ++ z) (sym (alone f k))
      ∙ (sym (filter_both f (range_with_len 0 k) (k ∷ [])) ∙ ap (filter_map f) (sym (next_range k)))))

-- things in pairs, and one pair more
module _ {X Y : Type 0} (Is : X → Y → Type 0) where
  abbrev pub ArePairs : List X → List Y → Type 0
  ArePairs xs ys = (k : ℕ) (x : X) (y : Y) → slice_get xs k ≡ Some x → slice_get ys k ≡ Some y → Is x y

  pub pair_more : (xs : List X) (ys : List Y) (x : X) (y : Y) → length ys ≡ length xs → ArePairs xs ys → Is x y → ArePairs (xs ++ x ∷ []) (ys ++ y ∷ [])
  pair_more xs ys x y even are is k a b at to = by (push_cases xs x k a at) (push_cases ys y k b to)
    where
      by : (slice_get xs k ≡ Some a) ⊎ ((k ≡ length xs) × (a ≡ x)) → (slice_get ys k ≡ Some b) ⊎ ((k ≡ length ys) × (b ≡ y)) → Is a b
      by (inl e) (inl f) = are k a b e f
      by (inr e) (inr f) = subst (λ z. Is z b) (sym e.1) (subst (λ z. Is x z) (sym f.1) is)
      by (inl e) (inr f) = let lt = slice_get_within xs k a e in let is = f.0 in absurd (omega (arith, lt, is, even))
      by (inr e) (inl f) = let lt = slice_get_within ys k b f in let is = e.0 in absurd (omega (arith, lt, is, even))

  pub pair_none : ArePairs [] []
  pair_none k x y at to = absurd (let bad : None ≡ Some x = at in cc)

-- what is there, or nothing, was put
pub put_viewed : {X Y : Type 0} (f : X → Y) (old new : List X) (o : Option X) → new ≡ old ++ option_to_list o → map f new ≡ map f old ++ option_to_list (option_map f o)
put_viewed f old new None put = ap (map f) put ∙ map-append f old []
put_viewed f old new (Some x) put = ap (map f) put ∙ map-append f old (x ∷ [])

-- of each thing of a list one was put after others, and of one more
pub mapped_put : {R A B : Type 0} (view : R → A) (f : A → B) (xs : List R) (k : ℕ) (d : R) (old now new : List B) → k < length xs
    → now ≡ old ++ map f (map view (take k xs)) → new ≡ now ++ f (view (get_or xs k d)) ∷ [] → new ≡ old ++ map f (map view (take (k + 1) xs))
mapped_put view f xs k d old now new lt e put =
    let before = map view (take k xs) in
    let x = view (get_or xs k d) in
    put ∙ (ap (λ z. z ++ f x ∷ []) e ∙ (append_assoc old (map f before) (f x ∷ [])
    ∙ ap (λ z. old ++ z) (sym (ap (map f) (taken_more view xs k d lt) ∙ map-append f before (x ∷ [])))))

-- what holds of the thing at each position holds of all
pub all_of_each : {X : Type 0} (P : X → Type 0) (xs : List X) → ((k : ℕ) (x : X) → slice_get xs k ≡ Some x → P x) → All P xs
all_of_each P xs each = λ k d lt. each k (get_or xs k d) (slice_get-get_or xs k d lt)
