-- Lists that agree in their first n elements, and what is made of such lists.
use Rattle.std.proofs.Common.{◌≡◌, ℕ, zero, suc, ◌+◌, ◌≤◌, List, [], ◌∷◌, ◌++◌, length, take, refl, sym, ap, ◌∙◌, arith}
use Rattle.std.specs.List.{Contains, flat_map}
use Rattle.std.proofs.lemmas.List.{take-take, take_all}
use Rattle.std.proofs.lemmas.List.Elements.{Contains-append_right}
use Rattle.wc_maps.proofs.ListLemmas.{contains_head}

abbrev pub AgreeAtFront : {X : Type 0} → ℕ → List X → List X → Type 0
AgreeAtFront n xs ys = take n xs ≡ take n ys

pub agree_less : {X : Type 0} (m n : ℕ) (xs ys : List X) → m ≤ n → AgreeAtFront n xs ys → AgreeAtFront m xs ys
agree_less m n xs ys h e = sym (take-take m n xs h) ∙ ap (λ z. take m z) e ∙ take-take m n ys h

-- a list and its first n elements agree in these
pub agree_cut : {X : Type 0} (n : ℕ) (xs : List X) → AgreeAtFront n (take n xs) xs
agree_cut n xs = take-take n n xs (omega arith)

pub agree_cons : {X : Type 0} (n : ℕ) (x : X) (xs ys : List X) → AgreeAtFront n xs ys → AgreeAtFront n (x ∷ xs) (x ∷ ys)
agree_cons zero x xs ys e = refl
agree_cons (suc n) x xs ys e = ap (λ z. x ∷ z) (agree_less n (suc n) xs ys (omega arith) e)

pub agree_append : {X : Type 0} (n : ℕ) (xs vs ys ws : List X) → AgreeAtFront n xs vs → AgreeAtFront n ys ws → AgreeAtFront n (xs ++ ys) (vs ++ ws)
agree_append zero xs vs ys ws e f = refl
agree_append (suc n) [] [] ys ws e f = f
agree_append (suc n) [] (v ∷ vs) ys ws e f = absurd (let bad : ⊥ = cc e in bad)
agree_append (suc n) (x ∷ xs) [] ys ws e f = absurd (let bad : ⊥ = cc e in bad)
agree_append (suc n) (x ∷ xs) (v ∷ vs) ys ws e f =
    let head : x ≡ v = cc e in
    let tail : take n xs ≡ take n vs = cc e in
    let rest : take n (xs ++ ys) ≡ take n (vs ++ ws) = agree_append n xs vs ys ws tail (agree_less n (suc n) ys ws (omega arith) f) in
    let full : x ∷ take n (xs ++ ys) ≡ v ∷ take n (vs ++ ws) = cc (head, rest) in
    full

pub agree_flat_map : {A X : Type 0} (n : ℕ) (f g : A → List X) (things : List A) → ((a : A) → Contains things a → AgreeAtFront n (f a) (g a)) → AgreeAtFront n (flat_map f things) (flat_map g things)
agree_flat_map n f g [] h = refl
agree_flat_map n f g (a ∷ things) h =
    agree_append n (f a) (g a) (flat_map f things) (flat_map g things) (h a (contains_head things a)) (agree_flat_map n f g things (λ b k. h b (Contains-append_right (a ∷ []) things b k)))

-- lists that agree in all elements are equal
pub agree_same : {X : Type 0} (xs ys : List X) → ((n : ℕ) → AgreeAtFront n xs ys) → xs ≡ ys
agree_same xs ys h = sym (take_all (length xs + length ys) xs (omega arith)) ∙ h (length xs + length ys) ∙ take_all (length xs + length ys) ys (omega arith)
