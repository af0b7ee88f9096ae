-- Lists by their items.
use Rattle.std.proofs.Common.{◌≡◌, ℕ, suc, ◌<◌, List, [], ◌∷◌, map, length, get_or, refl, arith}

-- a list whose items are those of another one, each by a function
pub same_by_index : {A B : Type 0} (f : A → B) (xs : List A) (ys : List B) → length xs ≡ length ys
    → ((k : ℕ) → k < length xs → (d : B) (e : A) → get_or ys k d ≡ f (get_or xs k e)) → ys ≡ map f xs
same_by_index f [] [] n h = refl
same_by_index f [] (y ∷ ys) n h = absurd (omega (arith, n))
same_by_index f (x ∷ xs) [] n h = absurd (omega (arith, n))
same_by_index f (x ∷ xs) (y ∷ ys) n h =
    let first : y ≡ f x = h 0 (omega arith) y x in
    let rest : ys ≡ map f xs = same_by_index f xs ys (omega (arith, n)) (λ k l d e. h (suc k) (omega arith) d e) in
    cc (first, rest)
