-- Adapters by their names, with their paths, one after another.
use Rattle.std.proofs.Common.{◌≡◌, ◌<◌, ◌+◌, ◌++◌, ◌∙◌, ◌∷◌, [], Contains, arith, false, filter, get_or, length, List, map, nat_eq, nat_lt, refl, subst, suc, sym, take, zero, ℕ}
use Rattle.std.proofs.lemmas.Bool.{le-ltb, ne_eqb}
use Rattle.std.specs.Borrow.{Bor}
use Rattle.std.specs.List.{AllZip}
use Rattle.wc_maps.proofs.ListLemmas.{contains_head, contains_tail, passed_more, count_map}
use Rattle.wc_maps.specs.Texts.{second_parts, text_pair}
use Rattle.wc_options.specs.Adapters.{is_standard}

abbrev pub Pairs : Type 0
Pairs = List (Bor (List ℕ) × Bor (List ℕ))

-- those on standard input
pub standard_paths : (pairs : Pairs) → length (filter is_standard (second_parts (map text_pair pairs)))
    ≡ length (filter (λ (a : Bor (List ℕ) × Bor (List ℕ)). is_standard a.1.now) pairs)
standard_paths pairs =
    count_map (λ (p : List ℕ × List ℕ). p.1) is_standard (map text_pair pairs) ∙ count_map text_pair (λ (p : List ℕ × List ℕ). is_standard p.1) pairs

-- beside one that is there can be no other
pub none_more : (n : ℕ) → nat_eq n 0 ≡ nat_lt (suc n) 2
none_more zero = refl
none_more (suc n) =
    let some : nat_eq (suc n) 0 ≡ false = ne_eqb (suc n) 0 (λ same. let bad : ⊥ = omega (arith, same) in bad) in
    let several : nat_lt (suc (suc n)) 2 ≡ false = le-ltb (suc (suc n)) 2 (omega arith) in
    some ∙ sym several

-- the path at a position is one of theirs
pub path_at : (pairs : Pairs) (k : ℕ) (d : Bor (List ℕ) × Bor (List ℕ)) → k < length pairs
    → Contains (second_parts (map text_pair pairs)) (get_or pairs k d).1.now
path_at [] k d lt = absurd (omega (arith, lt))
path_at (y ∷ ys) zero d lt = contains_head (second_parts (map text_pair ys)) y.1.now
path_at (y ∷ ys) (suc k) d lt = contains_tail y.1.now (second_parts (map text_pair ys)) (get_or ys k d).1.now (path_at ys k d (omega (arith, lt)))

-- one more of what is passed, with one more of what is made
pub zip_push : {A B : Type 0} (R : A → B → Type 0) (xs : List A) (ys : List B) (x : A) (y : B) → AllZip R xs ys → R x y → AllZip R (xs ++ x ∷ []) (ys ++ y ∷ [])
zip_push R [] [] x y h r = (r, tt)
zip_push R [] (b ∷ ys) x y h r = absurd h
zip_push R (a ∷ xs) [] x y h r = absurd h
zip_push R (a ∷ xs) (b ∷ ys) x y h r = (h.0, zip_push R xs ys x y h.1 r)

pub zip_more : {A B C : Type 0} (R : B → C → Type 0) (v : A → B) (xs : List A) (k : ℕ) (d : A) (ys after : List C) (y : C) → k < length xs
    → after ≡ ys ++ y ∷ [] → R (v (get_or xs k d)) y → AllZip R (map v (take k xs)) ys → AllZip R (map v (take (k + 1) xs)) after
zip_more R v xs k d ys after y lt grown here before =
    subst (λ zs. AllZip R (map v (take (k + 1) xs)) zs) (sym grown)
    (subst (λ ws. AllZip R ws (ys ++ y ∷ [])) (sym (passed_more v xs k d lt)) (zip_push R (map v (take k xs)) ys (v (get_or xs k d)) y before here))
