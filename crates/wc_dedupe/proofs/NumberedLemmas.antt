-- Names with numbers: each is of one name and one number, and of an original name there are as many as there are numbers,
-- so some number is free.
use Rattle.std.proofs.Common.{take, get_or, ◌≡◌, ◌≢◌, ℕ, zero, suc, ◌+◌, ◌%◌, ◌^◌, ◌<◌, ◌≤◌, ◌||◌, Bool, true, false, cond, Some, inl, inr, List, [], ◌∷◌, ◌++◌, length, map, codes, append_assoc, refl, sym, ap, ◌∙◌, subst, arith}
use Rattle.std.specs.Fmt.{decimal}
use Rattle.std.specs.Option.{IsSome}
use Rattle.std.specs.List.{All, Contains, IsDistinct, list_any}
use Rattle.std.specs.Map.{lookup}
use Rattle.std.specs.Str.{bytes_eq}
use Rattle.std.proofs.lemmas.Cmp.{nat_list_eq_equiv}
use Rattle.std.proofs.lemmas.Fmt.{decimal_injective, decimal_by_steps}
use Rattle.std.proofs.lemmas.List.{append_cancel_left, append_cancel_right, length-map, map-append, take_more}
use Rattle.std.proofs.lemmas.List.Elements.{All-nil, All-cons, Contains-push_cases, recursion_from_All}
use Rattle.std.proofs.lemmas.Map.Steps.{length-le_from_keys}
use Rattle.std.proofs.lemmas.Slice.Eq.{bytes_eq-Decides}
use Rattle.std.proofs.lemmas.Bool.{false_from_ne_true, false≢true}
use Rattle.wc_dedupe.specs.Renaming.{ImportName, name_with_number}
use Rattle.wc_dedupe.specs.Private.Numbers.{LacksNumbered, numbered}
use Rattle.wc_dedupe.specs.Private.NamePositions.{Texts, named, names_of}
use Rattle.wc_dedupe.proofs.DistinctLemmas.{Contains-cons_cases}

-- a list is cut in one way at the last element of a kind

abbrev Without : ℕ → List ℕ → Type 0
Without c [] = Unit {0}
Without c (d ∷ ds) = (d ≢ c) × Without c ds

without_append : (c : ℕ) (xs ys : List ℕ) → Without c xs → Without c ys → Without c (xs ++ ys)
without_append c [] ys p q = q
without_append c (x ∷ xs) ys p q = (p.0, without_append c xs ys p.1 q)

without_not : (c : ℕ) (xs ys : List ℕ) → Without c (xs ++ c ∷ ys) → ⊥
without_not c [] ys p = p.0 refl
without_not c (x ∷ xs) ys p = without_not c xs ys p.1

last_cut : (c : ℕ) (xs ys ds es : List ℕ) → Without c ds → Without c es → xs ++ c ∷ ds ≡ ys ++ c ∷ es → (xs ≡ ys) × (ds ≡ es)
last_cut c [] [] ds es p q e = (refl, (let rest : ds ≡ es = cc in rest))
last_cut c [] (y ∷ ys) ds es p q e = let rest : ds ≡ ys ++ c ∷ es = cc in absurd (without_not c ys es (subst (Without c) rest p))
last_cut c (x ∷ xs) [] ds es p q e = let rest : es ≡ xs ++ c ∷ ds = cc in absurd (without_not c xs ds (subst (Without c) rest q))
last_cut c (x ∷ xs) (y ∷ ys) ds es p q e =
    let head : x ≡ y = cc in
    let rest : xs ++ c ∷ ds ≡ ys ++ c ∷ es = cc in
    let cut = last_cut c xs ys ds es p q rest in
    (ap (λ (z : ℕ). z ∷ xs) head ∙ ap (λ (zs : List ℕ). y ∷ zs) cut.0, cut.1)

digits_without : (n : ℕ) → n < 2 ^ 64 → Without 118 (decimal n)
digits_without =
    decimal_by_steps (λ (n : ℕ) (ds : List ℕ). Without 118 ds)
    (λ n small. (λ e. absurd (omega (arith, e, small)), tt))
    (λ n ds large ih. without_append 118 ds ((48 + n % 10) ∷ []) ih (λ e. absurd (omega (arith, e)), tt))

number_without : (n : ℕ) → n < 2 ^ 64 → Without 118 (decimal n ++ codes "]")
number_without n small = without_append 118 (decimal n) (codes "]") (digits_without n small) (λ e. absurd (omega (arith, e)), tt)

-- what name a name with a number is of, and with which number
pub unnumbered : (a b : List ℕ) (j k : ℕ) → j < 2 ^ 64 → k < 2 ^ 64 → name_with_number a j ≡ name_with_number b k → (a ≡ b) × (j ≡ k)
unnumbered a b j k small little e =
    let left : name_with_number a j ≡ (a ++ codes " [") ++ 118 ∷ (decimal j ++ codes "]") = sym (append_assoc a (codes " [") (118 ∷ (decimal j ++ codes "]"))) in
    let right : name_with_number b k ≡ (b ++ codes " [") ++ 118 ∷ (decimal k ++ codes "]") = sym (append_assoc b (codes " [") (118 ∷ (decimal k ++ codes "]"))) in
    let cut = last_cut 118 (a ++ codes " [") (b ++ codes " [") (decimal j ++ codes "]") (decimal k ++ codes "]") (number_without j small) (number_without k little) (sym left ∙ e ∙ right) in
    (append_cancel_right a b (codes " [") cut.0, decimal_injective j k small little (append_cancel_right (decimal j) (decimal k) (codes "]") cut.1))

pub name_with_number_injective : (s : List ℕ) (j k : ℕ) → j < 2 ^ 64 → k < 2 ^ 64 → name_with_number s j ≡ name_with_number s k → j ≡ k
name_with_number_injective s j k a b e =
    let t : decimal j ++ codes "]" ≡ decimal k ++ codes "]" = append_cancel_left (codes " [v") (decimal j ++ codes "]") (decimal k ++ codes "]") (append_cancel_left s _ _ e) in
    decimal_injective j k a b (append_cancel_right (decimal j) (decimal k) (codes "]") t)

-- the names with the first n numbers from 2
candidates : List ℕ → ℕ → List (List ℕ)
candidates s zero = []
candidates s (suc n) = name_with_number s (n + 2) ∷ candidates s n

length-candidates : (s : List ℕ) (n : ℕ) → length (candidates s n) ≡ n
unfolding candidates
length-candidates s zero = refl
length-candidates s (suc n) = ap suc (length-candidates s n)

candidates_differ : (s : List ℕ) (m : ℕ) → m < 2 ^ 64 → (n : ℕ) → n + 2 ≤ m → All (λ y. bytes_eq (name_with_number s m) y ≡ false) (candidates s n)
unfolding candidates
candidates_differ s m small zero h = All-nil _
candidates_differ s m small (suc n) h =
    All-cons (λ y. bytes_eq (name_with_number s m) y ≡ false) (name_with_number s (n + 2)) (candidates s n)
    (false_from_ne_true _ (λ e. let same : m ≡ n + 2 = name_with_number_injective s m (n + 2) small (omega arith) ((bytes_eq-Decides _ _).0 e) in absurd (omega arith)))
    (candidates_differ s m small n (omega arith))

candidates_distinct : (s : List ℕ) (n : ℕ) → n + 2 < 2 ^ 64 → IsDistinct bytes_eq (candidates s n)
unfolding candidates IsDistinct
candidates_distinct s zero small = tt
candidates_distinct s (suc n) small =
    (recursion_from_All _ _ (candidates_differ s (n + 2) (omega arith) n (omega arith)), candidates_distinct s n (omega arith))

candidates_found : (P : List ℕ → Type 0) (s : List ℕ) (n : ℕ) → ((k : ℕ) → 2 ≤ k → k < n + 2 → P (name_with_number s k)) → (q : List ℕ) → list_any (bytes_eq q) (candidates s n) ≡ true → P q
unfolding candidates
candidates_found P s zero h q e = absurd (false≢true e)
candidates_found P s (suc n) h q e =
    elim (bytes_eq q (name_with_number s (n + 2))) as (λ b. bytes_eq q (name_with_number s (n + 2)) ≡ b → (b || list_any (bytes_eq q) (candidates s n)) ≡ true → P q) [
      | true ↦ λ same rest. subst P (sym ((bytes_eq-Decides q (name_with_number s (n + 2))).0 same)) (h (n + 2) (omega arith) (omega arith))
      | false ↦ λ differs rest. candidates_found P s n (λ k a b. h k a (omega arith)) q rest
    ] refl e

-- a list of entries has no room for more names than it is long
pub no_room : {X : Type 0} (es : List (List ℕ × X)) (s : List ℕ) (n : ℕ) → n + 2 < 2 ^ 64 → length es < n → ((k : ℕ) → 2 ≤ k → k < n + 2 → IsSome (lookup (bytes_eq (name_with_number s k)) es)) → ⊥
no_room es s n small h given =
    let le = length-le_from_keys nat_list_eq_equiv (candidates s n) es (candidates_distinct s n small) (candidates_found (λ q. IsSome (lookup (bytes_eq q) es)) s n given) in
    omega (arith, le, length-candidates s n)

abbrev name_pair : ImportName → List ℕ × List ℕ
name_pair x = (x.name, x.module_name)

listed : (given : List ImportName) (m q : List ℕ) → Contains given (record { module_name = m; name = q }) → IsSome (lookup (bytes_eq q) (map name_pair given))
listed [] m q c = absurd (omega (arith, c.1))
listed (x ∷ xs) m q c =
    elim (Contains-cons_cases x xs (record { module_name = m; name = q }) c) [
      | inl same ↦ let is : q ≡ x.name = sym (ap (λ (n : ImportName). n.name) same) in rw ((bytes_eq-Decides q x.name).1 is) refl
      | inr later ↦ some (bytes_eq q x.name) (listed xs m q later)
    ]
  where
    some : (b : Bool) → IsSome (lookup (bytes_eq q) (map name_pair xs)) → IsSome (cond b (Some x.module_name) (lookup (bytes_eq q) (map name_pair xs)))
    some true h = refl
    some false h = h

-- a name has no more names with numbers that are given than names are given
pub some_number_free : (given : List ImportName) (x : ImportName) (count : ℕ) → length given ≡ count → count + 3 < 2 ^ 64 → ((k : ℕ) → 2 ≤ k → k < count + 3 → Contains given (numbered x k)) → ⊥
some_number_free given x count e small all =
    let long : length (map name_pair given) ≡ length given = length-map given name_pair in
    no_room (map name_pair given) x.name (count + 1) (omega arith) (omega (arith, e, long))
    (λ k a b. listed given x.module_name (name_with_number x.name k) (all k a (omega arith)))

-- names that do not end as a name with a number does

pub lacks_none : LacksNumbered []
lacks_none x n c = absurd (omega (arith, c.1))

ends_so : (s : List ℕ) (n : ℕ) → name_with_number s n ≡ (s ++ (codes " [v" ++ decimal n)) ++ codes "]"
ends_so s n = ap (λ (t : List ℕ). s ++ t) (sym (append_assoc (codes " [v") (decimal n) (codes "]"))) ∙ sym (append_assoc s (codes " [v" ++ decimal n) (codes "]"))

pub lacks_more : (texts : List Texts) (i : ℕ) (d : Texts) → i < length texts → LacksNumbered (names_of (take i texts)) → ((front : List ℕ) → (get_or texts i d).1.now ≢ front ++ codes "]") → LacksNumbered (names_of (take (i + 1) texts))
lacks_more texts i d h lacks other x n c =
    let more : names_of (take (i + 1) texts) ≡ names_of (take i texts) ++ named (get_or texts i d) ∷ [] = ap names_of (take_more texts i d h) ∙ map-append named (take i texts) (get_or texts i d ∷ []) in
    elim (Contains-push_cases (names_of (take i texts)) (named (get_or texts i d)) (numbered x n) (subst (λ (ns : List ImportName). Contains ns (numbered x n)) more c)) [
      | inl before ↦ lacks x n before
      | inr here ↦ other (x.name ++ (codes " [v" ++ decimal n)) (ap (λ (y : ImportName). y.name) here ∙ ends_so x.name n)
    ]
