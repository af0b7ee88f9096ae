-- The positions of what passes a test in a list, and of keys that are found by their texts.
use Rattle.std.proofs.Common.{◌≡◌, ℕ, ◌+◌, ◌<◌, ◌≤◌, zero, suc, Bool, true, false, true≢false, cond, ◌||◌, List, [], ◌∷◌, ◌++◌, map, length, take, get_or, Contains, String, Global, string_bytes, refl, sym, ap, ◌∙◌, subst, inl, inr, arith}
use Rattle.std.specs.Borrow.{Bor}
use Rattle.std.specs.List.{dedup, flat_map, list_any}
use Rattle.std.specs.List.Retain.{DiffersFromLast, IsFiltered}
use Rattle.std.specs.List.Sorted.{IsPermutation, IsSorted, IsStrictlyIncreasing}
use Rattle.std.specs.Ordering.{nat_cmp}
use Rattle.std.specs.Prelude.{nat_eq}
use Rattle.std.specs.Str.{bytes_eq}
use Rattle.std.specs.declared.vec.Vec.{Vec}
use Rattle.std.proofs.lemmas.Bool.{cases_Bool, cases_eq, cases_order}
use Rattle.std.proofs.lemmas.List.Filters.{dedup_is}
use Rattle.std.proofs.lemmas.List.Folds.{Any-from_list_any, list_any-append, list_any_at}
use Rattle.std.proofs.lemmas.List.Kept.{Contains-dedup_nat, Contains-from_dedup}
use Rattle.std.proofs.lemmas.List.Sorted.{list_any-IsPermutation}
use Rattle.std.proofs.lemmas.Map.Keys.{IsStrictlyIncreasing-dedup}
use Rattle.wc_resolve.proofs.KeyLemmas.{nat_from, nat_to}
use Rattle.wc_resolve.specs.declared.worlds.WorldKey.{WorldKey}
use Rattle.wc_maps.proofs.ListLemmas.{or_step, passed_more}
use Rattle.wc_selection.specs.KeyIndex.{AreSorted, ArePositions, has_text, listed_positions, positions_from}
use Rattle.wc_selection.specs.Keys.{NamedKey, named_key}
use Rattle.wc_selection.specs.TextLists.{ListsMore, listed}
use Rattle.wc_maps.specs.Texts.{is_in}

abbrev Pair : Type 0
Pair = WorldKey × String Global

abbrev Lists : Type 0
Lists = List (Bor (List ℕ) × Vec ℕ Global)

abbrev pub has : ℕ → List ℕ → Bool
has n xs = list_any (nat_eq n) xs

-- one element more

put_after : (b : Bool) (low : ℕ) (xs ys : List ℕ) → cond b (low ∷ (xs ++ ys)) (xs ++ ys) ≡ cond b (low ∷ xs) xs ++ ys
put_after true low xs ys = refl
put_after false low xs ys = refl

pub positions_more : {A : Type 0} (low n : ℕ) (p : A → Bool) (xs : List A) (k : A) → n ≡ low + length xs
    → positions_from low p (xs ++ k ∷ []) ≡ positions_from low p xs ++ cond (p k) (n ∷ []) []
positions_more low n p [] k is = ap (λ m. cond (p k) (m ∷ []) []) (let e : low ≡ n = omega (arith, is) in e)
positions_more low n p (x ∷ xs) k is =
    (λ i. cond (p x) (low ∷ positions_more (suc low) n p xs k (omega (arith, is)) i) (positions_more (suc low) n p xs k (omega (arith, is)) i))
    ∙ put_after (p x) low (positions_from (suc low) p xs) (cond (p k) (n ∷ []) [])

length_passed : (keys : List Pair) (k : ℕ) → k < length keys → k ≡ length (map named_key (take k keys))
length_passed [] k lt = absurd (omega arith)
length_passed (x ∷ keys) zero lt = refl
length_passed (x ∷ keys) (suc k) lt = ap suc (length_passed keys k (omega arith))

pub positions_next : (keys : List Pair) (k : ℕ) (x : Pair) (text : List ℕ) (old new : Lists) → k < length keys → x ≡ get_or keys k x
    → text ≡ string_bytes x.1 → ListsMore old new text k → ArePositions (map named_key (take k keys)) old
    → ArePositions (map named_key (take (k + 1) keys)) new
positions_next keys k x text old new lt at is more before q =
    let next : map named_key (take (k + 1) keys) ≡ map named_key (take k keys) ++ named_key x ∷ [] =
    passed_more named_key keys k x lt ∙ ap (λ (z : Pair). map named_key (take k keys) ++ named_key z ∷ []) (sym at) in
    more q ∙ (λ i. before q i ++ cond (bytes_eq q (is i)) (k ∷ []) [])
    ∙ sym (ap (positions_from 0 (has_text q)) next
    ∙ positions_more 0 k (has_text q) (map named_key (take k keys)) (named_key x)
    (let passed = length_passed keys k lt in omega (arith, passed)))

-- the positions of what passes one of two tests

or_each : (e a b c : Bool) → a ≡ (b || c) → (e || a) ≡ ((e || b) || (e || c))
or_each true a b c h = refl
or_each false a b c h = h

or_right : (e a b c : Bool) → a ≡ (b || c) → (e || a) ≡ (b || (e || c))
or_right true a true c h = refl
or_right true a false c h = refl
or_right false a b c h = h

union_at : (n low : ℕ) (b c : Bool) (xs ys zs : List ℕ) → has n xs ≡ (has n ys || has n zs)
    → has n (cond (b || c) (low ∷ xs) xs) ≡ (has n (cond b (low ∷ ys) ys) || has n (cond c (low ∷ zs) zs))
union_at n low true true xs ys zs h = or_each (nat_eq n low) (has n xs) (has n ys) (has n zs) h
union_at n low true false xs ys zs h = or_step (nat_eq n low) (has n xs) (has n ys) (has n zs) h
union_at n low false true xs ys zs h = or_right (nat_eq n low) (has n xs) (has n ys) (has n zs) h
union_at n low false false xs ys zs h = h

pub union : {A : Type 0} (n low : ℕ) (p q : A → Bool) (xs : List A)
    → has n (positions_from low (λ (x : A). p x || q x) xs) ≡ (has n (positions_from low p xs) || has n (positions_from low q xs))
union n low p q [] = refl
union {A} n low p q (k ∷ xs) =
    union_at n low (p k) (q k) (positions_from (suc low) (λ (x : A). p x || q x) xs) (positions_from (suc low) p xs)
    (positions_from (suc low) q xs) (union n (suc low) p q xs)

pub none_from : {A : Type 0} (low : ℕ) (xs : List A) → positions_from low (λ (x : A). false) xs ≡ []
none_from low [] = refl
none_from low (x ∷ xs) = none_from (suc low) xs

pub listed_same : (n : ℕ) (keys : List NamedKey) (entries : Lists) (texts : List (List ℕ)) → ArePositions keys entries
    → has n (listed_positions entries texts) ≡ has n (positions_from 0 (λ (k : NamedKey). is_in texts k.1) keys)
listed_same n keys entries [] are = ap (has n) (sym (none_from 0 keys))
listed_same n keys entries (t ∷ texts) are =
    list_any-append (nat_eq n) (listed entries t) (flat_map (listed entries) texts)
    ∙ (λ i. has n (are t i) || listed_same n keys entries texts are i)
    ∙ sym (union n 0 (has_text t) (λ (k : NamedKey). is_in texts k.1) keys)

-- lists that ascend and have the same numbers are one

abbrev pub Ascends : ℕ → List ℕ → Type 0
Ascends low [] = Unit {0}
Ascends low (x ∷ xs) = (low ≤ x) × Ascends (suc x) xs

abbrev Rises : List ℕ → Type 0
Rises xs = (k : ℕ) → suc k < length xs → get_or xs k 0 < get_or xs (suc k) 0

ascends_on : (low x : ℕ) (xs : List ℕ) → low ≤ x → Rises (x ∷ xs) → Ascends low (x ∷ xs)
ascends_on low x [] le up = (le, tt)
ascends_on low x (y ∷ ys) le up = (le, (let less : x < y = up 0 (omega arith) in ascends_on (suc x) y ys less (λ k lt. up (suc k) (omega (arith, lt)))))

rises : (xs : List ℕ) → IsStrictlyIncreasing xs → Rises xs
rises xs up k lt = let next : k + 1 ≡ suc k = omega arith in subst (λ m. get_or xs k 0 < get_or xs m 0) next (up k (omega (arith, lt)))

pub ascends : (xs : List ℕ) → Rises xs → Ascends 0 xs
ascends [] up = tt
ascends (x ∷ xs) up = ascends_on 0 x xs (omega arith) up

other : (n m : ℕ) → (n ≡ m → ⊥) → nat_eq n m ≡ false
other n m apart = elim (cases_Bool (nat_eq n m)) [ inl same ↦ absurd (apart (nat_from n m same)) | inr is ↦ is ]

none_below : (n low : ℕ) (xs : List ℕ) → Ascends low xs → n < low → has n xs ≡ false
none_below n low [] up lt = refl
none_below n low (x ∷ xs) up lt =
    let le : low ≤ x = up.0 in
    ap (λ b. b || has n xs) (other n x (λ e. omega (arith, e, le, lt))) ∙ none_below n (suc x) xs up.1 (omega (arith, le, lt))

head_there : (x : ℕ) (xs : List ℕ) → has x (x ∷ xs) ≡ true
head_there x xs = ap (λ b. b || has x xs) (nat_to x x refl)

both : (b : Bool) → b ≡ true → b ≡ false → ⊥
both b holds fails = let bad : true ≡ false = sym holds ∙ fails in true≢false bad

rest_same : (n x y : ℕ) (xs ys : List ℕ) → x ≡ y → Ascends (suc x) xs → Ascends (suc y) ys → has n (x ∷ xs) ≡ has n (y ∷ ys) → has n xs ≡ has n ys
rest_same n x y xs ys same up down h =
    elim (cases_eq n x) [
      | inl is ↦ none_below n (suc x) xs up (omega (arith, is)) ∙ sym (none_below n (suc y) ys down (omega (arith, is, same)))
      | inr apart ↦
          ap (λ b. b || has n xs) (sym (other n x apart)) ∙ h ∙ ap (λ b. b || has n ys) (other n y (λ e. apart (e ∙ sym same)))
    ]

pub one_list : (low : ℕ) (xs ys : List ℕ) → Ascends low xs → Ascends low ys → ((n : ℕ) → has n xs ≡ has n ys) → xs ≡ ys
one_list low [] [] up down same = refl
one_list low [] (y ∷ ys) up down same = absurd (both (has y (y ∷ ys)) (head_there y ys) (sym (same y)))
one_list low (x ∷ xs) [] up down same = absurd (both (has x (x ∷ xs)) (head_there x xs) (same x))
one_list low (x ∷ xs) (y ∷ ys) up down same =
    elim (cases_order x y) [
      | inl is ↦
          let rest : xs ≡ ys = one_list (suc x) xs ys up.1 (subst (λ z. Ascends (suc z) ys) (sym is) down.1)
          (λ n. rest_same n x y xs ys is up.1 down.1 (same n)) in
          (λ i. is i ∷ rest i)
      | inr apart ↦
          elim apart [
            | inl less ↦
                absurd (both (has x (x ∷ xs)) (head_there x xs)
                (same x ∙ none_below x y (y ∷ ys) (let le : y ≤ y = omega arith in (le, down.1)) less))
            | inr more ↦
                absurd (both (has y (y ∷ ys)) (head_there y ys)
                (sym (same y) ∙ none_below y x (x ∷ xs) (let le : x ≤ x = omega arith in (le, up.1)) more))
          ]
    ]

weaker : (low : ℕ) (xs : List ℕ) → Ascends (suc low) xs → Ascends low xs
weaker low [] up = tt
weaker low (x ∷ xs) up = (let le : suc low ≤ x = up.0 in omega (arith, le), up.1)

put_up : (b : Bool) (low : ℕ) (xs : List ℕ) → Ascends (suc low) xs → Ascends low (cond b (low ∷ xs) xs)
put_up true low xs up = (omega arith, up)
put_up false low xs up = weaker low xs up

positions_up : {A : Type 0} (low : ℕ) (p : A → Bool) (xs : List A) → Ascends low (positions_from low p xs)
positions_up low p [] = tt
positions_up low p (x ∷ xs) = put_up (p x) low (positions_from (suc low) p xs) (positions_up (suc low) p xs)

-- the positions of what passes a test, sorted
pub sorted_from : {A : Type 0} (numbers sorted : List ℕ) (p : A → Bool) (xs : List A) → ((n : ℕ) → has n numbers ≡ has n (positions_from 0 p xs))
    → AreSorted numbers sorted → sorted ≡ positions_from 0 p xs
sorted_from numbers sorted p xs same s =
    one_list 0 sorted (positions_from 0 p xs) (ascends sorted (rises sorted s.ascending)) (positions_up 0 p xs) (λ n. s.same n ∙ same n)

-- the positions of the keys that have one of some texts
pub sorted_is : (keys : List NamedKey) (entries : Lists) (texts : List (List ℕ)) (sorted : List ℕ) → ArePositions keys entries
    → AreSorted (listed_positions entries texts) sorted → sorted ≡ positions_from 0 (λ (k : NamedKey). is_in texts k.1) keys
sorted_is keys entries texts sorted are =
    sorted_from (listed_positions entries texts) sorted (λ (k : NamedKey). is_in texts k.1) keys (λ n. listed_same n keys entries texts are)

-- after a sort and without repeats

contains_of : (n : ℕ) (xs : List ℕ) → has n xs ≡ true → Contains xs n
contains_of n xs is =
    let there = Any-from_list_any (nat_eq n) xs is in
    subst (Contains xs) (sym (nat_from n there.1 there.4)) (there.0, there.2, there.3)

has_of : (n : ℕ) (xs : List ℕ) → Contains xs n → has n xs ≡ true
has_of n xs there = list_any_at (nat_eq n) xs there.0 n there.1 (nat_to n (get_or xs there.0 n) (sym there.2))

one_test : (b c : Bool) → (b ≡ true → c ≡ true) → (c ≡ true → b ≡ true) → b ≡ c
one_test true c to from = sym (to refl)
one_test false true to from = from refl
one_test false false to from = refl

deduped : (n : ℕ) (xs : List ℕ) → has n (dedup nat_eq xs) ≡ has n xs
deduped n xs =
    one_test (has n (dedup nat_eq xs)) (has n xs)
    (λ is. has_of n xs (Contains-from_dedup nat_eq xs n (contains_of n (dedup nat_eq xs) is)))
    (λ is. has_of n (dedup nat_eq xs) (Contains-dedup_nat xs n (contains_of n xs is)))

pub sorted_once : (numbers found sorted once : List ℕ) → found ≡ numbers → IsPermutation found sorted → IsSorted nat_cmp sorted
    → IsFiltered (DiffersFromLast nat_eq) [] sorted once → AreSorted numbers once
sorted_once numbers found sorted once is moved up kept =
    let without : once ≡ dedup nat_eq sorted = dedup_is nat_eq sorted once kept in
    record {
      ascending = subst IsStrictlyIncreasing (sym without) (IsStrictlyIncreasing-dedup sorted up);
      same = λ n. ap (has n) without ∙ deduped n sorted ∙ sym (list_any-IsPermutation (nat_eq n) found sorted moved) ∙ ap (has n) is;
    }
