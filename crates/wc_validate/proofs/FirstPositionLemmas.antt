-- Positions of first matches.
use Rattle.std.proofs.Common.{◌≡◌, ◌<◌, ◌+◌, ◌^◌, ℕ, zero, suc, List, [], ◌∷◌, ◌++◌, length, length-append, append-nil, append_assoc, map, refl, sym, ◌∙◌, ap, subst, Bool, true, false, cond, ◌||◌, Option, Some, None, slice_get, min, arith}
use Rattle.std.specs.Prelude.{find}
use Rattle.std.specs.Option.{option_and_then, option_map, option_or}
use Rattle.wc_validate.specs.FirstPositions.{earlier, first_position, kept_position}

next : (b c : Bool) (n : ℕ) (o q : Option ℕ) → q ≡ option_or o (cond c (Some n) None)
    → cond b (Some zero) (option_map suc q) ≡ option_or (cond b (Some zero) (option_map suc o)) (cond c (Some (suc n)) None)
next true c n o q h = refl
next false c n (Some m) q h = ap (option_map suc) h
next false true n None q h = ap (option_map suc) h
next false false n None q h = ap (option_map suc) h

either : (a b : Bool) (m n o : Option ℕ) → o ≡ earlier m n
    → cond (a || b) (Some zero) (option_map suc o) ≡ earlier (cond a (Some zero) (option_map suc m)) (cond b (Some zero) (option_map suc n))
either true true m n o h = refl
either true false m None o h = refl
either true false m (Some n) o h = let e : zero ≡ min zero (suc n) = omega arith in ap (λ (k : ℕ). Some k) e
either false true None n o h = refl
either false true (Some m) n o h = let e : zero ≡ min (suc m) zero = omega arith in ap (λ (k : ℕ). Some k) e
either false false None n o h = ap (option_map suc) h
either false false (Some m) None o h = ap (option_map suc) h
either false false (Some m) (Some n) o h = ap (option_map suc) h ∙ (let e : suc (min m n) ≡ min (suc m) (suc n) = omega arith in ap (λ (k : ℕ). Some k) e)

module _ {X : Type 0} where
  counted : (p : X → Bool) (x : X) (xs : List X) (b : Bool) (o : Option ℕ)
      → cond b (Some x) (option_and_then (slice_get xs) o) ≡ option_and_then (slice_get (x ∷ xs)) (cond b (Some zero) (option_map suc o))
  counted p x xs true o = refl
  counted p x xs false None = refl
  counted p x xs false (Some n) = refl

  -- the first that passes is at its position
  pub found_at_position : (p : X → Bool) (xs : List X) → find p xs ≡ option_and_then (slice_get xs) (first_position p xs)
  found_at_position p [] = refl
  found_at_position p (x ∷ xs) = ap (λ o. cond (p x) (Some x) o) (found_at_position p xs) ∙ counted p x xs (p x) (first_position p xs)

  -- with one more after the others
  position_pushed : (p : X → Bool) (xs : List X) (x : X) → first_position p (xs ++ x ∷ []) ≡ kept_position (first_position p xs) (p x) (length xs)
  position_pushed p [] x = refl
  position_pushed p (y ∷ xs) x = next (p y) (p x) (length xs) (first_position p xs) (first_position p (xs ++ x ∷ [])) (position_pushed p xs x)

  -- of two tests the earlier position
  pub position_of_either : (p q : X → Bool) (xs : List X) → first_position (λ x. p x || q x) xs ≡ earlier (first_position p xs) (first_position q xs)
  position_of_either p q [] = refl
  position_of_either p q (x ∷ xs) =
      either (p x) (q x) (first_position p xs) (first_position q xs) (first_position (λ x. p x || q x) xs) (position_of_either p q xs)

  -- of tests that say the same
  pub position_as : (p q : X → Bool) → ((x : X) → p x ≡ q x) → (xs : List X) → first_position p xs ≡ first_position q xs
  position_as p q same [] = refl
  position_as p q same (x ∷ xs) =
      ap (λ b. cond b (Some zero) (option_map suc (first_position p xs))) (same x) ∙ ap (λ o. cond (q x) (Some zero) (option_map suc o))
      (position_as p q same xs)

  -- what is kept after one more
  pub position_kept : (p : X → Bool) (xs : List X) (x : X) (position : ℕ) (old new : Option ℕ) → position ≡ length xs → old ≡ first_position p xs
      → new ≡ kept_position old (p x) position → new ≡ first_position p (xs ++ x ∷ [])
  position_kept p xs x position old new at is kept =
      kept ∙ (ap (λ o. kept_position o (p x) position) is ∙ (ap (λ n. kept_position (first_position p xs) (p x) n) at ∙ sym (position_pushed p xs x)))

pub earlier_is : {r m n a b : Option ℕ} → r ≡ earlier m n → m ≡ a → n ≡ b → r ≡ earlier a b
earlier_is {r} {m} {n} {a} {b} is left right = is ∙ (ap (λ z. earlier z n) left ∙ ap (earlier a) right)

-- what is at a position of images
pub image_at : {X Y : Type 0} (f : X → Y) (xs : List X) (o : Option ℕ)
    → option_map f (option_and_then (slice_get xs) o) ≡ option_and_then (slice_get (map f xs)) o
image_at f xs None = refl
image_at f xs (Some n) = at xs n where
  at : (ys : List _) (k : ℕ) → option_map f (slice_get ys k) ≡ slice_get (map f ys) k
  at [] k = refl
  at (y ∷ ys) zero = refl
  at (y ∷ ys) (suc k) = at ys k

-- a list that is gone through with a position: what holds of those that were passed
pub record HasPosition {E F : Type 0} (Holds : List E → F → Type 0) (all rest : List E) (found : F) (position : ℕ) : Type 0 where
  pub passed : List E
  pub split : passed ++ rest ≡ all
  pub count : position ≡ length passed
  pub fits : length all < 2 ^ 63
  pub holds : Holds passed found

module _ {E F : Type 0} (Holds : List E → F → Type 0) where
  pub position_start : (all items rest : List E) (count : ℕ) (found : F) → rest ≡ items → items ≡ all → length items ≡ count → count < 2 ^ 63 → Holds [] found
      → HasPosition Holds all rest found zero
  position_start all items rest count found rests is long fits h = record {
    passed = [];
    split = rests ∙ is;
    count = refl;
    fits = subst (λ n. n < 2 ^ 63) (sym long ∙ ap length is) fits;
    holds = h;
  }

  pub position_next : (all left rest : List E) (x : E) (old new : F) (position : ℕ) → (p : HasPosition Holds all left old position) → left ≡ x ∷ rest
      → (Holds p.passed old → position ≡ length p.passed → Holds (p.passed ++ x ∷ []) new)
      → HasPosition Holds all rest new (position + 1)
  position_next all left rest x old new position p is step = record {
    passed = p.passed ++ x ∷ [];
    split = append_assoc p.passed (x ∷ []) rest ∙ (ap (λ z. p.passed ++ z) (sym is) ∙ p.split);
    count = ap (λ n. n + 1) p.count ∙ sym (length-append p.passed (x ∷ []));
    fits = p.fits;
    holds = step p.holds p.count;
  }

  pub position_end : (all left : List E) (found : F) (position : ℕ) → HasPosition Holds all left found position → left ≡ [] → Holds all found
  position_end all left found position p none = subst (λ z. Holds z found) (sym (append-nil p.passed) ∙ (ap (λ z. p.passed ++ z) (sym none) ∙ p.split)) p.holds

  -- a position can be counted on
  pub position_fits : (all left : List E) (found : F) (position : ℕ) → HasPosition Holds all left found position → position < 2 ^ 63
  position_fits all left found position p =
      let total : length p.passed + length left ≡ length all = sym (length-append p.passed left) ∙ ap length p.split in
      let at_position : position ≡ length p.passed = p.count in
      let bound : length all < 2 ^ 63 = p.fits in
      omega (arith, total, at_position, bound)
