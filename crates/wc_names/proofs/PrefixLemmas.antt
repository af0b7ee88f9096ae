-- Texts of which none is the beginning of another.
use Rattle.std.proofs.Common.{◌≡◌, ℕ, zero, suc, Bool, true, false, cond, nat_eq, List, [], ◌∷◌, ◌++◌, Some, refl, sym, ap, ◌∙◌, subst, eq-eqb}
use Rattle.std.specs.Prelude.{slice_get}

-- one of two texts is the beginning of the other
abbrev pub clash : List ℕ → List ℕ → Bool
clash [] q = true
clash (c ∷ cs) [] = true
clash (c ∷ cs) (d ∷ ds) = cond (nat_eq c d) (clash cs ds) false

clash_step : (c d : ℕ) (cs ds x y : List ℕ) (t : Bool) → nat_eq c d ≡ t → cond t (clash cs ds) false ≡ false → (clash cs ds ≡ false → cs ++ x ≡ ds ++ y → ⊥)
    → c ∷ (cs ++ x) ≡ d ∷ (ds ++ y) → ⊥
clash_step c d cs ds x y true is no_clash rest e = rest no_clash (let more : cs ++ x ≡ ds ++ y = cc e in more)
clash_step c d cs ds x y false is no_clash rest e =
    let same : c ≡ d = cc e in
    let t : true ≡ false = sym (eq-eqb c d same) ∙ is in let bad : ⊥ = cc t in bad

-- texts that don't clash begin no text together
pub no_clash_differ : (p q x y : List ℕ) → clash p q ≡ false → p ++ x ≡ q ++ y → ⊥
no_clash_differ [] q x y no_clash e = let bad : ⊥ = cc no_clash in bad
no_clash_differ (c ∷ cs) [] x y no_clash e = let bad : ⊥ = cc no_clash in bad
no_clash_differ (c ∷ cs) (d ∷ ds) x y no_clash e = clash_step c d cs ds x y (nat_eq c d) refl no_clash (no_clash_differ cs ds x y) e

-- a text clashes with none of a list
abbrev pub clashes_none : List ℕ → List (List ℕ) → Bool
clashes_none p [] = true
clashes_none p (q ∷ qs) = cond (clash p q) false (clashes_none p qs)

abbrev pub is_prefix_free : List (List ℕ) → Bool
is_prefix_free [] = true
is_prefix_free (p ∷ ps) = cond (clashes_none p ps) (is_prefix_free ps) false

clashes_none_at : (p : List ℕ) (qs : List (List ℕ)) (i : ℕ) (q : List ℕ) → clashes_none p qs ≡ true → slice_get qs i ≡ Some q → clash p q ≡ false
clashes_none_at p [] i q none is = absurd (let bad : ⊥ = cc is in bad)
clashes_none_at p (r ∷ rs) i q none is = at (clash p r) refl none i is (clashes_none_at p rs) where
  at : (t : Bool) → clash p r ≡ t → cond t false (clashes_none p rs) ≡ true → (i : ℕ) → slice_get (r ∷ rs) i ≡ Some q
      → ((i : ℕ) (q : List ℕ) → clashes_none p rs ≡ true → slice_get rs i ≡ Some q → clash p q ≡ false) → clash p q ≡ false
  at true same none i is rest = absurd (let bad : ⊥ = cc none in bad)
  at false same none zero is rest = subst (λ (z : List ℕ). clash p z ≡ false) (let e : r ≡ q = cc is in e) same
  at false same none (suc i) is rest = rest i q none is

free_parts : (b c : Bool) → cond b c false ≡ true → (b ≡ true) × (c ≡ true)
free_parts true c is = (refl, is)
free_parts false c is = absurd (let bad : ⊥ = cc is in bad)

-- which of the texts begins a text is known
pub prefix_free_unique : (ps : List (List ℕ)) (i j : ℕ) (p q x y : List ℕ) → is_prefix_free ps ≡ true → slice_get ps i ≡ Some p → slice_get ps j ≡ Some q
    → p ++ x ≡ q ++ y → i ≡ j
prefix_free_unique [] i j p q x y free at also e = absurd (let bad : ⊥ = cc at in bad)
prefix_free_unique (r ∷ rs) zero zero p q x y free at also e = refl
prefix_free_unique (r ∷ rs) zero (suc j) p q x y free at also e =
    absurd (no_clash_differ p q x y (subst (λ (z : List ℕ). clash z q ≡ false) (let h : r ≡ p = cc at in h)
    (clashes_none_at r rs j q (free_parts (clashes_none r rs) (is_prefix_free rs) free).0 also)) e)
prefix_free_unique (r ∷ rs) (suc i) zero p q x y free at also e =
    absurd (no_clash_differ q p y x (subst (λ (z : List ℕ). clash z p ≡ false) (let h : r ≡ q = cc also in h)
    (clashes_none_at r rs i p (free_parts (clashes_none r rs) (is_prefix_free rs) free).0 at)) (sym e))
prefix_free_unique (r ∷ rs) (suc i) (suc j) p q x y free at also e =
    ap (λ (n : ℕ). suc n) (prefix_free_unique rs i j p q x y (free_parts (clashes_none r rs) (is_prefix_free rs) free).1 at also e)
