-- Globals that are kept leave what they left, each among the kept ones before it.
use Rattle.std.proofs.Common.{◌≡◌, ℕ, zero, suc, ◌+◌, List, [], ◌∷◌, ◌++◌, length, map, refl, sym, ◌∙◌, ap, subst, Bool, true, false, cond, Some, append-nil, append_assoc, length-append, ◌⊎◌, inl, inr, arith}
use Rattle.std.specs.List.{slice_get}
use Rattle.std.proofs.lemmas.Bool.{false≢true}
use Rattle.std.proofs.lemmas.List.{map-append}
use Rattle.wc_read.specs.Items.{GlobalValue}
use Rattle.wc_read.specs.InitTypes.{InitScope, types_of, IsTypedGlobal, AreTyped}
use Rattle.wc_read.specs.Renumbering.{Renumbering, renumber_global_type}
use Rattle.wc_read.specs.declared.types.GlobalType.{GlobalType}
use Rattle.wc_read.specs.declared.operators.Space.TheVariants.{Globals}
use Rattle.wc_gc.specs.Counts.{count_below}
use Rattle.wc_gc.specs.Image.{kept_items}
use Rattle.wc_gc.proofs.RankLemmas.{one_more}
use Rattle.wc_gc.proofs.KeptItemLemmas.{kept_from, kept_is}
use Rattle.wc_graph.proofs.ListLemmas.{get_front, get_last}

-- an item of a list that grows at its end

get_push : {A : Type 0} (xs : List A) (y : A) (n : ℕ) (x : A) → slice_get (xs ++ y ∷ []) n ≡ Some x → (slice_get xs n ≡ Some x) ⊎ ((n ≡ length xs) × (y ≡ x))
get_push [] y zero x e = let same : y ≡ x = cc e in inr (refl, same)
get_push [] y (suc n) x e = absurd cc
get_push (z ∷ xs) y zero x e = inl e
get_push (z ∷ xs) y (suc n) x e = elim (get_push xs y n x e) [ inl a ↦ inl a | inr b ↦ inr (ap suc b.0, b.1) ]

-- the globals after some others, one after another

abbrev pub scope_after : ℕ → ℕ → List GlobalType → InitScope
scope_after types functions done = record { types = types; functions = functions; globals = done }

abbrev AreTypedAfter : ℕ → ℕ → List GlobalType → List GlobalValue → Type 0
AreTypedAfter types functions done [] = Unit {0}
AreTypedAfter types functions done (g ∷ gs) = IsTypedGlobal (scope_after types functions done) g × AreTypedAfter types functions (done ++ g.ty ∷ []) gs

typed_after : (types functions : ℕ) (front rest : List GlobalValue) → AreTyped types functions (front ++ rest)
    → AreTypedAfter types functions (types_of front) rest
typed_after types functions front [] h = tt
typed_after types functions front (g ∷ rest) h = (
  h front rest g refl,
  subst (λ ts. AreTypedAfter types functions ts rest) (map-append (λ (g : GlobalValue). g.ty) front (g ∷ []))
      (typed_after types functions (front ++ g ∷ []) rest (subst (AreTyped types functions) (sym (append_assoc front (g ∷ []) rest)) h)),
)

typed_all : (types functions : ℕ) (done : List GlobalType) (gs : List GlobalValue) → AreTypedAfter types functions done gs
    → (front back : List GlobalValue) (g : GlobalValue) → gs ≡ front ++ (g ∷ back)
    → IsTypedGlobal (scope_after types functions (done ++ types_of front)) g
typed_all types functions done [] h [] back g e = absurd cc
typed_all types functions done [] h (y ∷ front) back g e = absurd cc
typed_all types functions done (x ∷ xs) h [] back g e =
    let same : x ≡ g = cc e in
    subst (λ ts. IsTypedGlobal (scope_after types functions ts) g) (sym (append-nil done)) (subst (IsTypedGlobal (scope_after types functions done)) same h.0)
typed_all types functions done (x ∷ xs) h (y ∷ front) back g e =
    let same : x ≡ y = cc e in
    let rest : xs ≡ front ++ (g ∷ back) = cc e in
    subst (λ ts. IsTypedGlobal (scope_after types functions ts) g)
    (append_assoc done (x.ty ∷ []) (types_of front) ∙ ap (λ (z : GlobalValue). done ++ z.ty ∷ types_of front) same)
    (typed_all types functions (done ++ x.ty ∷ []) xs h.1 front back g rest)

-- the kept ones under new indices: of types and functions, so many before and so many after; of globals, their ranks

module _ (types types' functions functions' : ℕ) (new : Renumbering) (has : ℕ → Bool) (ranked : (n : ℕ) → has n ≡ true → new Globals n ≡ count_below has n)
    (written : GlobalValue → GlobalValue) (typed_same : (g : GlobalValue) → (written g).ty ≡ renumber_global_type new g.ty) where
  -- each kept global before one is at its new index, its type under new indices
  abbrev pub AreMoved : List GlobalType → List GlobalType → Type 0
  AreMoved done done' =
      (n : ℕ) (t : GlobalType) → has n ≡ true → slice_get done n ≡ Some t → slice_get done' (new Globals n) ≡ Some (renumber_global_type new t)

  -- a global that leaves one value after some others leaves it where they have moved
  abbrev pub CanMove : ℕ → GlobalValue → Type 0
  CanMove n g = (done done' : List GlobalType) → length done ≡ n → AreMoved done done' → IsTypedGlobal (scope_after types functions done) g
      → IsTypedGlobal (scope_after types' functions' done') (written g)

  moved_on : (a : ℕ) (done done' : List GlobalType) (t t' : GlobalType) → length done ≡ a → length done' ≡ count_below has a → t' ≡ renumber_global_type new t
      → has a ≡ true → AreMoved done done' → AreMoved (done ++ t ∷ []) (done' ++ t' ∷ [])
  moved_on a done done' t t' long long' same h moved n u k e =
      elim (get_push done t n u e) [
        | inl old ↦ get_front done' (t' ∷ []) (new Globals n) (renumber_global_type new u) (moved n u k old)
        | inr last ↦
            let here : new Globals n ≡ length done' = ranked n k ∙ (ap (count_below has) (last.0 ∙ long) ∙ sym long') in
            ap (slice_get (done' ++ t' ∷ [])) here ∙ (get_last done' t' ∙ ap Some (same ∙ ap (renumber_global_type new) last.1))
      ]

  moved_past : (a : ℕ) (done done' : List GlobalType) (t : GlobalType) → length done ≡ a → has a ≡ false → AreMoved done done' → AreMoved (done ++ t ∷ []) done'
  moved_past a done done' t long h moved n u k e =
      elim (get_push done t n u e) [
        | inl old ↦ moved n u k old
        | inr last ↦ absurd (false≢true (sym h ∙ (ap has (sym long ∙ sym last.0) ∙ k)))
      ]

  count_next : (a : ℕ) → count_below has (a + 1) ≡ count_below has a + cond (has a) 1 0
  count_next a = ap (count_below has) (let e : a + 1 ≡ suc a = omega arith in e) ∙ one_more has a

  -- what comes after one global
  abbrev Stays : List GlobalValue → ℕ → Type 0
  Stays gs a = (done done' : List GlobalType) → length done ≡ a → length done' ≡ count_below has a → AreMoved done done'
      → AreTypedAfter types functions done gs → AreTypedAfter types' functions' done' (map written (kept_from has a gs))

  stays_more : (g : GlobalValue) (gs : List GlobalValue) (a : ℕ) → (has a ≡ true → CanMove a g) → Stays gs (a + 1) → (b : Bool) → has a ≡ b → (done done' : List GlobalType) → length done ≡ a → length done' ≡ count_below has a
      → AreMoved done done' → AreTypedAfter types functions done (g ∷ gs)
      → AreTypedAfter types' functions' done' (map written (cond b (g ∷ kept_from has (a + 1) gs) (kept_from has (a + 1) gs)))
  stays_more g gs a can rest true k done done' long long' moved h =
      let longer : length (done ++ g.ty ∷ []) ≡ a + 1 = (let l = length-append done (g.ty ∷ []) in omega (arith, l, long)) in
      let longer' : length (done' ++ (written g).ty ∷ []) ≡ count_below has (a + 1) =
      (let l = length-append done' ((written g).ty ∷ []) in let c = count_next a ∙ ap (λ b. count_below has a + cond b 1 0) k in omega (arith, l, c, long')) in
      (can k done done' long moved h.0, rest (done ++ g.ty ∷ []) (done' ++ (written g).ty ∷ []) longer longer' (moved_on a done done' g.ty (written g).ty long long' (typed_same g) k moved) h.1)
  stays_more g gs a can rest false k done done' long long' moved h =
      let longer : length (done ++ g.ty ∷ []) ≡ a + 1 = (let l = length-append done (g.ty ∷ []) in omega (arith, l, long)) in
      let longer' : length done' ≡ count_below has (a + 1) = (let c = count_next a ∙ ap (λ b. count_below has a + cond b 1 0) k in omega (arith, c, long')) in
      rest (done ++ g.ty ∷ []) done' longer longer' (moved_past a done done' g.ty long k moved) h.1

  stays : (gs : List GlobalValue) (a : ℕ) → ((i : ℕ) (g : GlobalValue) → has (a + i) ≡ true → slice_get gs i ≡ Some g → CanMove (a + i) g) → Stays gs a
  stays [] a can done done' long long' moved h = tt
  stays (g ∷ gs) a can done done' long long' moved h =
      let here : a + 0 ≡ a = omega arith in
      let next : (i : ℕ) → a + suc i ≡ a + 1 + i = (λ i. omega arith) in
      stays_more g gs a (λ k. subst (λ n. CanMove n g) here (can 0 g (ap has here ∙ k) refl)) (stays gs (a + 1) (λ i x k e. subst (λ n. CanMove n x) (next i) (can (suc i) x (ap has (next i) ∙ k) e)))
      (has a) refl done done' long long' moved h

  pub kept_typed : (gs : List GlobalValue) → AreTyped types functions gs → ((n : ℕ) (g : GlobalValue) → has n ≡ true → slice_get gs n ≡ Some g → CanMove n g)
      → AreTyped types' functions' (map written (kept_items has (length gs) gs))
  kept_typed gs typed can =
      let none : (n : ℕ) → 0 + n ≡ n = (λ n. omega arith) in
      let all = stays gs 0 (λ i g k e. subst (λ n. CanMove n g) (sym (none i)) (can i g (ap has (sym (none i)) ∙ k) e)) [] [] refl refl
      (λ n t k e. absurd cc) (typed_after types functions [] gs typed) in
      subst (λ ks. AreTyped types' functions' (map written ks)) (sym (kept_is has gs))
      (λ front back g e. typed_all types' functions' [] (map written (kept_from has 0 gs)) all front back g e)
