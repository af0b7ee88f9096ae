-- No item has two first shortest chains.
use Rattle.std.proofs.Common.{◌≡◌, List, [], ◌∷◌, length, refl, sym, ◌∙◌, ap, subst, inl, inr, arith}
use Rattle.std.proofs.lemmas.Bool.{cases_lt}
use Rattle.std.proofs.lemmas.List.{get_or_default}
use Rattle.wc_graph.specs.ShortestChains.{IsBefore, IsNotAfter, IsShortestChain}

module _ {X : Type 0} where
  one_before : (xs : List X) (x y : X) → IsBefore xs x y → IsBefore xs y x → ⊥
  one_before xs x y a b =
      let al = a.1 in
      let bl = b.1 in
      elim (cases_lt a.0 b.0) [
        | inl lt ↦ b.3 a.0 (omega arith) (get_or_default xs a.0 y x al ∙ a.2)
        | inr ge ↦ a.3 b.0 ge (get_or_default xs b.0 x y bl ∙ b.2)
      ]

  self_before : (xs : List X) (x : X) → IsBefore xs x x → ⊥
  self_before xs x a = a.3 a.0 (omega arith) a.2

  one_first : (names : X → List X) (choices a b : List X) → length a ≡ length b → IsNotAfter names choices a b → IsNotAfter names choices b a → a ≡ b
  one_first names choices [] [] l p q = refl
  one_first names choices [] (y ∷ b) l p q = absurd (omega (arith, l))
  one_first names choices (x ∷ a) [] l p q = absurd (omega (arith, l))
  one_first names choices (x ∷ a) (y ∷ b) l (inl p) (inl q) =
      ap (λ z. z ∷ a) p.0
      ∙ ap (λ z. y ∷ z) (one_first names (names x) a b (omega (arith, l)) p.1 (subst (λ z. IsNotAfter names (names z) b a) (sym p.0) q.1))
  one_first names choices (x ∷ a) (y ∷ b) l (inl p) (inr q) = absurd (self_before choices y (subst (IsBefore choices y) p.0 q))
  one_first names choices (x ∷ a) (y ∷ b) l (inr p) (inl q) = absurd (self_before choices x (subst (IsBefore choices x) q.0 p))
  one_first names choices (x ∷ a) (y ∷ b) l (inr p) (inr q) = absurd (one_before choices x y p q)

  pub one_chain : (names : X → List X) (roots : List X) (target : X) (a b : List X) → IsShortestChain names roots target a
      → IsShortestChain names roots target b → a ≡ b
  one_chain names roots target a b p q =
      let s = p.shortest q.root q.path q.from q.leads in
      let t = q.shortest p.root p.path p.from p.leads in
      let l : length q.path ≡ length p.path = omega (arith, s, t) in
      p.is
      ∙ (one_first names roots (p.root ∷ p.path) (q.root ∷ q.path) (omega (arith, l)) (p.first q.root q.path q.from q.leads l)
      (q.first p.root p.path p.from p.leads (sym l)) ∙ sym q.is)
