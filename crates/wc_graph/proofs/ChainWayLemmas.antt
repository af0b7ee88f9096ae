-- Shortest chains are ways up to their first targets.
use Rattle.std.proofs.Common.{◌≡◌, ◌≢◌, ℕ, zero, suc, ◌+◌, ◌-◌, ◌<◌, List, [], ◌∷◌, ◌++◌, length, take, drop, get_or, refl, sym, ◌∙◌, ap, subst, inl, inr, arith}
use Rattle.std.proofs.Common.{length-append, length-drop}
use Rattle.std.specs.Prelude.{All, AllPairs, Contains}
use Rattle.std.proofs.lemmas.List.{get_or-take, get_or_default, length-take-le}
use Rattle.std.proofs.lemmas.Option.{get_or_from_slice_get}
use Rattle.wc_graph.specs.ShortestChains.{IsShortestChain}
use Rattle.wc_graph.specs.Reached.{IsPath}
use Rattle.wc_graph.specs.Private.Ways.{IsChainTo, IsCut, IsWay}
use Rattle.wc_graph.proofs.WayLemmas.{last_of, path_on, rest_of}

front_of : (names : ℕ → List ℕ) (x : ℕ) (path : List ℕ) (t : ℕ) → IsPath names x path t → (j : ℕ) → j < length (x ∷ path)
    → IsPath names x (take j path) (get_or (x ∷ path) j 0)
front_of names x [] t w zero lt = refl
front_of names x [] t w (suc j) lt = absurd (omega (arith, lt))
front_of names x (z ∷ zs) t w zero lt = refl
front_of names x (z ∷ zs) t w (suc j) lt = (w.0, front_of names z zs t w.1 j (omega (arith, lt)))

-- where an item is twice in a chain, what is between leads nowhere
pub shortest_once : (names : ℕ → List ℕ) (roots : List ℕ) (t : ℕ) (chain : List ℕ) → IsShortestChain names roots t chain → AllPairs (λ x y. x ≢ y) chain
shortest_once names roots t chain c = subst (λ (z : List ℕ). AllPairs (λ x y. x ≢ y) z) (sym c.is) once
  where
    once : AllPairs (λ x y. x ≢ y) (c.root ∷ c.path)
    once i j d less lt same =
        let all = c.root ∷ c.path in
        let within : i < length (c.root ∷ c.path) = omega (arith, less, lt) in
        let one : get_or (c.root ∷ c.path) j 0 ≡ get_or (c.root ∷ c.path) i 0 =
        get_or_default (c.root ∷ c.path) j 0 d lt ∙ (sym same ∙ get_or_default (c.root ∷ c.path) i d 0 within) in
        let rest = subst (λ z. IsPath names z (drop (suc j) (c.root ∷ c.path)) t) one (rest_of names c.root c.path t c.leads j lt) in
        let whole = path_on names c.root (take i c.path) (get_or (c.root ∷ c.path) i 0) (drop (suc j) (c.root ∷ c.path)) t
        (front_of names c.root c.path t c.leads i within) rest in
        let short = c.shortest c.root (take i c.path ++ drop (suc j) (c.root ∷ c.path)) c.from whole in
        let joined = length-append (take i c.path) (drop (suc j) (c.root ∷ c.path)) in
        let front = length-take-le i c.path (omega (arith, less, lt)) in
        let back = length-drop (suc j) (c.root ∷ c.path) in
        omega (arith, short, joined, front, back, less, lt)

-- a chain up to a target, before which it has none
way_to : (names : ℕ → List ℕ) (roots targets chain : List ℕ) → IsChainTo names roots targets chain → (n : ℕ) → n < length chain
    → Contains targets (get_or chain n 0) → ((j : ℕ) → j < n → ¬ (Contains targets (get_or chain j 0))) → IsWay names roots targets (take (suc n) chain)
way_to names roots targets chain c n lt target before = record {
  root = c.root;
  path = take n c.path;
  target = get_or chain n 0;
  is = ap (take (suc n)) c.is;
  from = c.from;
  leads = subst (λ z. IsPath names c.root (take n c.path) (get_or z n 0)) (sym c.is)
      (front_of names c.root c.path c.target c.leads n (subst (λ (z : List ℕ). n < length z) c.is lt));
  ends = target;
  once = λ i j d less l same.
      c.once i j d less (omega (arith, l, size, lt))
      (sym (get_or-take (suc n) chain i d (omega (arith, less, l, size))) ∙ (same ∙ get_or-take (suc n) chain j d (omega (arith, l, size))));
  only = λ k x h e.
      let k_in : k < n = omega (arith, h, size) in
      subst (λ z. ¬ (Contains targets z)) (sym (get_or-take (suc n) chain k 0 (omega (arith, k_in))) ∙ get_or_from_slice_get (take (suc n) chain) k x 0 e)
      (before k k_in);
}
  where
    size : length (take (suc n) chain) ≡ suc n
    size = length-take-le (suc n) chain (omega (arith, lt))

pub cut_way : (names : ℕ → List ℕ) (roots targets chain : List ℕ) → IsChainTo names roots targets chain → (count : ℕ) → IsCut targets chain count
    → IsWay names roots targets (take count chain)
cut_way names roots targets chain c zero cut = elim cut.ends [
  | inl all ↦ absurd (let e = ap length c.is in omega (arith, all, e))
  | inr found ↦ absurd (let l = found.0 in omega (arith, l))
]
cut_way names roots targets chain c (suc n) cut =
    let within : n < length chain = (let l = cut.within in omega (arith, l)) in
    way_to names roots targets chain c n within
    (elim cut.ends [
      | inl all ↦
          subst (Contains targets)
          (sym (ap (λ z. get_or z n 0) c.is ∙ last_of names c.root c.path c.target c.leads n (let e = ap length c.is in omega (arith, all, e)))) c.ends
      | inr found ↦ let back : suc n - 1 ≡ n = omega arith in subst (λ z. Contains targets (get_or chain z 0)) back found.1
    ])
    (λ j h. cut.before j (omega (arith, h)))

-- what is on a path from an item that is there is there
pub path_below : (names : ℕ → List ℕ) (size : ℕ) → ((x y : ℕ) → Contains (names x) y → y < size) → (x : ℕ) (path : List ℕ) (y : ℕ) → x < size
    → IsPath names x path y → All (λ n. n < size) (x ∷ path)
path_below names size named x path y lt w zero d h = lt
path_below names size named x [] y lt w (suc k) d h = absurd (omega (arith, h))
path_below names size named x (z ∷ zs) y lt w (suc k) d h = path_below names size named z zs y (named x z w.0) w.1 k d (omega (arith, h))
