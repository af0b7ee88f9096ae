-- Paths in a graph whose items have other names.
use Rattle.std.proofs.Common.{◌≡◌, zero, suc, ◌<◌, List, [], ◌∷◌, length, map, get_or, refl, sym, ◌∙◌, ap, subst, inl, inr, arith}
use Rattle.std.specs.Prelude.{All, Contains, ⊤}
use Rattle.std.proofs.lemmas.List.{get_or-map, length-map}
use Rattle.std.proofs.lemmas.List.Elements.{All-contains}
use Rattle.wc_graph.proofs.ListLemmas.{contains_mapped, contains_unmapped}
use Rattle.wc_graph.specs.Dominators.{IsDominator}
use Rattle.wc_graph.specs.Reached.{IsPath, IsReachedFrom}
use Rattle.wc_graph.specs.ShortestChains.{IsBefore, IsNotAfter, IsShortestChain}

module _ {X Y : Type 0} (f : X → Y) (Inside : X → Type 0) (names : X → List X) (names' : Y → List Y) (closed : (x : X) → Inside x → All Inside (names x))
    (same : (x : X) → Inside x → names' (f x) ≡ map f (names x)) (apart : (x y : X) → Inside x → Inside y → f x ≡ f y → x ≡ y) where
  abbrev pub AreInside : List X → Type 0
  AreInside [] = ⊤
  AreInside (x ∷ xs) = Inside x × AreInside xs

  next_inside : (x z : X) → Inside x → Contains (names x) z → Inside z
  next_inside x z i c = All-contains Inside (names x) z (closed x i) c

  pub end_inside : (x : X) (path : List X) (y : X) → Inside x → IsPath names x path y → Inside y
  end_inside x [] y i e = subst Inside e i
  end_inside x (z ∷ zs) y i (c, p) = end_inside z zs y (next_inside x z i c) p

  path_inside : (x : X) (path : List X) (y : X) → Inside x → IsPath names x path y → AreInside path
  path_inside x [] y i e = tt
  path_inside x (z ∷ zs) y i (c, p) = (next_inside x z i c, path_inside z zs y (next_inside x z i c) p)

  one_inside : (xs : List X) (x : X) → AreInside xs → Contains xs x → Inside x
  one_inside [] x i (k, lt, e) = absurd (omega (arith, lt))
  one_inside (z ∷ zs) x i (zero, lt, e) = subst Inside e i.0
  one_inside (z ∷ zs) x i (suc k, lt, e) = one_inside zs x i.1 (k, omega (arith, lt), e)

  -- paths there and back
  pub path_to : (x : X) (path : List X) (y : X) → Inside x → IsPath names x path y → IsPath names' (f x) (map f path) (f y)
  path_to x [] y i e = ap f e
  path_to x (z ∷ zs) y i (c, p) =
      (subst (λ l. Contains l (f z)) (sym (same x i)) (contains_mapped f (names x) z c), path_to z zs y (next_inside x z i c) p)

  -- what a path there is of a path here
  pub record IsMapped (x : X) (path' : List Y) (y' : Y) : Type 0 where
    pub path : List X
    pub end : X
    pub is : path' ≡ map f path
    pub ends : y' ≡ f end
    pub leads : IsPath names x path end

  pub path_from : (x : X) (path' : List Y) (y' : Y) → Inside x → IsPath names' (f x) path' y' → IsMapped x path' y'
  path_from x [] y' i e = record { path = []; end = x; is = refl; ends = sym e; leads = refl }
  path_from x (z' ∷ zs') y' i (c', p') =
      let (z, c, fz) = contains_unmapped f (names x) z' (subst (λ l. Contains l z') (same x i) c') in
      let rest = path_from z zs' y' (next_inside x z i c) (subst (λ v. IsPath names' v zs' y') (sym fz) p') in
      record {
        path = z ∷ rest.path;
        end = rest.end;
        is = ap (λ v. v ∷ zs') (sym fz) ∙ ap (λ l. f z ∷ l) rest.is;
        ends = rest.ends;
        leads = (c, rest.leads);
      }

  -- a path there that ends at an item of here
  pub path_back : (x : X) (path' : List Y) (y : X) → Inside x → Inside y → IsPath names' (f x) path' (f y) → (path : List X) × (path' ≡ map f path) × IsPath names x path y
  path_back x path' y i j p =
      let m = path_from x path' (f y) i p in
      let eq : y ≡ m.end = apart y m.end j (end_inside x m.path m.end i m.leads) m.ends in
      (m.path, m.is, subst (IsPath names x m.path) (sym eq) m.leads)

  -- order
  before_to : (xs : List X) → All Inside xs → (x y : X) → Inside y → IsBefore xs x y → IsBefore (map f xs) (f x) (f y)
  before_to xs inside x y j (k, lt, is, others) = (
    k,
    (let l = length-map xs f in omega (arith, l, lt)),
    get_or-map f xs k x (f x) lt ∙ ap f is,
    (λ i le e.
        let less : i < length xs = omega (arith, le, lt) in
        others i le (apart (get_or xs i x) y (inside i x less) j (sym (get_or-map f xs i x (f x) less) ∙ e))),
  )

  not_after_to : (choices : List X) → All Inside choices → (chain other : List X) → AreInside chain → AreInside other → IsNotAfter names choices chain other
      → IsNotAfter names' (map f choices) (map f chain) (map f other)
  not_after_to choices inside [] other i j n = tt
  not_after_to choices inside (x ∷ chain) [] i j n = tt
  not_after_to choices inside (x ∷ chain) (y ∷ other) i j (inl both) =
      inl (
        ap f both.0,
        subst (λ l. IsNotAfter names' l (map f chain) (map f other)) (sym (same x i.0))
            (not_after_to (names x) (closed x i.0) chain other i.1 j.1 both.1),
      )
  not_after_to choices inside (x ∷ chain) (y ∷ other) i j (inr b) = inr (before_to choices inside x y j.0 b)

  module _ (roots : List X) (rooted : All Inside roots) where
    root_inside : (r : X) → Contains roots r → Inside r
    root_inside r c = All-contains Inside roots r rooted c

    pub reached_inside : (y : X) → IsReachedFrom names roots y → Inside y
    reached_inside y (r, c, path, p) = end_inside r path y (root_inside r c) p

    pub reached_to : (y : X) → IsReachedFrom names roots y → IsReachedFrom names' (map f roots) (f y)
    reached_to y (r, c, path, p) = (f r, contains_mapped f roots r c, map f path, path_to r path y (root_inside r c) p)

    pub reached_any : (y' : Y) → IsReachedFrom names' (map f roots) y' → (y : X) × (y' ≡ f y) × IsReachedFrom names roots y
    reached_any y' (r', c', path', p') =
        let (r, c, fr) = contains_unmapped f roots r' c' in
        let m = path_from r path' y' (root_inside r c) (subst (λ v. IsPath names' v path' y') (sym fr) p') in
        (m.end, m.ends, (r, c, m.path, m.leads))

    pub reached_back : (y : X) → Inside y → IsReachedFrom names' (map f roots) (f y) → IsReachedFrom names roots y
    reached_back y i h =
        let (z, e, r) = reached_any (f y) h in
        subst (IsReachedFrom names roots) (sym (apart y z i (reached_inside z r) e)) r

    -- the shortest chain there is that of here
    pub shortest_to : (t : X) (chain : List X) → IsShortestChain names roots t chain → IsShortestChain names' (map f roots) (f t) (map f chain)
    shortest_to t chain s =
        let there = root_inside s.root s.from in
        let ended = end_inside s.root s.path t there s.leads in
        record {
          root = f s.root;
          path = map f s.path;
          is = ap (map f) s.is;
          from = contains_mapped f roots s.root s.from;
          leads = path_to s.root s.path t there s.leads;
          shortest = λ r' other' c' p'.
              let (r, c, fr) = contains_unmapped f roots r' c' in
              let (other, is, q) = path_back r other' t (root_inside r c) ended (subst (λ v. IsPath names' v other' (f t)) (sym fr) p') in
              let le = s.shortest r other c q in
              let a = length-map s.path f in
              let b : length other' ≡ length other = ap length is ∙ length-map other f in omega (arith, le, a, b);
          first = λ r' other' c' p' even.
              let (r, c, fr) = contains_unmapped f roots r' c' in
              let (other, is, q) = path_back r other' t (root_inside r c) ended (subst (λ v. IsPath names' v other' (f t)) (sym fr) p') in
              let a = length-map s.path f in
              let b : length other' ≡ length other = ap length is ∙ length-map other f in
              let e : length other ≡ length s.path = omega (arith, even, a, b) in
              let n = not_after_to roots rooted (s.root ∷ s.path) (r ∷ other) (there, path_inside s.root s.path t there s.leads)
              (root_inside r c, path_inside r other t (root_inside r c) q) (s.first r other c q e) in
              subst (λ l. IsNotAfter names' (map f roots) (f s.root ∷ map f s.path) (r' ∷ l)) (sym is)
              (subst (λ v. IsNotAfter names' (map f roots) (f s.root ∷ map f s.path) (v ∷ map f other)) fr n);
        }

    module _ (targets : List X) (wanted : All Inside targets) (x : X) (there : Inside x) where
      target_inside : (t : X) → Contains targets t → Inside t
      target_inside t c = All-contains Inside targets t wanted c

      pub dominator_to : IsDominator names roots targets x → IsDominator names' (map f roots) (map f targets) (f x)
      dominator_to d = record {
        target = f d.target;
        asked = contains_mapped f targets d.target d.asked;
        reached = reached_to d.target d.reached;
        no_target = λ c'.
            let (t, c, e) = contains_unmapped f targets (f x) c' in
            d.no_target (subst (Contains targets) (apart t x (target_inside t c) there e) c);
        on_all = λ r' t' path' cr' ct' p'.
            let (r, cr, fr) = contains_unmapped f roots r' cr' in
            let (t, ct, ft) = contains_unmapped f targets t' ct' in
            let p : IsPath names' (f r) path' (f t) = subst (IsPath names' (f r) path') (sym ft) (subst (λ v. IsPath names' v path' t') (sym fr) p') in
            let (path, is, q) = path_back r path' t (root_inside r cr) (target_inside t ct) p in
            subst (λ l. Contains (r' ∷ l) (f x)) (sym is)
            (subst (λ v. Contains (v ∷ map f path) (f x)) fr (contains_mapped f (r ∷ path) x (d.on_all r t path cr ct q)));
      }

      pub dominator_back : IsDominator names' (map f roots) (map f targets) (f x) → IsDominator names roots targets x
      dominator_back d =
          let (target, asked, ft) = contains_unmapped f targets d.target d.asked in
          record {
            target = target;
            asked = asked;
            reached = reached_back target (target_inside target asked) (subst (IsReachedFrom names' (map f roots)) (sym ft) d.reached);
            no_target = λ c. d.no_target (contains_mapped f targets x c);
            on_all = λ r t path cr ct p.
                let i = root_inside r cr in
                let c' = d.on_all (f r) (f t) (map f path) (contains_mapped f roots r cr) (contains_mapped f targets t ct) (path_to r path t i p) in
                let (z, c, e) = contains_unmapped f (r ∷ path) (f x) c' in
                subst (Contains (r ∷ path)) (apart z x (one_inside (r ∷ path) z (i, path_inside r path t i p) c) there e) c;
          }
