-- Chains of things that are numbered: those of their numbers are theirs.
use Rattle.std.proofs.Common.{◌≡◌, ℕ, zero, suc, ◌<◌, List, [], ◌∷◌, length, map, get_or, refl, sym, ◌∙◌, ap, subst, inl, inr, arith}
use Rattle.std.specs.Prelude.{All, Contains}
use Rattle.std.proofs.lemmas.List.{length-map, get_or_default, get_or-map}
use Rattle.std.proofs.lemmas.List.Elements.{All-contains}
use Rattle.wc_graph.specs.ShortestChains.{IsBefore, IsNotAfter, IsShortestChain}
use Rattle.wc_graph.specs.Reached.{IsPath, IsReachedFrom}

-- a thing among numbered ones has its number among the numbers, and a number there is that of a thing
module _ {X : Type 0} (num : X → ℕ) where
  pub number_in : (xs : List X) (x : X) → Contains xs x → Contains (map num xs) (num x)
  number_in xs x (k, lt, e) =
      let l = length-map xs num in (k, omega (arith, lt, l), get_or-map num xs k x (num x) lt ∙ ap num e)

  pub thing_in : (xs : List X) (n : ℕ) → Contains (map num xs) n → (x : X) × Contains xs x × (num x ≡ n)
  thing_in [] n (k, lt, e) = absurd (omega (arith, lt))
  thing_in (y ∷ ys) n (k, lt, e) =
      let l = length-map (y ∷ ys) num in
      let within : k < length (y ∷ ys) = omega (arith, lt, l) in
      (get_or (y ∷ ys) k y, (k, within, get_or_default (y ∷ ys) k (get_or (y ∷ ys) k y) y within), sym (get_or-map num (y ∷ ys) k y n within) ∙ e)

-- things of which P holds have numbers of their own, from which they are had back, and name things of which P holds
module _ {X : Type 0} (num : X → ℕ) (back : ℕ → X) (P : X → Type 0) (same : (x : X) → P x → back (num x) ≡ x)
    (names : X → List X) (kept : (x y : X) → P x → Contains (names x) y → P y) where
  -- what the numbers name
  abbrev pub numbers : ℕ → List ℕ
  numbers n = map num (names (back n))

  named_back : (x : X) → P x → numbers (num x) ≡ map num (names x)
  named_back x p = ap (λ y. map num (names y)) (same x p)

  pub number_one : (x y : X) → P x → P y → num x ≡ num y → x ≡ y
  number_one x y p q e = sym (same x p) ∙ (ap back e ∙ same y q)

  -- a path of things is one of their numbers
  pub path_numbers : (x : X) (path : List X) (y : X) → P x → IsPath names x path y → IsPath numbers (num x) (map num path) (num y)
  path_numbers x [] y p w = ap num w
  path_numbers x (z ∷ zs) y p w = (
    subst (λ ns. Contains ns (num z)) (sym (named_back x p)) (number_in num (names x) z w.0),
    path_numbers z zs y (kept x z p w.0) w.1,
  )

  -- a path of numbers is one of things
  pub record IsPathOf (x : X) (path : List ℕ) (n : ℕ) : Type 0 where
    pub things : List X
    pub last : X
    pub is : path ≡ map num things
    pub ends : num last ≡ n
    pub holds : P last
    pub all : All P things
    pub leads : IsPath names x things last

  none_hold : All P []
  none_hold k d lt = absurd (omega (arith, lt))

  pub more_hold : (x : X) (xs : List X) → P x → All P xs → All P (x ∷ xs)
  more_hold x xs p all zero d lt = p
  more_hold x xs p all (suc k) d lt = all k d (omega (arith, lt))

  pub path_things : (x : X) (path : List ℕ) (n : ℕ) → P x → IsPath numbers (num x) path n → IsPathOf x path n
  path_things x [] n p w = record { things = []; last = x; is = refl; ends = w; holds = p; all = none_hold; leads = refl }
  path_things x (m ∷ path) n p w =
      let z = thing_in num (names x) m (subst (λ ns. Contains ns m) (named_back x p) w.0) in
      let q = kept x z.0 p z.1 in
      let r = path_things z.0 path n q (subst (λ k. IsPath numbers k path n) (sym z.2) w.1) in
      record {
        things = z.0 ∷ r.things;
        last = r.last;
        is = ap (λ k. k ∷ path) (sym z.2) ∙ ap (λ ks. num z.0 ∷ ks) r.is;
        ends = r.ends;
        holds = r.holds;
        all = more_hold z.0 r.things q r.all;
        leads = (z.1, r.leads);
      }

  -- what comes before another by its number does so by itself
  before_things : (xs : List X) (x y : X) → All P xs → P x → IsBefore (map num xs) (num x) (num y) → IsBefore xs x y
  before_things xs x y all p (k, lt, e, others) =
      let l = length-map xs num in
      let within : k < length xs = omega (arith, lt, l) in (
        k,
        within,
        number_one (get_or xs k x) x (all k x within) p (sym (get_or-map num xs k x (num x) within) ∙ e),
        λ j le h. others j le (get_or-map num xs j x (num x) (omega (arith, le, within)) ∙ ap num h),
      )

  names_hold : (x : X) → P x → All P (names x)
  names_hold x p k d lt = kept x (get_or (names x) k d) p (k, lt, get_or_default (names x) k (get_or (names x) k d) d lt)

  not_after_things : (choices a b : List X) → All P choices → All P a → All P b → IsNotAfter numbers (map num choices) (map num a) (map num b)
      → IsNotAfter names choices a b
  not_after_things choices [] b all pa pb w = w
  not_after_things choices (x ∷ a) [] all pa pb w = w
  not_after_things choices (x ∷ a) (y ∷ b) all pa pb w =
      let p : P x = pa 0 x (omega arith) in
      let q : P y = pb 0 y (omega arith) in
      elim w [
        | inl r ↦ inl (
          number_one x y p q r.0,
          not_after_things (names x) a b (names_hold x p) (λ k d lt. pa (suc k) d (omega (arith, lt))) (λ k d lt. pb (suc k) d (omega (arith, lt)))
              (subst (λ ns. IsNotAfter numbers ns (map num a) (map num b)) (named_back x p) r.1),
        )
        | inr r ↦ inr (before_things choices x y all p r)
      ]

  pub path_holds : (x : X) (path : List X) (y : X) → P x → IsPath names x path y → All P path
  path_holds x [] y p w = none_hold
  path_holds x (z ∷ zs) y p w = let q = kept x z p w.0 in more_hold z zs q (path_holds z zs y q w.1)

  back_all : (xs : List X) → All P xs → map back (map num xs) ≡ xs
  back_all [] all = refl
  back_all (x ∷ xs) all =
      ap (λ y. y ∷ map back (map num xs)) (same x (all 0 x (omega arith))) ∙ ap (λ ys. x ∷ ys) (back_all xs (λ k d lt. all (suc k) d (omega (arith, lt))))

  module _ (roots : List X) (rooted : All P roots) where
    pub chain_things : (target : X) (chain : List ℕ) → P target → IsShortestChain numbers (map num roots) (num target) chain
        → IsShortestChain names roots target (map back chain)
    chain_things target chain t c =
        let r = thing_in num roots c.root c.from in
        let p = All-contains P roots r.0 rooted r.1 in
        let w = path_things r.0 c.path (num target) p (subst (λ k. IsPath numbers k c.path (num target)) (sym r.2) c.leads) in
        let end : w.last ≡ target = number_one w.last target w.holds t w.ends in
        let size : length c.path ≡ length w.things = ap length w.is ∙ length-map w.things num in
        record {
          root = r.0;
          path = w.things;
          is = ap (map back) c.is ∙ (ap (λ k. back k ∷ map back c.path) (sym r.2) ∙ (ap (λ y. y ∷ map back c.path) (same r.0 p)
              ∙ ap (λ ys. r.0 ∷ ys) (ap (map back) w.is ∙ back_all w.things w.all)));
          from = r.1;
          leads = subst (IsPath names r.0 w.things) end w.leads;
          shortest = λ s other h v.
              let q = All-contains P roots s rooted h in
              let short = c.shortest (num s) (map num other) (number_in num roots s h) (path_numbers s other target q v) in
              let l = length-map other num in
              omega (arith, short, l, size);
          first = λ s other h v e.
              let q = All-contains P roots s rooted h in
              let l = length-map other num in
              let f = c.first (num s) (map num other) (number_in num roots s h) (path_numbers s other target q v) (l ∙ (e ∙ sym size)) in
              not_after_things roots (r.0 ∷ w.things) (s ∷ other) rooted (more_hold r.0 w.things p w.all) (more_hold s other q (path_holds s other target q v))
              (subst (λ ks. IsNotAfter numbers (map num roots) (num r.0 ∷ ks) (num s ∷ map num other)) w.is
              (subst (λ k. IsNotAfter numbers (map num roots) (k ∷ c.path) (num s ∷ map num other)) (sym r.2) f));
        }

    -- a chain of numbers is that of things of which P holds
    pub chain_numbers : (target : X) (chain : List ℕ) → P target → IsShortestChain numbers (map num roots) (num target) chain
        → (chain ≡ map num (map back chain)) × All P (map back chain)
    chain_numbers target chain t c =
        let r = thing_in num roots c.root c.from in
        let p = All-contains P roots r.0 rooted r.1 in
        let w = path_things r.0 c.path (num target) p (subst (λ k. IsPath numbers k c.path (num target)) (sym r.2) c.leads) in
        let all = more_hold r.0 w.things p w.all in
        let is : chain ≡ map num (r.0 ∷ w.things) = c.is ∙ (ap (λ k. k ∷ c.path) (sym r.2) ∙ ap (λ ks. num r.0 ∷ ks) w.is) in
        let had : map back chain ≡ r.0 ∷ w.things = ap (map back) is ∙ back_all (r.0 ∷ w.things) all in
        (is ∙ ap (map num) (sym had), subst (All P) (sym had) all)

    pub reached_number : (x : X) → IsReachedFrom names roots x → IsReachedFrom numbers (map num roots) (num x)
    reached_number x (r, h, path, w) = (num r, number_in num roots r h, map num path, path_numbers r path x (All-contains P roots r rooted h) w)

    pub reached_thing : (n : ℕ) → IsReachedFrom numbers (map num roots) n → (x : X) × IsReachedFrom names roots x × P x × (num x ≡ n)
    reached_thing n (m, h, path, w) =
        let r = thing_in num roots m h in
        let p = All-contains P roots r.0 rooted r.1 in
        let v = path_things r.0 path n p (subst (λ k. IsPath numbers k path n) (sym r.2) w) in
        (v.last, (r.0, r.1, v.things, v.leads), v.holds, v.ends)
