-- A search finds what roots reach.
use Rattle.std.proofs.Common.{◌≡◌, ◌≢◌, ℕ, zero, suc, ◌+◌, ◌<◌, ◌≤◌, List, [], ◌∷◌, ◌++◌, length, refl, sym, ◌∙◌, ap, subst, Bool, true, false, ◌⊎◌, inl, inr}
use Rattle.std.proofs.Common.{arith, get_or, append_assoc, append-nil, length-append}
use Rattle.std.proofs.lemmas.List.{get_or_append_left}
use Rattle.std.specs.Prelude.{IsTrue, Contains, AllPairs, ◌↔◌}
use Rattle.std.proofs.Common.{◌-◌}
use Rattle.std.proofs.lemmas.List.{length_push, get_or-append_right, get_or-append-add, get_or_default}
use Rattle.wc_graph.specs.ShortestChains.{IsBefore}
use Rattle.std.proofs.lemmas.List.Elements.{Contains-append_left, Contains-append_right, Contains-append_cases, Contains-push, Contains-push_cases}
use Rattle.std.proofs.lemmas.List.Elements.{Contains-get_or}
use Rattle.std.proofs.lemmas.List.Quantifiers.{all_pairs_push}
use Rattle.std.proofs.lemmas.Bool.Decides.{eqb_tells}
use Rattle.std.proofs.lemmas.Bool.{both_ways, cases_lt}
use Rattle.wc_graph.specs.Reached.{IsPath, IsReachedFrom}
use Rattle.wc_graph.specs.Growth.{Inserts}
use Rattle.wc_graph.specs.Growth.{IsTied, HasGrown, IsGrown}

-- any two things are the same or not
abbrev pub IsDecided : Type 0 → Type 0
IsDecided X = (x y : X) → (x ≡ y) ⊎ (x ≢ y)

module _ {X : Type 0} where
  pub grown_none : (has : X → Bool) (found : List X) → IsTied has found → HasGrown found has found []
  grown_none has found tied = record {
    tied = tied;
    after = ([], sym (append-nil found));
    all = λ x c. absurd (omega (arith, c.1));
    only = λ x c. inl c;
    ordered = λ i j d h k l. absurd (omega arith);
  }

  pub grown_push : IsDecided X → (has has' : X → Bool) (found : List X) (x : X) → has x ≡ false → Inserts has has' x → IsTied has found
      → HasGrown found has' (found ++ x ∷ []) (x ∷ [])
  grown_push decide has has' found x new inserts tied = record {
    tied = record {
      is_listed = λ y h. elim (decide y x) [
        | inl e ↦ subst (Contains (found ++ x ∷ [])) (sym e) (Contains-push found x)
        | inr n ↦ Contains-append_left found (x ∷ []) y (tied.is_listed y (sym (inserts.others y n) ∙ h))
      ];
      is_in_set = λ y c. elim (Contains-push_cases found x y c) [
        | inl old ↦ inserts.others y (λ e. both_ways _ new (subst (λ z. IsTrue (has z)) e (tied.is_in_set y old))) ∙ tied.is_in_set y old
        | inr e ↦ subst (λ z. IsTrue (has' z)) e inserts.present
      ];
      distinct = all_pairs_push (λ a b. a ≢ b) found x tied.distinct
          (λ k d h e. both_ways _ new (subst (λ z. IsTrue (has z)) e (tied.is_in_set (get_or found k d) (Contains-get_or found k d h))));
    };
    after = (x ∷ [], refl);
    all = λ y c. Contains-append_right found (x ∷ []) y c;
    only = λ y c. Contains-append_cases found (x ∷ []) y c;
    ordered = λ i j d h k l. let e = length_push found x in absurd (omega (arith, e, h, k, l));
  }

  contains_one : (x y : X) → Contains (x ∷ []) y → x ≡ y
  contains_one x y (zero, lt, e) = e
  contains_one x y (suc k, lt, e) = absurd (omega (arith, lt))

  -- what is there is put in again
  pub grown_old : IsDecided X → (has has' : X → Bool) (found : List X) (x : X) → has x ≡ true → Inserts has has' x → IsTied has found
      → HasGrown found has' found (x ∷ [])
  grown_old decide has has' found x old inserts tied =
      let same : (y : X) → has' y ≡ has y = λ y. elim (decide y x) [
        | inl e ↦ subst (λ z. has' z ≡ has z) (sym e) (inserts.present ∙ sym old)
        | inr n ↦ inserts.others y n
      ] in
      record {
        tied = record {
          is_listed = λ y h. tied.is_listed y (sym (same y) ∙ h);
          is_in_set = λ y c. same y ∙ tied.is_in_set y c;
          distinct = tied.distinct;
        };
        after = ([], sym (append-nil found));
        all = λ y c. subst (Contains found) (contains_one x y c) (tied.is_listed x old);
        only = λ y c. inl c;
        ordered = λ i j d h k l. absurd (omega arith);
      }

  -- things of a list are before what is not in it
  before_others : (xs ys : List X) (x y : X) → Contains xs x → ¬ (Contains xs y) → IsBefore (xs ++ ys) x y
  before_others xs ys x y c n =
      let l = length-append xs ys in
      let k = c.1 in (
        c.0,
        omega (arith, l, k),
        get_or_append_left xs ys x c.0 c.1 ∙ c.2,
        λ j h e.
            let within : j < length xs = omega (arith, h, k) in
            n (subst (Contains xs) (sym (get_or_append_left xs ys x j within) ∙ e) (Contains-get_or xs j x within)),
      )

  before_left : (xs ys : List X) (x y : X) → IsBefore xs x y → IsBefore (xs ++ ys) x y
  before_left xs ys x y b =
      let l = length-append xs ys in
      let k = b.1 in (
        b.0,
        omega (arith, l, k),
        get_or_append_left xs ys x b.0 b.1 ∙ b.2,
        λ j h e.
            let within : j < length xs = omega (arith, h, k) in
            b.3 j h (sym (get_or_append_left xs ys x j within) ∙ e),
      )

  before_right : (xs ys : List X) (x y : X) → ¬ (Contains xs y) → IsBefore ys x y → IsBefore (xs ++ ys) x y
  before_right xs ys x y n b =
      let l = length-append xs ys in
      let k = b.1 in (
        length xs + b.0,
        omega (arith, l, k),
        get_or-append-add xs ys b.0 x ∙ b.2,
        λ j h e. elim (cases_lt j (length xs)) [
          | inl within ↦ n (subst (Contains xs) (sym (get_or_append_left xs ys x j within) ∙ e) (Contains-get_or xs j x within))
          | inr past ↦ b.3 (j - length xs) (omega (arith, h, past)) (sym (get_or-append_right xs ys (length xs) j x refl past) ∙ e)
        ],
      )

  -- what is past the things found before is none of them
  not_old : (found found' more : List X) (k : ℕ) (d : X) → AllPairs (λ x y. x ≢ y) found' → found' ≡ found ++ more → length found ≤ k → k < length found'
      → ¬ (Contains found (get_or found' k d))
  not_old found found' more k d pairs e h l c =
      let jl = c.1 in
      let jk : c.0 < k = omega (arith, jl, h) in
      pairs c.0 k (get_or found' k d) jk l
      (ap (λ z. get_or z c.0 (get_or found' k d)) e
      ∙ (get_or_append_left found more (get_or found' k d) c.0 jl ∙ (c.2 ∙ get_or_default found' k d (get_or found' k d) l)))

  pub grown_more : (found : List X) (has' : X → Bool) (found' : List X) (has'' : X → Bool) (found'' : List X) (xs ys : List X)
      → HasGrown found has' found' xs → HasGrown found' has'' found'' ys → HasGrown found has'' found'' (xs ++ ys)
  grown_more found has' found' has'' found'' xs ys a b = record {
    tied = b.tied;
    after = (a.after.0 ++ b.after.0, b.after.1 ∙ (ap (λ z. z ++ b.after.0) a.after.1 ∙ append_assoc found a.after.0 b.after.0));
    all = λ x c. elim (Contains-append_cases xs ys x c) [
      | inl l ↦ subst (λ z. Contains z x) (sym b.after.1) (Contains-append_left found' b.after.0 x (a.all x l))
      | inr r ↦ b.all x r
    ];
    only = λ x c. elim (b.only x c) [
      | inl l ↦ elim (a.only x l) [ inl p ↦ inl p | inr q ↦ inr (Contains-append_left xs ys x q) ]
      | inr r ↦ inr (Contains-append_right xs ys x r)
    ];
    ordered = λ i j d h k l. elim (cases_lt j (length found')) [
      | inl old ↦ let il : i < length found' = omega (arith, k, old) in
          subst (λ z. IsBefore (xs ++ ys) z (get_or found'' j d)) (sym (same i d il))
          (subst (λ z. IsBefore (xs ++ ys) (get_or found' i d) z) (sym (same j d old))
          (before_left xs ys (get_or found' i d) (get_or found' j d) (a.ordered i j d h k old)))
      | inr new ↦ elim (cases_lt i (length found')) [
        | inl il ↦ subst (λ z. IsBefore (xs ++ ys) z (get_or found'' j d)) (sym (same i d il))
            (before_others xs ys (get_or found' i d) (get_or found'' j d) (of_first i d h il) (not_of_first j d new l))
        | inr more ↦ before_right xs ys (get_or found'' i d) (get_or found'' j d) (not_of_first j d new l) (b.ordered i j d more k l)
      ]
    ];
  }
    where
      same : (k : ℕ) (d : X) → k < length found' → get_or found'' k d ≡ get_or found' k d
      same k d h = ap (λ z. get_or z k d) b.after.1 ∙ get_or_append_left found' b.after.0 d k h

      of_first : (k : ℕ) (d : X) → length found ≤ k → k < length found' → Contains xs (get_or found' k d)
      of_first k d h l = elim (a.only (get_or found' k d) (Contains-get_or found' k d l)) [
        | inl old ↦ absurd (not_old found found' a.after.0 k d a.tied.distinct a.after.1 h l old)
        | inr c ↦ c
      ]

      not_of_first : (k : ℕ) (d : X) → length found' ≤ k → k < length found'' → ¬ (Contains xs (get_or found'' k d))
      not_of_first k d h l c = not_old found' found'' b.after.0 k d b.tied.distinct b.after.1 h l (a.all (get_or found'' k d) c)

  pub only_if_tied : (has : X → Bool) (found : List X) (has' : X → Bool) (found' : List X) (has'' : X → Bool) (found'' : List X) (xs ys : List X)
      → IsGrown has found has' found' xs → IsGrown has' found' has'' found'' ys → IsGrown has found has'' found'' (xs ++ ys)
  only_if_tied has found has' found' has'' found'' xs ys a b tied = grown_more found has' found' has'' found'' xs ys (a tied) (b (a tied).tied)

  -- the things found so far, of which so many were gone through
  pub record IsSearched (names : X → List X) (roots : List X) (has : X → Bool) (found : List X) (next : ℕ) : Type 0 where
    pub tied : IsTied has found
    pub from : (x : X) → Contains roots x → Contains found x
    pub are_reached : (x : X) → Contains found x → IsReachedFrom names roots x
    pub passed : (k : ℕ) (d : X) → k < next → (y : X) → Contains (names (get_or found k d)) y → Contains found y
    pub within : next ≤ length found

  pub search_start : (names : X → List X) (roots : List X) (has : X → Bool) (found : List X) → HasGrown [] has found roots → IsSearched names roots has found 0
  search_start names roots has found g = record {
    tied = g.tied;
    from = g.all;
    are_reached = λ x c. elim (g.only x c) [ inl n ↦ absurd (omega (arith, n.1)) | inr r ↦ (x, r, [], refl) ];
    passed = λ k d h. absurd (omega arith);
    within = omega arith;
  }

  -- a path may go on
  pub longer : (names : X → List X) (x : X) (path : List X) (y z : X) → IsPath names x path y → Contains (names y) z → IsPath names x (path ++ z ∷ []) z
  longer names x [] y z w c = (subst (λ v. Contains (names v) z) (sym w) c, refl)
  longer names x (v ∷ path) y z w c = (w.0, longer names v path y z w.1 c)

  pub search_step : (names : X → List X) (roots : List X) (has : X → Bool) (found : List X) (next : ℕ) (has' : X → Bool) (found' : List X) (x : X)
      → next < length found → ((d : X) → get_or found next d ≡ x) → IsSearched names roots has found next → HasGrown found has' found' (names x)
      → IsSearched names roots has' found' (next + 1)
  search_step names roots has found next has' found' x lt at s g = record {
    tied = g.tied;
    from = λ y c. keep y (s.from y c);
    are_reached = λ y c. elim (g.only y c) [
      | inl old ↦ s.are_reached y old
      | inr new ↦ let r = s.are_reached x (subst (Contains found) (at x) (Contains-get_or found next x lt)) in
          (r.0, r.1, r.2 ++ y ∷ [], longer names r.0 r.2 x y r.3 new)
    ];
    passed = λ k d h y c. elim (below k h) [
      | inl old ↦ keep y (s.passed k d old y (subst (λ v. Contains (names v) y) (old_at k d (omega arith)) c))
      | inr same ↦ g.all y (subst (λ v. Contains (names v) y) (ap (λ i. get_or found' i d) same ∙ (old_at next d lt ∙ at d)) c)
    ];
    within = let e = ap length g.after.1 in omega (arith, length-append {A = X}, e);
  }
    where
      keep : (y : X) → Contains found y → Contains found' y
      keep y c = subst (λ z. Contains z y) (sym g.after.1) (Contains-append_left found g.after.0 y c)

      old_at : (k : ℕ) (d : X) → k < length found → get_or found' k d ≡ get_or found k d
      old_at k d h = ap (λ z. get_or z k d) g.after.1 ∙ get_or_append_left found g.after.0 d k h

      below : (k : ℕ) → k < next + 1 → (k < next) ⊎ (k ≡ next)
      below k h = grind arith

  -- what contains the roots, and what each of its things names, contains what they reach
  closed : (names : X → List X) (found : List X) → ((x y : X) → Contains found x → Contains (names x) y → Contains found y)
      → (x : X) (path : List X) (y : X) → Contains found x → IsPath names x path y → Contains found y
  closed names found c x [] y h w = subst (Contains found) w h
  closed names found c x (z ∷ path) y h w = closed names found c z path y (c x z h w.0) w.1

  pub search_end : (names : X → List X) (roots : List X) (has : X → Bool) (found : List X) (next : ℕ) → length found ≤ next
      → IsSearched names roots has found next
      → (x : X) → IsTrue (has x) ↔ IsReachedFrom names roots x
  search_end names roots has found next over s x = (
    (λ h. s.are_reached x (s.tied.is_listed x h)),
    (λ r. s.tied.is_in_set x (closed names found
        (λ a b ca cb. s.passed ca.0 a (omega (arith, ca.1, over)) b (subst (λ v. Contains (names v) b) (sym ca.2) cb)) r.0 r.2 x (s.from r.0 r.1) r.3)),
  )

-- what `insert` answered
