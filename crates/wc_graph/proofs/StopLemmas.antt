-- Positions of the items of a way, and of targets.
use Rattle.std.proofs.Common.{◌≡◌, ℕ, ◌+◌, ◌-◌, ◌<◌, List, [], ◌∷◌, ◌++◌, length, take, get_or, set, refl, sym, ◌∙◌, ap, subst, inl, inr, arith, Option, Some, None, get_or-set_same, get_or-set_other}
use Rattle.std.specs.Prelude.{All, Contains, MatchOption}
use Rattle.std.specs.List.{slice_get}
use Rattle.std.proofs.lemmas.Bool.{cases_eq, cases_lt}
use Rattle.std.proofs.lemmas.List.{get_or-take, get_or_past, length-set, length-take-le, take_more}
use Rattle.std.proofs.lemmas.List.Elements.{Contains-append_left, Contains-get_or, Contains-push, Contains-push_cases}
use Rattle.std.proofs.lemmas.Option.{get_or_from_slice_get, same_Some, slice_get-get_or, slice_get_within}
use Rattle.wc_maps.proofs.OptionLemmas.{some_none}
use Rattle.wc_graph.specs.Private.Ways.{ArePositions, IsStopped, held_at, IsCut}
use Rattle.wc_graph.specs.Tree.{ArePlaces}
use Rattle.wc_graph.proofs.WayLemmas.{IsWayAt}
use Rattle.std.proofs.Common.{◌≡◌, ℕ, ◌+◌, ◌-◌, ◌<◌, ◌≤◌, List, length, get_or, refl, ◌∙◌, ap, subst, inl, inr, arith, Option, Some, None}

pub stopped_none : (last : ℕ) (old : List (Option ℕ)) → IsStopped [] last old old
stopped_none last old = record { sized = refl; at = λ x. inr ((λ c. let lt = c.1 in omega (arith, lt)), refl) }

pub stopped_more : (items : List ℕ) (i last : ℕ) (old now : List (Option ℕ)) → i < length items → get_or items i 0 < length old
    → IsStopped (take i items) last old now → IsStopped (take (i + 1) items) last old (set now (get_or items i 0) (Some last))
stopped_more items i last old now lt within s =
    let item = get_or items i 0 in
    let z = s.sized in
    let inside : item < length now = omega (arith, within, z) in
    subst (λ (z : List ℕ). IsStopped z last old (set now item (Some last))) (sym (take_more items i 0 lt)) (record {
      sized = length-set now item (Some last) ∙ s.sized;
      at = λ x. elim (cases_eq x item) [
        | inl same ↦ inl (
          subst (Contains (take i items ++ item ∷ [])) (sym same) (Contains-push (take i items) item),
          ap (held_at (set now item (Some last))) same ∙ get_or-set_same now item (Some last) None inside,
        )
        | inr other ↦
            let kept : held_at (set now item (Some last)) x ≡ held_at now x = get_or-set_other now item x (Some last) None other in
            elim (s.at x) [
              | inl (c, e) ↦ inl (Contains-append_left (take i items) (item ∷ []) x c, kept ∙ e)
              | inr (n, e) ↦ inr (
                (λ c. elim (Contains-push_cases (take i items) item x c) [ inl old ↦ n old | inr is ↦ other (sym is) ]),
                kept ∙ e,
              )
            ]
      ];
    })

-- all but the last of a way are at their positions, and the targets at the last
pub positions_are : (names : ℕ → List ℕ) (roots targets way : List ℕ) (size : ℕ) (old now : List (Option ℕ)) → IsWayAt names roots targets way
    → All (λ x. x < size) way → ArePlaces (take (length way - 1) way) size old → IsStopped targets (length way - 1) old now → ArePositions targets way size now
positions_are names roots targets way size old now w there p s = record {
  each = s.sized ∙ p.each;
  targets_at = λ x c. elim (s.at x) [ inl (is, e) ↦ e | inr (n, e) ↦ absurd (n c) ];
  way_at = λ k h. elim (s.at (get_or way k 0)) [
    | inl (is, e) ↦ absurd (w.only k h is)
    | inr (n, e) ↦ e ∙ placed k h
  ];
  from = λ x k h. elim (s.at x) [
    | inl (is, e) ↦ inl (is, (let same : length way - 1 ≡ k = same_Some (length way - 1) k (sym e ∙ h) in let some = w.some in omega (arith, same, some)))
    | inr (n, e) ↦ inr (at_place x k (sym e ∙ h))
  ];
}
  where
    count : ℕ
    count = length way - 1

    front : length (take (length way - 1) way) ≡ length way - 1
    front = length-take-le (length way - 1) way (omega arith)

    -- what is in front, by its position
    read : (k x : ℕ) → slice_get (take (length way - 1) way) k ≡ Some x → (k + 1 < length way) × (get_or way k 0 ≡ x)
    read k x e =
        let lt = slice_get_within (take (length way - 1) way) k x e in
        let less : k < length way - 1 = omega (arith, lt, front) in
        (omega (arith, less), sym (get_or-take (length way - 1) way k 0 less) ∙ get_or_from_slice_get (take (length way - 1) way) k x 0 e)

    by_place : (x : ℕ) → x < size → MatchOption (held_at old x) (¬ (Contains (take (length way - 1) way) x)) (λ k. slice_get (take (length way - 1) way) k ≡ Some x)
    by_place x lt = let z = p.each in p.at x (held_at old x) (slice_get-get_or old x None (omega (arith, lt, z)))

    at_place : (x k : ℕ) → held_at old x ≡ Some k → (k + 1 < length way) × (get_or way k 0 ≡ x)
    at_place x k e = elim (cases_lt x (length old)) [
      | inl lt ↦
          let z = p.each in
          let m = by_place x (omega (arith, lt, z)) in
          read k x (subst (λ o. MatchOption o (¬ (Contains (take (length way - 1) way) x)) (λ k. slice_get (take (length way - 1) way) k ≡ Some x)) e m)
      | inr past ↦ some_none k (sym e ∙ get_or_past old x None past)
    ]

    placed : (k : ℕ) → k + 1 < length way → held_at old (get_or way k 0) ≡ Some k
    placed k h = by (held_at old (get_or way k 0)) refl
      where
        x : ℕ
        x = get_or way k 0

        inside : x < size
        inside = there k 0 (omega (arith, h))

        contained : Contains (take (length way - 1) way) x
        contained = subst (Contains (take (length way - 1) way)) (get_or-take (length way - 1) way k 0 (omega (arith, h)))
            (Contains-get_or (take (length way - 1) way) k 0 (omega (arith, h, front)))

        by : (o : Option ℕ) → held_at old x ≡ o → o ≡ Some k
        by None e =
            let m = by_place x inside in
            absurd (subst (λ o. MatchOption o (¬ (Contains (take (length way - 1) way) x)) (λ k. slice_get (take (length way - 1) way) k ≡ Some x)) e m contained)
        by (Some j) e =
            let r = at_place x j e in
            let within = r.0 in
            ap Some (elim (cases_lt j k) [
              | inl less ↦ absurd (w.distinct j k less (omega (arith, h)) r.1)
              | inr more ↦ elim (cases_eq j k) [
                | inl same ↦ same
                | inr other ↦ absurd (w.distinct k j (omega (arith, more, other)) (omega (arith, within)) (sym r.1))
              ]
            ])

abbrev pub NoTarget : List (Option ℕ) → List ℕ → ℕ → Type 0
NoTarget places chain n = (targets : List ℕ) (size : ℕ) → ArePlaces targets size places → (j : ℕ) → j < n → ¬ (Contains targets (get_or chain j 0))

pub no_target : (places : List (Option ℕ)) (chain : List ℕ) → NoTarget places chain 0
no_target places chain = λ targets size p j lt. absurd (omega (arith, lt))

pub target_more : (places : List (Option ℕ)) (chain : List ℕ) (n : ℕ) → NoTarget places chain n → get_or chain n 0 < length places
    → get_or places (get_or chain n 0) None ≡ None → NoTarget places chain (n + 1)
target_more places chain n before lt free = λ targets size p j h. elim (cases_lt j n) [
  | inl less ↦ before targets size p j less
  | inr past ↦ (
      let now : n ≡ j = omega (arith, h, past) in
      subst (λ k. ¬ (Contains targets (get_or chain k 0))) now
      (p.at (get_or chain n 0) None (slice_get-get_or places (get_or chain n 0) None lt ∙ ap Some free))
      )
]

pub cut_found : (places : List (Option ℕ)) (chain : List ℕ) (n k : ℕ) → n < length chain → NoTarget places chain n → get_or chain n 0 < length places
    → get_or places (get_or chain n 0) None ≡ Some k → (targets : List ℕ) (size : ℕ) → ArePlaces targets size places → IsCut targets chain (n + 1)
cut_found places chain n k within before lt held targets size p =
    let x = get_or chain n 0 in
    let at : slice_get targets k ≡ Some (get_or chain n 0) = p.at (get_or chain n 0) (Some k) (slice_get-get_or places (get_or chain n 0) None lt ∙ ap Some held) in
    let back : n ≡ (n + 1) - 1 = omega arith in
    record {
      within = omega (arith, within);
      before = λ j h. before targets size p j (omega (arith, h));
      ends = inr (
        omega arith,
        subst (λ z. Contains targets (get_or chain z 0)) back
            (k, slice_get_within targets k (get_or chain n 0) at, get_or_from_slice_get targets k (get_or chain n 0) (get_or chain n 0) at),
      );
    }

pub cut_all : (places : List (Option ℕ)) (chain : List ℕ) (n : ℕ) → length chain ≤ n → NoTarget places chain n → (targets : List ℕ) (size : ℕ)
    → ArePlaces targets size places → IsCut targets chain (length chain)
cut_all places chain n over before targets size p = record {
  within = omega arith;
  before = λ j h. before targets size p j (omega (arith, h, over));
  ends = inl refl;
}
