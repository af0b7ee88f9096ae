-- A tree of chains that grows.
use Rattle.std.proofs.Common.{◌≡◌, ◌≢◌, ℕ, zero, suc, ◌+◌, ◌<◌, ◌≤◌, List, [], ◌∷◌, ◌++◌, length, set, get_or, Option, Some, None, Bool, true, false, not, is_some, refl, sym, ◌∙◌, ap, subst, inl, inr, ◌⊎◌, arith, append_assoc, append-nil}
use Rattle.std.specs.Prelude.{All, Contains, take, ◌↔◌}
use Rattle.std.specs.List.{slice_get}
use Rattle.std.proofs.lemmas.Bool.{cases_eq, cases_lt}
use Rattle.std.specs.Prelude.{replicate}
use Rattle.std.proofs.lemmas.List.{length-append, length-replicate, length-set, length_push, take-append-le, take_all, take_more}
use Rattle.std.proofs.lemmas.List.Elements.{All-append, All-cons, All-contains, All-nil, All-weaker, Contains-append_left, Contains-append_right, Contains-get_or, Contains-push, Contains-push_cases, filter_map-append}
use Rattle.std.proofs.lemmas.List.Quantifiers.{all_pairs_push}
use Rattle.std.proofs.lemmas.Option.{get_or_from_slice_get, slice_get-get_or, slice_get_read, slice_get_within, same_Some}
use Rattle.wc_graph.proofs.ListLemmas.{get_set_other}
use Rattle.wc_graph.proofs.ListLemmas.{set_same}
use Rattle.wc_graph.proofs.ListLemmas.{get_front, get_last}
use Rattle.wc_graph.specs.ChainMarks.{IsOnChain, before as on_before, here as on_here}
use Rattle.wc_graph.specs.ChainTree.{IsChainTree, IsEnd, IsFromOf, given}
use Rattle.wc_graph.specs.Private.ChainTree.{AreFor, IsGrowthOf, IsNewPart, none_new, new_root, one_new}
use Rattle.wc_graph.specs.declared.chain_tree.ChainTree.{ChainTree}
use Rattle.wc_graph.proofs.ChainMarkLemmas.{on_among, on_more}
use Rattle.wc_graph.proofs.OnChainLemmas.{mapped_from}

-- what is in a list with one more: what was, or the last
pub push_cases : {A : Type 0} (xs : List A) (y : A) (i : ℕ) (x : A) → slice_get (xs ++ y ∷ []) i ≡ Some x → (slice_get xs i ≡ Some x) ⊎ ((i ≡ length xs) × (x ≡ y))
push_cases [] y zero x e = inr (refl, sym (same_Some y x e))
push_cases [] y (suc i) x e = absurd cc
push_cases (z ∷ xs) y zero x e = inl e
push_cases (z ∷ xs) y (suc i) x e = elim (push_cases xs y i x e) [ inl old ↦ inl old | inr new ↦ inr (ap suc new.0, new.1) ]

pub none_of : {A : Type 0} (o : Option A) (b : Bool) → is_some o ≡ not b → b ≡ true → o ≡ None
none_of None b tested e = refl
none_of (Some x) b tested e = absurd (let eq : true ≡ not true = tested ∙ ap not e in cc)

module _ (finder : List ℕ) where
  -- the one before a position, where the places are these
  abbrev pub IsFromBy : List (Option ℕ) → ℕ → Option ℕ → Type 0
  IsFromBy places k None = slice_get finder k ≡ Some k
  IsFromBy places k (Some place) = (j : ℕ) × (slice_get finder k ≡ Some j) × (j ≢ k) × (slice_get places j ≡ Some (Some place))

  -- positions that were walked from one back to another
  abbrev pub IsWalkedBack : List (Option ℕ) → ℕ → ℕ → List ℕ → Type 0
  IsWalkedBack places target at walked =
      (rest : List ℕ) (after : Option ℕ) → IsNewPart finder places at rest after → IsNewPart finder places target (walked ++ rest) after

  pub back_step : (places : List (Option ℕ)) (target at j : ℕ) (walked : List ℕ) → slice_get places at ≡ Some None → slice_get finder at ≡ Some j → j ≢ at
      → IsWalkedBack places target at walked → IsWalkedBack places target j (walked ++ at ∷ [])
  back_step places target at j walked none is other w = λ rest after p.
      subst (λ z. IsNewPart finder places target z after) (sym (append_assoc walked (at ∷ []) rest)) (w (at ∷ rest) after (one_new at j rest after none is other p))

  pub back_root : (places : List (Option ℕ)) (target at : ℕ) (walked : List ℕ) → slice_get places at ≡ Some None → slice_get finder at ≡ Some at
      → IsWalkedBack places target at walked → IsNewPart finder places target (walked ++ at ∷ []) None
  back_root places target at walked none own w = w (at ∷ []) None (new_root at none own)

  pub back_placed : (places : List (Option ℕ)) (target at place : ℕ) (walked : List ℕ) → slice_get places at ≡ Some (Some place)
      → IsWalkedBack places target at walked → IsNewPart finder places target walked (Some place)
  back_placed places target at place walked is w =
      subst (λ z. IsNewPart finder places target z (Some place)) (append-nil walked) (w [] (Some place) (none_new at place is))

  pub back_end : (places : List (Option ℕ)) (target at : ℕ) (walked : List ℕ) (o : Option ℕ) (b : Bool) → slice_get places at ≡ Some o → is_some o ≡ not b → b ≡ false
      → IsWalkedBack places target at walked → IsNewPart finder places target walked o
  back_end places target at walked None b is tested e w = absurd (let eq : false ≡ not false = tested ∙ ap not e in cc)
  back_end places target at walked (Some place) b is tested e w = back_placed places target at place walked is w

  -- where no position is new, the first has a place
  pub none_left : {places : List (Option ℕ)} {k : ℕ} {new : List ℕ} {after : Option ℕ} → IsNewPart finder places k new after → new ≡ []
      → (place : ℕ) × (after ≡ Some place) × (slice_get places k ≡ Some (Some place))
  none_left (none_new k place is) e = (place, refl, is)
  none_left (new_root k none own) e = absurd cc
  none_left (one_new k j new after none is other p) e = absurd cc

  no_push : {A : Type 0} (xs : List A) (x : A) → [] ≡ xs ++ x ∷ [] → ⊥
  no_push [] x e = cc
  no_push (y ∷ xs) x e = cc

  -- the last of the new positions has no place, and what is before it is known
  pub last_from : {places : List (Option ℕ)} {k : ℕ} {new : List ℕ} {after : Option ℕ} → IsNewPart finder places k new after
      → (front : List ℕ) (m : ℕ) → new ≡ front ++ m ∷ [] → (slice_get places m ≡ Some None) × IsFromBy places m after
  last_from (none_new k place is) front m e = absurd (no_push front m e)
  last_from {places} (new_root k none own) [] m e =
      let same : k ≡ m = cc in
      subst (λ z. (slice_get places z ≡ Some None) × (slice_get finder z ≡ Some z)) same (none, own)
  last_from (new_root k none own) (x ∷ front) m e = absurd (no_push front m (let same : [] ≡ front ++ m ∷ [] = cc in same))
  last_from {places} (one_new k j new after none is other p) [] m e =
      let same : k ≡ m = cc in
      let ended : new ≡ [] = cc in
      let (place, eq, at) = none_left p ended in
      subst (λ z. (slice_get places z ≡ Some None) × IsFromBy places z after) same
      (none, subst (IsFromBy places k) (sym eq) (j, is, other, at))
  last_from (one_new k j new after none is other p) (x ∷ front) m e = last_from p front m (let same : new ≡ front ++ m ∷ [] = cc in same)

  -- the new positions are on the chain to the first of them
  new_on : {places : List (Option ℕ)} {k : ℕ} {new : List ℕ} {after : Option ℕ} → IsNewPart finder places k new after → All (IsOnChain finder (k ∷ [])) new
  new_on (none_new k place is) = All-nil (IsOnChain finder (k ∷ []))
  new_on (new_root k none own) = All-cons (IsOnChain finder (k ∷ [])) k [] (on_here (Contains-push [] k)) (All-nil (IsOnChain finder (k ∷ [])))
  new_on (one_new k j new after none is other p) =
      let first : IsOnChain finder (k ∷ []) k = on_here (Contains-push [] k) in
      All-cons (IsOnChain finder (k ∷ [])) k new first
      (All-weaker (IsOnChain finder (j ∷ [])) (IsOnChain finder (k ∷ []))
      (on_more finder (j ∷ []) (k ∷ []) (All-cons (IsOnChain finder (k ∷ [])) j [] (on_before k first is) (All-nil (IsOnChain finder (k ∷ [])))))
      new (new_on p))

  pub last_on : {places : List (Option ℕ)} {k : ℕ} {new : List ℕ} {after : Option ℕ} → IsNewPart finder places k new after
      → (front : List ℕ) (m : ℕ) → new ≡ front ++ m ∷ [] → IsOnChain finder (k ∷ []) m
  last_on {k} {new} p front m e =
      All-contains (IsOnChain finder (k ∷ [])) new m (new_on p) (subst (λ z. Contains z m) (sym e) (Contains-push front m))

  module _ (earlier : (k : ℕ) → k < length finder → get_or finder k 0 ≤ k) where
    less : (k j : ℕ) → slice_get finder k ≡ Some j → j ≢ k → j < k
    less k j is other =
        let le = earlier k (slice_get_within finder k j is) in
        let same = get_or_from_slice_get finder k j 0 is in
        elim (cases_eq j k) [
          | inl eq ↦ absurd (other eq)
          | inr apart ↦ omega (arith, le, same, apart)
        ]

    -- the new positions are no later than the first
    low : {places : List (Option ℕ)} {k : ℕ} {new : List ℕ} {after : Option ℕ} → IsNewPart finder places k new after
        → (front : List ℕ) (m : ℕ) → new ≡ front ++ m ∷ [] → m ≤ k
    low (none_new k place is) front m e = absurd (no_push front m e)
    low (new_root k none own) [] m e = let same : k ≡ m = cc in omega (arith, same)
    low (new_root k none own) (x ∷ front) m e = absurd (no_push front m (let same : [] ≡ front ++ m ∷ [] = cc in same))
    low (one_new k j new after none is other p) [] m e = let same : k ≡ m = cc in omega (arith, same)
    low (one_new k j new after none is other p) (x ∷ front) m e =
        let le = low p front m (let same : new ≡ front ++ m ∷ [] = cc in same) in
        let lt = less k j is other in
        omega (arith, le, lt)

    -- once the last has its place, those before it are left
    pub last_placed : {places : List (Option ℕ)} {k : ℕ} {new : List ℕ} {after : Option ℕ} (placed : List (Option ℕ)) (place : ℕ)
        → IsNewPart finder places k new after → (front : List ℕ) (m : ℕ) → new ≡ front ++ m ∷ [] → slice_get placed m ≡ Some (Some place)
        → ((x : ℕ) → x ≢ m → slice_get placed x ≡ slice_get places x) → IsNewPart finder placed k front (Some place)
    last_placed placed place (none_new k other is) front m e here kept = absurd (no_push front m e)
    last_placed placed place (new_root k none own) [] m e here kept =
        none_new k place (let same : k ≡ m = cc in subst (λ z. slice_get placed z ≡ Some (Some place)) (sym same) here)
    last_placed placed place (new_root k none own) (x ∷ front) m e here kept = absurd (no_push front m (let same : [] ≡ front ++ m ∷ [] = cc in same))
    last_placed placed place (one_new k j new after none is other p) [] m e here kept =
        none_new k place (let same : k ≡ m = cc in subst (λ z. slice_get placed z ≡ Some (Some place)) (sym same) here)
    last_placed placed place (one_new k j new after none is other p) (x ∷ front) m e here kept =
        let head : k ≡ x = cc in
        let rest : new ≡ front ++ m ∷ [] = cc in
        let le = low p front m rest in
        let lt = less k j is other in
        let apart : k ≢ m = λ eq. omega (arith, le, lt, eq) in
        subst (λ z. IsNewPart finder placed k (z ∷ front) (Some place)) head
        (one_new k j front (Some place) (kept k apart ∙ none) is other (last_placed placed place p front m rest here kept))

  -- a position is put last
  module _ (order : List ℕ) (from places : List (Option ℕ)) (g : IsGrowthOf finder order from places) (m : ℕ) (after : Option ℕ)
      (none : slice_get places m ≡ Some None) (is : IsFromBy places m after) where
    older : (place k : ℕ) (before : Option ℕ) → IsFromOf finder order place k before → IsFromOf finder (order ++ m ∷ []) place k before
    older place k None e = e
    older place k (Some q) (j, f, other, lt, at) = (j, f, other, lt, get_front order (m ∷ []) q j at)

    newest : (before : Option ℕ) → IsFromBy places m before → IsFromOf finder (order ++ m ∷ []) (length order) m before
    newest None own = own
    newest (Some q) (j, f, other, at) =
        let there = g.placed j q at in
        (j, f, other, slice_get_within order q j there, get_front order (m ∷ []) q j there)

    pub grown_put : IsGrowthOf finder (order ++ m ∷ []) (from ++ after ∷ []) (set places m (Some (length order)))
    grown_put =
        let inside : m < length places = slice_get_within places m None none in
        record {
          sized = length-set places m (Some (length order)) ∙ g.sized;
          even = length_push from after ∙ (ap (λ n. n + 1) g.even ∙ sym (length_push order m));
          once = all_pairs_push (λ j k. j ≢ k) order m g.once (λ k d lt e. g.missing m none (subst (Contains order) e (Contains-get_or order k d lt)));
          froms = λ place k e. elim (push_cases order m place k e) [
            | inl old ↦ (let (before, at, f) = g.froms place k old in (before, get_front from (after ∷ []) place before at, older place k before f))
            | inr last ↦ (
              after,
              subst (λ z. slice_get (from ++ after ∷ []) z ≡ Some after) (g.even ∙ sym last.0) (get_last from after),
              subst (λ z. IsFromOf finder (order ++ m ∷ []) place z after) (sym last.1)
                  (subst (λ z. IsFromOf finder (order ++ m ∷ []) z m after) (sym last.0) (newest after is)),
            )
          ];
          placed = λ k place e. elim (cases_eq k m) [
            | inl same ↦
                (let eq : Some (length order) ≡ Some place =
                same_Some (Some (length order)) (Some place) (sym (set_same places m (Some (length order)) inside)
                ∙ subst (λ z. slice_get (set places m (Some (length order))) z ≡ Some (Some place)) same e) in
                subst (λ z. slice_get (order ++ m ∷ []) z ≡ Some k) (same_Some (length order) place eq)
                (get_last order m ∙ ap (λ z. Some z) (sym same)))
            | inr other ↦ get_front order (m ∷ []) place k (g.placed k place (sym (get_set_other places m k (Some (length order)) other) ∙ e))
          ];
          missing = λ k e. elim (cases_eq k m) [
            | inl same ↦
                (λ h. let eq : Some (length order) ≡ None =
                same_Some (Some (length order)) None (sym (set_same places m (Some (length order)) inside)
                ∙ subst (λ z. slice_get (set places m (Some (length order))) z ≡ Some None) same e) in cc)
            | inr other ↦
                (λ h. elim (Contains-push_cases order m k h) [
                  | inl old ↦ g.missing k (sym (get_set_other places m k (Some (length order)) other) ∙ e) old
                  | inr eq ↦ other (sym eq)
                ])
          ];
        }

end_more : (order more : List ℕ) (o end : Option ℕ) → IsEnd order o end → IsEnd (order ++ more) o end
end_more order more None end e = e
end_more order more (Some k) end (place, is, at) = (place, is, get_front order more place k at)

-- what is in the first part of a list
at_front : {A : Type 0} (n : ℕ) (xs : List A) (k : ℕ) (x : A) → slice_get (take n xs) k ≡ Some x → (k < n) × (slice_get xs k ≡ Some x)
at_front zero xs k x e = absurd cc
at_front (suc n) [] k x e = absurd cc
at_front (suc n) (y ∷ xs) zero x e = (omega arith, e)
at_front (suc n) (y ∷ xs) (suc k) x e = let r = at_front n xs k x e in let lt = r.0 in (omega (arith, lt), r.1)

-- so many positions, the first, are those on the chains to the first n targets
abbrev AreFirst : List ℕ → List (Option ℕ) → List ℕ → ℕ → Type 0
AreFirst finder targets order n =
    (count : ℕ) × (count ≤ length order) × ((k : ℕ) → Contains (take count order) k ↔ IsOnChain finder (given (take n targets)) k)

first_more : (finder : List ℕ) (targets : List (Option ℕ)) (order more : List ℕ) (n : ℕ) → AreFirst finder targets order n
    → AreFirst finder targets (order ++ more) n
first_more finder targets order more n (count, le, are) = (
  count,
  (let sizes = length-append order more in omega (arith, le, sizes)),
  λ k.
      subst (λ z. Contains z k ↔ IsOnChain finder (given (take n targets)) k) (sym (take-append-le count order more le)) (are k),
)

-- what is on the chain to one more target
new_used : (finder ts : List ℕ) (target : Option ℕ) (more : List ℕ) → AreFor finder target more → All (IsOnChain finder (ts ++ given (target ∷ []))) more
new_used finder ts None more none =
    subst (All (IsOnChain finder (ts ++ given (None ∷ [])))) (sym none) (All-nil (IsOnChain finder (ts ++ given (None ∷ []))))
new_used finder ts (Some k) more all =
    All-weaker (IsOnChain finder (k ∷ [])) (IsOnChain finder (ts ++ k ∷ []))
    (on_among finder (k ∷ []) (ts ++ k ∷ []) (λ i c. Contains-append_right ts (k ∷ []) i c)) more all

used_more : (finder : List ℕ) (targets : List (Option ℕ)) (order more : List ℕ) (index : ℕ) (target : Option ℕ) → slice_get targets index ≡ Some target
    → All (IsOnChain finder (given (take index targets))) order → AreFor finder target more
    → All (IsOnChain finder (given (take (index + 1) targets))) (order ++ more)
used_more finder targets order more index target is used new =
    let ts = given (take index targets) in
    let one = given (target ∷ []) in
    let split : given (take (index + 1) targets) ≡ ts ++ one =
    ap given (take_more targets index target (slice_get_within targets index target is)
    ∙ ap (λ o. take index targets ++ o ∷ []) (get_or_from_slice_get targets index target target is))
    ∙ filter_map-append (λ (o : Option ℕ). o) (take index targets) (target ∷ []) in
    subst (λ z. All (IsOnChain finder z) (order ++ more)) (sym split)
    (All-append (IsOnChain finder (ts ++ one)) order more
    (All-weaker (IsOnChain finder ts) (IsOnChain finder (ts ++ one)) (on_among finder ts (ts ++ one) (λ i c. Contains-append_left ts one i c)) order used)
    (new_used finder ts target more new))

-- the finder of a position that has the one before it
finder_in : (finder order : List ℕ) (place k j : ℕ) (earlier : Option ℕ) → Contains order k → IsFromOf finder order place k earlier
    → slice_get finder k ≡ Some j → Contains order j
finder_in finder order place k j None c own e = subst (Contains order) (same_Some k j (sym own ∙ e)) c
finder_in finder order place k j (Some earlier) c (i, is, other, lt, at) e =
    let there : Contains order i = (earlier, slice_get_within order earlier i at, get_or_from_slice_get order earlier i i at) in
    subst (Contains order) (same_Some i j (sym is ∙ e)) there

-- the chains to the targets below a position were added
pub record IsTreeTo (finder : List ℕ) (targets : List (Option ℕ)) (order : List ℕ) (from places found : List (Option ℕ)) (index : ℕ) : Type 0 where
  pub growth : IsGrowthOf finder order from places
  pub used : All (IsOnChain finder (given (take index targets))) order
  pub in_order : (n : ℕ) → n < index → AreFirst finder targets order n
  pub each : length found ≡ index
  pub ends : (n : ℕ) (o : Option ℕ) → n < index → slice_get targets n ≡ Some o → (end : Option ℕ) × (slice_get found n ≡ Some end) × IsEnd order o end

module _ (finder : List ℕ) (targets : List (Option ℕ)) (order : List ℕ) (from places ends : List (Option ℕ)) (index : ℕ)
    (t : IsTreeTo finder targets order from places ends index) where
  target_in : (k : ℕ) → Contains (given (take index targets)) k → Contains order k
  target_in k c =
      let (o, there, is) = mapped_from (λ (o : Option ℕ). o) (take index targets) k c in
      let (n, low, same) = there in
      let (lt, asked) = at_front index targets n o (slice_get_read (take index targets) (length (take index targets)) n o refl low (sym same)) in
      let (end, found, ended) = t.ends n (Some k) lt (asked ∙ ap (λ z. Some z) is) in
      let (place, eq, placed) = ended in
      (place, slice_get_within order place k placed, get_or_from_slice_get order place k k placed)

  -- they are there
  tree_has : (k : ℕ) → IsOnChain finder (given (take index targets)) k → Contains order k
  tree_has k (on_here c) = target_in k c
  tree_has k (on_before next on e) =
      let c = tree_has next on in
      let (place, low, same) = c in
      let (earlier, there, f) = t.growth.froms place next (slice_get_read order (length order) place next refl low (sym same)) in
      finder_in finder order place next k earlier c f e

  all_first : AreFirst finder targets order index
  all_first = (
    length order,
    omega arith,
    λ k.
        subst (λ z. Contains z k ↔ IsOnChain finder (given (take index targets)) k) (sym (take_all (length order) order (omega arith)))
        ((λ c. All-contains (IsOnChain finder (given (take index targets))) order k t.used c), tree_has k),
  )

  pub tree_more : (target end : Option ℕ) (more new : List ℕ) (new_from new_places : List (Option ℕ)) → slice_get targets index ≡ Some target
      → IsGrowthOf finder new new_from new_places → new ≡ order ++ more → AreFor finder target more → IsEnd new target end
      → IsTreeTo finder targets new new_from new_places (ends ++ end ∷ []) (index + 1)
  tree_more target end more new new_from new_places is g grown used here = record {
    growth = g;
    used =
        subst (All (IsOnChain finder (given (take (index + 1) targets)))) (sym grown) (used_more finder targets order more index target is t.used used);
    in_order = λ n lt. subst (λ z. AreFirst finder targets z n) (sym grown) (first_more finder targets order more n (elim (cases_eq n index) [
      | inl same ↦ subst (AreFirst finder targets order) (sym same) all_first
      | inr apart ↦ t.in_order n (omega (arith, lt, apart))
    ]));
    each = length_push ends end ∙ ap (λ n. n + 1) t.each;
    ends = λ n o lt e. elim (cases_eq n index) [
      | inl same ↦ (
        end,
        subst (λ z. slice_get (ends ++ end ∷ []) z ≡ Some end) (t.each ∙ sym same) (get_last ends end),
        subst (λ z. IsEnd new z end) (same_Some target o (sym is ∙ subst (λ z. slice_get targets z ≡ Some o) same e)) here,
      )
      | inr apart ↦
          (let (old, at, there) = t.ends n o (omega (arith, lt, apart)) e in
          (old, get_front ends (end ∷ []) n old at, subst (λ z. IsEnd z o old) (sym grown) (end_more order more o old there)))
    ];
  }

pub tree_done : (finder : List ℕ) (targets : List (Option ℕ)) (t : ChainTree) (places : List (Option ℕ)) (index : ℕ) → length targets ≤ index
    → IsTreeTo finder targets t.order.items t.from.items places t.ends.items index → index ≡ length targets → IsChainTree finder targets t
tree_done finder targets t places index over is end = record {
  even = is.growth.even;
  once = is.growth.once;
  used = subst (λ z. All (IsOnChain finder (given z)) t.order.items) (take_all index targets over) is.used;
  in_order = λ n. elim (cases_lt n index) [
    | inl lt ↦ (let (count, le, are) = is.in_order n lt in (count, are))
    | inr past ↦
        (let (count, le, are) = all_first finder targets t.order.items t.from.items places t.ends.items index is in (
          count,
          λ k. subst (λ z. Contains (take count t.order.items) k ↔ IsOnChain finder (given z) k)
              (take_all index targets over ∙ sym (take_all n targets (omega (arith, over, past)))) (are k),
        ))
  ];
  froms = is.growth.froms;
  each = is.each ∙ end;
  ends = λ n o e. is.ends n o (let lt = slice_get_within targets n o e in omega (arith, lt, over)) e;
}

replicated : {A : Type 0} (n k : ℕ) (x y : A) → slice_get (replicate n x) k ≡ Some y → x ≡ y
replicated zero k x y e = absurd cc
replicated (suc n) zero x y e = same_Some x y e
replicated (suc n) (suc k) x y e = replicated n k x y e

tree_empty : (finder : List ℕ) (targets places : List (Option ℕ)) → places ≡ replicate (length finder) None → IsTreeTo finder targets [] [] places [] 0
tree_empty finder targets places none = record {
  growth = record {
    sized = ap length none ∙ length-replicate (length finder) None;
    even = refl;
    once = λ i j d less small. absurd (omega (arith, small));
    froms = λ place k e. absurd cc;
    placed = λ k place e. absurd (let eq : None ≡ Some place = replicated (length finder) k None (Some place) (subst (λ z. slice_get z k ≡ Some (Some place)) none e) in cc);
    missing = λ k e h. (let lt = h.1 in omega (arith, lt));
  };
  used = All-nil (IsOnChain finder (given (take 0 targets)));
  in_order = λ n lt. absurd (omega (arith, lt));
  each = refl;
  ends = λ n o lt e. absurd (omega (arith, lt));
}

pub tree_none : (finder : List ℕ) (targets : List (Option ℕ)) (order : List ℕ) (from places ends : List (Option ℕ)) → order ≡ [] → from ≡ [] → ends ≡ []
    → places ≡ replicate (length finder) None → IsTreeTo finder targets order from places ends 0
tree_none finder targets order from places ends o f e none =
    subst (λ z. IsTreeTo finder targets z from places ends 0) (sym o)
    (subst (λ z. IsTreeTo finder targets [] z places ends 0) (sym f)
    (subst (λ z. IsTreeTo finder targets [] [] places z 0) (sym e) (tree_empty finder targets places none)))

-- the place of what is before a position is earlier
pub from_earlier : (finder : List ℕ) (targets : List (Option ℕ)) (t : ChainTree) → IsChainTree finder targets t → (k j : ℕ)
    → slice_get t.from.items k ≡ Some (Some j) → j < k
from_earlier finder targets t is k j at =
    let even = is.even in
    let lt = slice_get_within t.from.items k (Some j) at in
    let q = get_or t.order.items k 0 in
    let (earlier, there, f) = is.froms k q (slice_get-get_or t.order.items k 0 (omega (arith, lt, even))) in
    let (i, by, other, less, placed) = subst (IsFromOf finder t.order.items k q) (same_Some earlier (Some j) (sym there ∙ at)) f in
    less
