-- Values that follow from those of the types that are referred to: along an order of all types, children first, a
-- rule makes one value for each type.
use Rattle.std.proofs.Common.{◌≡◌, ℕ, zero, suc, ◌+◌, ◌<◌, ◌≤◌, ◌∷◌, ◌++◌, false, eqb, List, [], length, take, get_or, sym, ◌∙◌, subst, inl, inr, arith}
use Rattle.std.specs.List.{Contains, IsDistinct, list_any}
use Rattle.std.proofs.lemmas.Bool.{cases_Bool, eqb-true}
use Rattle.std.proofs.lemmas.Cmp.{nat_eq_equiv}
use Rattle.std.proofs.lemmas.List.{take_more, take_all, get_or_default}
use Rattle.std.proofs.lemmas.List.Elements.{Contains-push, Contains-push_cases, Contains-append_left}
use Rattle.std.proofs.lemmas.Map.Keys.{IsDistinct-push}
use Rattle.std.proofs.lemmas.Map.Steps.{length-le_from_distinct_below}
use Rattle.std.proofs.lemmas.Map.Views.{Contains-from_any}
use Rattle.wc_resolve.specs.Views.{TypeView}
use Rattle.wc_resolve.specs.Kinds.{IsChildrenFirst, children, kind_at}
use Rattle.wc_resolve.specs.Validate.{IsOrder}
use Rattle.wc_resolve.specs.TypeRules.{Rule, Follows, IsOnlyFollowing, repeated, value_by_rule}
use Rattle.wc_resolve.proofs.AcyclicLemmas.{position_before}
use Rattle.wc_resolve.proofs.SearchLemmas.{first_push}

-- a rule that depends only on the values of the types that are referred to
abbrev pub LooksDown : {Y : Type 0} → Rule Y → List TypeView → Type 0
LooksDown {Y} rule types = (f g : ℕ → Y) (x : ℕ) → ((c : ℕ) → Contains (children types x) c → f c ≡ g c) → rule f x (kind_at types x) ≡ rule g x (kind_at types x)

-- an order without repeats, of the first i of an order
pub record IsDistinctOrder (next : ℕ → List ℕ) (front reduced : List ℕ) : Type 0 where
  pub first : IsChildrenFirst next reduced
  pub distinct : IsDistinct eqb reduced
  pub there : (c : ℕ) → Contains front c → Contains reduced c
  pub from : (c : ℕ) → Contains reduced c → Contains front c

distinct_same : (next : ℕ → List ℕ) (front reduced : List ℕ) (x : ℕ) → IsDistinctOrder next front reduced → Contains reduced x → IsDistinctOrder next (front ++ x ∷ []) reduced
distinct_same next front reduced x a there = record {
  first = a.first;
  distinct = a.distinct;
  there = λ c h. elim (Contains-push_cases front x c h) [ inl old ↦ a.there c old | inr same ↦ subst (Contains reduced) same there ];
  from = λ c h. Contains-append_left front (x ∷ []) c (a.from c h);
}

distinct_push : (next : ℕ → List ℕ) (front reduced : List ℕ) (x : ℕ) → IsDistinctOrder next front reduced → list_any (eqb x) reduced ≡ false
    → ((c : ℕ) → Contains (next x) c → Contains front c) → IsDistinctOrder next (front ++ x ∷ []) (reduced ++ x ∷ [])
distinct_push next front reduced x a new below = record {
  first = first_push next reduced x a.first (λ c h. a.there c (below c h));
  distinct = IsDistinct-push nat_eq_equiv reduced x a.distinct new;
  there = λ c h. elim (Contains-push_cases front x c h) [ inl old ↦ Contains-append_left reduced (x ∷ []) c (a.there c old) | inr same ↦ subst (Contains (reduced ++ x ∷ [])) same (Contains-push reduced x) ];
  from = λ c h. elim (Contains-push_cases reduced x c h) [ inl old ↦ Contains-append_left front (x ∷ []) c (a.from c old) | inr same ↦ subst (Contains (front ++ x ∷ [])) same (Contains-push front x) ];
}

-- the first i of an order, without repeats
without_repeats : (next : ℕ → List ℕ) (order : List ℕ) → IsChildrenFirst next order → (i : ℕ) → i ≤ length order → (reduced : List ℕ) × IsDistinctOrder next (take i order) reduced
unfolding IsDistinct
without_repeats next order first zero h = ([], record { first = λ i c small k. absurd (omega (arith, small)); distinct = tt; there = λ c k. k; from = λ c k. k })
without_repeats next order first (suc i) h =
    let small : i < length order = omega (arith, h) in
    let le : i ≤ length order = omega (arith, h) in
    let before = without_repeats next order first i le in
    let reduced : List ℕ = before.0 in
    let a : IsDistinctOrder next (take i order) reduced = before.1 in
    let x : ℕ = get_or order i 0 in
    let next_index : i + 1 ≡ suc i = omega arith in
    let front : take (suc i) order ≡ take i order ++ x ∷ [] = subst (λ (k : ℕ). take k order ≡ take i order ++ x ∷ []) next_index (take_more order i 0 small) in
    elim (cases_Bool (list_any (eqb x) reduced)) [
      | inl there ↦
          (let known : Contains reduced x = Contains-from_any eqb-true x reduced there in
          (reduced, subst (λ (f : List ℕ). IsDistinctOrder next f reduced) (sym front) (distinct_same next (take i order) reduced x a known)))
      | inr new ↦
          (reduced ++ x ∷ [], subst (λ (f : List ℕ). IsDistinctOrder next f (reduced ++ x ∷ [])) (sym front) (distinct_push next (take i order) reduced x a new (λ c k. first i c small k)))
    ]

-- an order without repeats, which is no longer than there are types
distinct_order : (types : List TypeView) (order : List ℕ) → IsOrder types order
    → (reduced : List ℕ) × IsChildrenFirst (children types) reduced × (length reduced ≤ length types) × ((x : ℕ) → x < length types → Contains reduced x) × ((x : ℕ) → Contains reduced x → x < length types)
distinct_order types order o =
    let made = without_repeats (children types) order o.first (length order) (omega arith) in
    let reduced : List ℕ = made.0 in
    let full : take (length order) order ≡ order = take_all (length order) order (omega arith) in
    let a : IsDistinctOrder (children types) order reduced = subst (λ (f : List ℕ). IsDistinctOrder (children types) f reduced) full made.1 in
    let within : (x : ℕ) → Contains reduced x → x < length types = λ x h. o.within x (a.from x h) in
    let short : length reduced ≤ length types = length-le_from_distinct_below reduced (length types) a.distinct (λ q h. within q (Contains-from_any eqb-true q reduced h)) in
    (reduced, a.first, short, λ x h. a.there x (o.all x h), within)

-- two levels above an index's own have the same value there
level_same : {Y : Type 0} → (rule : Rule Y) (first : Y) (types : List TypeView) (order : List ℕ) → LooksDown rule types → IsChildrenFirst (children types) order
    → (n m p x : ℕ) → p < n → p < m → p < length order → get_or order p 0 ≡ x → repeated rule first types n x ≡ repeated rule first types m x
level_same rule first types order down kept zero m p x hn hm small at = absurd (omega (arith, hn))
level_same rule first types order down kept (suc n) zero p x hn hm small at = absurd (omega (arith, hm))
level_same rule first types order down kept (suc n) (suc m) p x hn hm small at =
    down (repeated rule first types n) (repeated rule first types m) x (λ c h.
    let q = position_before order p c (kept p c small (subst (λ (z : ℕ). Contains (children types z) c) (sym at) h)) in
    let less : q.0 < n = omega (arith, q.1, hn) in
    let less2 : q.0 < m = omega (arith, q.1, hm) in
    level_same rule first types order down kept n m q.0 c less less2 q.2 q.3)

-- the values that the rule makes follow it
pub value_by_rule_follows : {Y : Type 0} → (rule : Rule Y) (first : Y) (types : List TypeView) (order : List ℕ) → IsOrder types order → LooksDown rule types
    → Follows rule types (value_by_rule rule first types)
unfolding value_by_rule
value_by_rule_follows rule first types order o down x small =
    let a = distinct_order types order o in
    let p = a.3 x small in
    let at : get_or a.0 p.0 0 ≡ x = get_or_default a.0 p.0 0 x p.1 ∙ p.2 in
    let low : p.0 < length types = omega (arith, a.2, p.1) in
    let high : p.0 < suc (length types) = omega (arith, low) in
    level_same rule first types a.0 down a.1 (length types) (suc (length types)) p.0 x low high p.1 at

agree_below : {Y : Type 0} → (rule : Rule Y) (types : List TypeView) (order : List ℕ) (f g : ℕ → Y) → LooksDown rule types → IsChildrenFirst (children types) order
    → ((x : ℕ) → Contains order x → x < length types) → Follows rule types f → Follows rule types g
    → (n p x : ℕ) → p < n → p < length order → get_or order p 0 ≡ x → f x ≡ g x
agree_below rule types order f g down kept within hf hg zero p x h small at = absurd (omega (arith, h))
agree_below rule types order f g down kept within hf hg (suc n) p x h small at =
    let bound : x < length types = within x (p, small, get_or_default order p x 0 small ∙ at) in
    let same : rule f x (kind_at types x) ≡ rule g x (kind_at types x) = down f g x (λ c k.
    let q = position_before order p c (kept p c small (subst (λ (z : ℕ). Contains (children types z) c) (sym at) k)) in
    let less : q.0 < n = omega (arith, q.1, h) in
    agree_below rule types order f g down kept within hf hg n q.0 c less q.2 q.3) in
    hf x bound ∙ same ∙ sym (hg x bound)

-- and no others do
follows_once : {Y : Type 0} → (rule : Rule Y) (types : List TypeView) (order : List ℕ) (f g : ℕ → Y) → IsOrder types order → LooksDown rule types
    → Follows rule types f → Follows rule types g → (x : ℕ) → x < length types → f x ≡ g x
follows_once rule types order f g o down hf hg x small =
    let p = o.all x small in
    agree_below rule types order f g down o.first o.within hf hg (suc p.0) p.0 x (omega arith) p.1 (get_or_default order p.0 0 x p.1 ∙ p.2)

pub value_by_rule_alone : {Y : Type 0} → (rule : Rule Y) (first : Y) (types : List TypeView) (order : List ℕ) → IsOrder types order → LooksDown rule types
    → IsOnlyFollowing rule types (value_by_rule rule first types)
value_by_rule_alone rule first types order o down other made x small =
    follows_once rule types order other (value_by_rule rule first types) o down made (value_by_rule_follows rule first types order o down) x small
