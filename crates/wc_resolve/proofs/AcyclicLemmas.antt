-- An order in which each type is after those that it refers to rules out cycles.
use Rattle.std.proofs.Common.{◌≡◌, ℕ, zero, suc, ◌<◌, List, [], ◌∷◌, length, take, get_or, Option, Some, None, refl, sym, ap, ◌∙◌, subst, inl, inr, arith, length-take}
use Rattle.std.specs.Prelude.{slice_get}
use Rattle.std.specs.List.{Contains, All, filter_map}
use Rattle.std.specs.Option.{option_map, option_map_or}
use Rattle.std.proofs.lemmas.Bool.{cases_lt}
use Rattle.std.proofs.lemmas.List.{get_or_default, get_or-take}
use Rattle.std.proofs.lemmas.List.Elements.{All-head, All-tail}
use Rattle.std.proofs.lemmas.Option.{get_or_from_slice_get}
use Rattle.wc_resolve.specs.declared.types.WitType.{WitType}
use Rattle.wc_resolve.specs.declared.types.WitType.TheVariants.{Id}
use Rattle.wc_resolve.specs.Views.{TypeView}
use Rattle.wc_resolve.specs.Kinds.{ResolveView, HasCycle, Leads, refers, further, IsChildrenFirst, children, referenced_indices, referenced_types, type_index}
use Rattle.wc_resolve.specs.Ranges.{AreIdsInRange, IsTypeDefIn, IsTypeIn}
use Rattle.wc_maps.proofs.ListLemmas.{contains_cons, contains_none}
use Rattle.wc_resolve.proofs.ResourcesByValueLemmas.{kind_none}

-- an element among the first i is at an index before i
pub position_before : (order : List ℕ) (i y : ℕ) → Contains (take i order) y → (j : ℕ) × (j < i) × (j < length order) × (get_or order j 0 ≡ y)
position_before order i y (k, small, e) =
    let before : k < i = omega (arith, length-take i order, small) in
    let within : k < length order = omega (arith, length-take i order, small) in
    (k, before, within, get_or_default order k 0 y within ∙ sym (get_or-take i order k y before) ∙ e)

leads_before : (next : ℕ → List ℕ) (order : List ℕ) → IsChildrenFirst next order → {x y : ℕ} → Leads next x y → (i : ℕ) → i < length order → get_or order i 0 ≡ x
    → (j : ℕ) × (j < i) × (j < length order) × (get_or order j 0 ≡ y)
leads_before next order first (refers x y c) i small x_at = position_before order i y (first i y small (subst (λ (z : ℕ). Contains (next z) y) (sym x_at) c))
leads_before next order first (further x y z c rest) i small x_at =
    let p = position_before order i y (first i y small (subst (λ (w : ℕ). Contains (next w) y) (sym x_at) c)) in
    let q = leads_before next order first rest p.0 p.2 p.3 in
    let before : q.0 < i = omega (arith, p.1, q.1) in
    (q.0, before, q.2, q.3)

descent : (next : ℕ → List ℕ) (order : List ℕ) → IsChildrenFirst next order → (n i x : ℕ) → i < n → i < length order → get_or order i 0 ≡ x → Leads next x x → ⊥
descent next order first zero i x h small x_at leads = omega (arith, h)
descent next order first (suc n) i x h small x_at leads =
    let p = leads_before next order first leads i small x_at in
    let below : p.0 < n = omega (arith, h, p.1) in
    descent next order first n p.0 x below p.2 p.3 leads

child_in : (types : List TypeView) (x y : ℕ) → Contains (children types x) y → x < length types
child_in types x y h =
    elim (cases_lt x (length types)) [
      | inl small ↦ small
      | inr past ↦ absurd (
          let none : children types x ≡ [] = ap (λ k. option_map_or referenced_indices k []) (kind_none types x past) in
          contains_none y (subst (λ (z : List ℕ). Contains z y) none h))
    ]

leads_in : (types : List TypeView) {x y : ℕ} → Leads (children types) x y → x < length types
leads_in types (refers x y c) = child_in types x y c
leads_in types (further x y z c rest) = child_in types x y c

pub acyclic : (types : List TypeView) (order : List ℕ) → IsChildrenFirst (children types) order → ((x : ℕ) → x < length types → Contains order x) → HasCycle types → ⊥
acyclic types order first all (x, leads) =
    let p = all x (leads_in types leads) in
    descent (children types) order first (suc p.0) p.0 x (omega arith) p.1 (get_or_default order p.0 0 x p.1 ∙ p.2) leads

pub indices_in : (n : ℕ) (ts : List WitType) → All (IsTypeIn n) ts → (c : ℕ) → Contains (filter_map type_index ts) c → c < n
indices_in n [] all c h = absurd (contains_none c h)
indices_in n (Id i ∷ ts) all c h =
    elim (contains_cons i.0 (filter_map type_index ts) c h) [
      | inl same ↦ subst (λ (z : ℕ). z < n) same (All-head (IsTypeIn n) (Id i) ts all)
      | inr rest ↦ indices_in n ts (All-tail (IsTypeIn n) (Id i) ts all) c rest
    ]
indices_in n (t ∷ ts) all c h = indices_in n ts (All-tail (IsTypeIn n) t ts all) c h

pub slice_get_in : {X : Type 0} (xs : List X) (i : ℕ) (x : X) → slice_get xs i ≡ Some x → i < length xs
slice_get_in [] i x e = absurd (let n : None ≡ Some x = e in let bad : ⊥ = cc n in bad)
slice_get_in (y ∷ xs) zero x e = omega arith
slice_get_in (y ∷ xs) (suc i) x e = let rest : i < length xs = slice_get_in xs i x e in omega (arith, rest)

def_in : (r : ResolveView) (t : TypeView) → IsTypeDefIn r t → All (IsTypeIn (length r.types)) (referenced_types t.kind)
unfolding IsTypeDefIn
def_in r t h = h.0

child_within : (r : ResolveView) → All (IsTypeDefIn r) r.types → (x c : ℕ) (o : Option TypeView) → slice_get r.types x ≡ o
    → Contains (option_map_or referenced_indices (option_map (λ (t : TypeView). t.kind) o) []) c → c < length r.types
child_within r all x c None e h = absurd (contains_none c h)
child_within r all x c (Some t) e h =
    let small : x < length r.types = slice_get_in r.types x t e in
    let def : IsTypeDefIn r t = subst (IsTypeDefIn r) (get_or_from_slice_get r.types x t t e) (all x t small) in
    indices_in (length r.types) (referenced_types t.kind) (def_in r t def) c h

pub children_within : (r : ResolveView) → All (IsTypeDefIn r) r.types → (x c : ℕ) → Contains (children r.types x) c → c < length r.types
children_within r all x c h = child_within r all x c (slice_get r.types x) refl h

pub ids_of_types : (r : ResolveView) → AreIdsInRange r → All (IsTypeDefIn r) r.types
unfolding AreIdsInRange
ids_of_types r h = h.2
