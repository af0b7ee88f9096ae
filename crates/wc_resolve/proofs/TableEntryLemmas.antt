-- A table that is filled in at the indices of an order, one after the other.
use Rattle.std.proofs.Common.{◌≡◌, ℕ, ◌<◌, ◌≤◌, ◌+◌, List, [], ◌∷◌, ◌++◌, length, take, set, get_or, sym, ap, ◌∙◌, subst, inl, inr, arith}
use Rattle.std.specs.List.{Contains}
use Rattle.std.proofs.lemmas.Bool.{cases_eq}
use Rattle.std.proofs.lemmas.List.{get_or-set_same, get_or-set_other, take_more, take_all}
use Rattle.std.proofs.lemmas.List.Elements.{Contains-push_cases}

-- what is true of the entry at each index that is listed
pub record AreEntries {Y : Type 0} (P : ℕ → Y → Type 0) (d : Y) (table : List Y) (listed : List ℕ) : Type 0 where
  pub each : (x : ℕ) → Contains listed x → P x (get_or table x d)

pub table_start : {Y : Type 0} (P : ℕ → Y → Type 0) (d : Y) (table : List Y) → AreEntries P d table []
table_start P d table = record { each = λ x h. absurd (let e : ⊥ = omega (arith, h.1) in e) }

pub table_step : {Y : Type 0} (P : ℕ → Y → Type 0) (d : Y) (table : List Y) (order : List ℕ) (i x : ℕ) (b : Y) → i < length order → x ≡ get_or order i 0 → x < length table → P x b
    → AreEntries P d table (take i order) → AreEntries P d (set table x b) (take (i + 1) order)
table_step P d table order i x b small x_at within holds m = record {
  each = λ y h.
      elim (cases_eq y x) [
        | inl same ↦
            (let here : get_or (set table x b) x d ≡ b = get_or-set_same table x b d within in
            let at_x : P x (get_or (set table x b) x d) = subst (P x) (sym here) holds in
            subst (λ (z : ℕ). P z (get_or (set table x b) z d)) (sym same) at_x)
        | inr other ↦
            (let there : get_or (set table x b) y d ≡ get_or table y d = get_or-set_other table x y b d other in
            let listed : Contains (take i order ++ x ∷ []) y = subst (λ (z : List ℕ). Contains z y) (take_more order i 0 small ∙ ap (λ z. take i order ++ z ∷ []) (sym x_at)) h in
            let before : Contains (take i order) y = elim (Contains-push_cases (take i order) x y listed) [ inl b4 ↦ b4 | inr same ↦ absurd (other (sym same)) ] in
            subst (P y) (sym there) (m.each y before))
      ];
}

pub table_end : {Y : Type 0} (P : ℕ → Y → Type 0) (d : Y) (table : List Y) (order : List ℕ) (i : ℕ) → length order ≤ i → AreEntries P d table (take i order)
    → (x : ℕ) → Contains order x → P x (get_or table x d)
table_end P d table order i past m x h = m.each x (subst (λ (z : List ℕ). Contains z x) (sym (take_all i order past)) h)
