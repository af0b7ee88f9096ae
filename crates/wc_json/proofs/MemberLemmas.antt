-- The only member of an object.
use Rattle.std.proofs.Common.{◌≡◌, ℕ, List, [], ◌∷◌, length, get_or, Ok, Vec, refl, sym, ap, ◌∙◌, arith}
use Rattle.std.specs.Borrow.{Bor}
use Rattle.json.specs.Value.{value_view, members_view}
use Rattle.json.specs.declared.value.Value.{Value, Object}
use Rattle.json.proofs.Trees.{view-Object}
use Rattle.wc_json.specs.Fault.{refusal}
use Rattle.wc_json.specs.Members.{name_and_value, only_member}
use Rattle.wc_json.specs.declared.fault.Problem.TheVariants.{NotOneMember}

pub only_member-value_view : {X : Type 0} (value : Value X) (v : Vec (Bor (List ℕ) × Value X) X) → value ≡ Object v
    → only_member (value_view value) ≡ name_and_value (members_view v.items)
only_member-value_view value v e = ap (λ w. only_member (value_view w)) e ∙ ap only_member (view-Object v)

-- one member
pub name_and_value-one : {X : Type 0} (ms : List (Bor (List ℕ) × Value X)) (m : Bor (List ℕ) × Value X) → length ms ≡ 1 → m ≡ get_or ms 0 m
    → name_and_value (members_view ms) ≡ Ok (m.0.now, value_view m.1)
name_and_value-one [] m h e = absurd (omega (arith, h))
name_and_value-one (x ∷ []) m h e = ap (λ (w : Bor (List ℕ) × Value _). Ok (w.0.now, value_view w.1)) (sym e)
name_and_value-one (x ∷ y ∷ ms) m h e = absurd (omega (arith, h))

-- none, or several
pub name_and_value-not_one : {X : Type 0} (ms : List (Bor (List ℕ) × Value X)) → (length ms ≡ 1 → ⊥) → name_and_value (members_view ms) ≡ refusal NotOneMember
name_and_value-not_one [] h = refl
name_and_value-not_one (x ∷ []) h = absurd (h (omega arith))
name_and_value-not_one (x ∷ y ∷ ms) h = refl
