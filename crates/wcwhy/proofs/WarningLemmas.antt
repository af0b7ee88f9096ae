-- Warnings of several components inside a component.
use Rattle.std.proofs.Common.{◌≡◌, ◌<◌, ℕ, refl, inl, inr, arith}
use Rattle.std.proofs.lemmas.Bool.Decides.{eqb_tells}
use Rattle.wcwhy.specs.Warnings.{inside_warning, several_line}

pub several_inside : (n : ℕ) → 1 < n → several_line n ≡ inside_warning n
several_inside n more = elim (eqb_tells n 0) [
  | inl e ↦ let none : n ≡ 0 = e.1 in absurd (omega (arith, more, none))
  | inr d ↦ elim (eqb_tells n 1) [
    | inl e ↦ let one : n ≡ 1 = e.1 in absurd (omega (arith, more, one))
    | inr f ↦ rw (d.0, f.0) refl
  ]
]
