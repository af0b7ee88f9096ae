use Rattle.std.proofs.Common.{◌≡◌, ℕ, ◌+◌, ◌-◌, get_or, inl, inr, sym, ap, ◌∙◌, arith}
use Rattle.std.proofs.lemmas.Bool.{cases_eq}
use Rattle.std.proofs.lemmas.List.{get_or_default}
use Rattle.wc_dedupe.specs.Private.NameKeys.{NameKey}
use Rattle.wc_dedupe.proofs.name_keys.are_different.Goals as goal

pub loop-index-init : goal.loop-index-init
loop-index-init c = λ k d h. absurd (omega (arith, h))

pub loop-index-preserved : goal.loop-index-preserved
loop-index-preserved c = λ k d h.
    elim (cases_eq (k + 1) c.loop-index.index) [
      | inl same ↦
          let before : k ≡ c.loop-index.index - 1 = omega (arith, same) in
          let low : (get_or c.args.keys.now k d).0 ≡ c.number_at-in-loop-index.result =
          ap (λ (e : NameKey). e.0) (get_or_default c.args.keys.now k d (0, 0) (omega (arith, same, c.loop-index-test.true)) ∙ ap (λ (j : ℕ). get_or c.args.keys.now j (0, 0)) before) ∙ sym c.number_at-in-loop-index.ensures in
          let high : (get_or c.args.keys.now (k + 1) d).0 ≡ c.number_at.result =
          ap (λ (e : NameKey). e.0) (get_or_default c.args.keys.now (k + 1) d (0, 0) (omega (arith, same, c.loop-index-test.true)) ∙ ap (λ (j : ℕ). get_or c.args.keys.now j (0, 0)) same) ∙ sym c.number_at.ensures in
          omega (arith, low, high, c.if-number_at.false)
      | inr other ↦ c.loop-index.invariant k d (omega (arith, h, other))
    ]

pub returns : goal.returns
returns c = λ _ k d h. c.loop-index.invariant k d (omega (arith, h, c.loop-index-test.false))
