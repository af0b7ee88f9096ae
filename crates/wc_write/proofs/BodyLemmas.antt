-- What is written of a body is its text.
use Rattle.std.proofs.Common.{◌≡◌, ℕ, List, ◌++◌, refl, ◌∙◌, append_assoc}
use Rattle.std.specs.List.{flat_map}
use Rattle.std.proofs.lemmas.List.Folds.{flat_map-map}
use Rattle.wc_read.specs.Operators.{instr_value}
use Rattle.wc_read.specs.Bodies.{body_value}
use Rattle.wc_read.specs.declared.bodies.Body.{Body}
use Rattle.wc_write.specs.Text.{vector_text}
use Rattle.wc_write.specs.Operators.{instr_text}
use Rattle.wc_write.specs.Bodies.{locals_text, body_text}

pub body_written : (old : List ℕ) (b : Body) → (old ++ vector_text locals_text b.locals.items) ++ flat_map (λ i. instr_text (instr_value i)) b.operators.items ≡ old ++ body_text (body_value b)
unfolding body_text
body_written old b = append_assoc old _ _ ∙ rw (← flat_map-map instr_text instr_value b.operators.items) refl
