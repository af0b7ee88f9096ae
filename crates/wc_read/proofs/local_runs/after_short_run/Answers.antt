use Rattle.std.proofs.Common.{◌∙◌, ap, List, ℕ, ◌∷◌}
use Rattle.wc_read.proofs.local_runs.after_short_run.Goals as goal

pub returns-then-is_val_type : goal.returns-then-is_val_type
returns-then-is_val_type c = (
  _,
  _,
  c.in_ok-count.ensures.cases.0 ∙ ap (λ (z : List ℕ). c.in_ok-count.count.now ∷ z) c.in_ok-first.ensures.cases.0,
  c.if-count-lt-MORE_BYTES.true,
  c.is_val_type.ensures c.if-is_val_type.true,
)
