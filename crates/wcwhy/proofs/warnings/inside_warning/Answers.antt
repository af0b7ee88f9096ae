use Rattle.std.proofs.Common.{◌≡◌, IfOk, List, arith, string_bytes, subst, ℕ}
use Rattle.wcwhy.proofs.WarningLemmas.{several_inside}
use Rattle.wcwhy.proofs.warnings.inside_warning.Goals as goal

pub returns : goal.returns
returns c =
    subst (λ (line : List ℕ). IfOk c.many_inside.result (λ text. string_bytes text ≡ line)) (several_inside c.args.inside (omega arith)) c.many_inside.ensures
