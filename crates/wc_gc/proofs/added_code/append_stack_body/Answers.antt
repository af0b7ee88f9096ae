use Rattle.std.proofs.Common.{◌≡◌, subst, List, ℕ}
use Rattle.std.specs.Prelude.{OnOk}
use Rattle.wc_gc.proofs.AddedCodeLemmas.{stack_written}
use Rattle.wc_gc.proofs.added_code.append_stack_body.Goals as goal

pub returns : goal.returns
returns c = subst (λ (z : List ℕ). OnOk c.append_code.result (c.append_code.new.out.items ≡ z)) (stack_written _ _ _ c.args.realloc c.args.sp c.args.state c.in_ok-append_locals.ensures c.in_ok-append_stack_code.ensures) c.append_code.ensures
