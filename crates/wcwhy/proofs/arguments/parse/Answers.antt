use Rattle.std.proofs.Common.{List, subst, sym}
use Rattle.wc_options.specs.Reading.{TokenView}
use Rattle.wc_options.specs.Wrong.{IsRead, Reading}
use Rattle.wcwhy.specs.Arguments.{command_view}
use Rattle.wcwhy.specs.Reading.{IsCommand, and_apart, finish}
use Rattle.wcwhy.proofs.arguments.parse.Goals as goal

pub returns-in_default : goal.returns-in_default
returns-in_default c =
    let reads = rw c.options.ensures at c.in_ok-check.ensures.read in
    subst (λ (r : Reading (List TokenView)). IsRead command_view (IsCommand (finish r)) c.finish.result (and_apart (finish r))) (sym reads) c.finish.ensures
