use Rattle.std.proofs.Common.{true}
use Rattle.wc_read.specs.BodyOperators.{operators_left}
use Rattle.wc_gc.proofs.RewriteLemmas.{next_is_written}
use Rattle.wc_gc.proofs.rewrite.append_run.Goals as goal

pub returns-in_ok-extend_from_slice-clause-written : goal.returns-in_ok-extend_from_slice-clause-written
returns-in_ok-extend_from_slice-clause-written c =
    let p = c.pass.ensures.passed in
    λ new zero. next_is_written new true c.args.out.now.items c.extend_from_slice.new.self.items p.0 c.pass.result.now (operators_left c.args.operators.now) (operators_left c.pass.new.self) c.requires p.2 zero p.1 c.in_ok-extend_from_slice.ensures.items
