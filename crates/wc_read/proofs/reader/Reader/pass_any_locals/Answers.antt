use Rattle.std.proofs.Common.{arith}
use Rattle.std.proofs.lemmas.Result.{err_from_is_err_and}
use Rattle.std.proofs.lemmas.Bool.Decides.{nat_tests}
use Rattle.wc_read.proofs.LocalRunsLemmas.{runs_start, runs_more, runs_end, runs_none, runs_fail, runs_many}
use Rattle.wc_read.proofs.reader.Reader.pass_any_locals.Goals as goal

pub returns-in_err-count : goal.returns-in_err-count
returns-in_err-count c =
    let p = err_from_is_err_and c.from_residual.result c.from_residual.ensures.1 in
    rw (p.1, p.2) (runs_none c.args.self.now.rest.now c.in_err-count.ensures.0, c.in_err-count.ensures.1)

pub loop-init : goal.loop-init
loop-init c = (runs_start c.args.self.now.rest.now c.u32_and_is_text.new.self.rest.now c.in_ok-count.count c.in_ok-count.is_count_text c.in_ok-count.ensures, omega arith)

pub returns-in_err-locals : goal.returns-in_err-locals
returns-in_err-locals c =
    let p = err_from_is_err_and c.from_residual-in_err-locals.result c.from_residual-in_err-locals.ensures.1 in
    rw (p.1, p.2) (runs_fail c.args.self.now.rest.now c.in_ok-count.count c.loop.counter c.loop.self.rest.now c.loop.total c.loop.is_text c.loop.invariant.0 (omega arith) c.in_err-locals.ensures.0, c.in_err-locals.ensures.1)

pub returns-in-None : goal.returns-in-None
returns-in-None c = (
  runs_many c.args.self.now.rest.now c.in_ok-count.count c.loop.counter c.loop.self.rest.now c.loop.total c.loop.is_text c.in_ok-locals.locals c.in_ok-locals.ensures.0 c.pass_locals_run.new.self.rest.now c.loop.invariant.0 (omega arith)
      c.in_ok-locals.ensures.1 (grind (arith, nat_tests)),
  ((λ e. absurd cc), (λ e. absurd cc)),
)

pub loop-preserved : goal.loop-preserved
loop-preserved c = (
  runs_more c.args.self.now.rest.now c.in_ok-count.count c.loop.counter c.loop.self.rest.now c.loop.total c.loop.is_text c.in_ok-locals.locals c.in_ok-locals.is_run_text c.in_ok-locals.ensures.0 c.pass_locals_run.new.self.rest.now c.in-Some.sum _
      c.loop.invariant.0 (omega arith) c.in_ok-locals.ensures.1 c.in_ok-locals.ensures.2 c.in_ok-locals.ensures.3 (grind (arith, nat_tests)) c.both-is_text.ensures,
  grind (arith, nat_tests),
)

pub returns : goal.returns
returns c = runs_end c.args.self.now.rest.now c.in_ok-count.count c.loop.counter c.loop.self.rest.now c.loop.total c.loop.is_text c.loop.invariant.0 (omega arith) (omega arith) c.loop.invariant.1
