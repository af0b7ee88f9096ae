use Rattle.std.proofs.Common.{refl, []}
use Rattle.std.specs.Option.{option_map}
use Rattle.std.proofs.lemmas.Result.{err_from_is_err_and}
use Rattle.wctrim_command.proofs.FaultLemmas.{trim_refused}
use Rattle.wctrim_command.proofs.ExecutionLemmas.{appends_nothing}
use Rattle.wctrim_command.proofs.execution.execute_explained.Goals as goal

pub returns-in_err-trim-in-Trim-clause-refusal : goal.returns-in_err-trim-in-Trim-clause-refusal
returns-in_err-trim-in-Trim-clause-refusal g c =
    let p = err_from_is_err_and c.from_residual-in_err-trim-in-Trim.result c.from_residual-in_err-trim-in-Trim.ensures.1 in
    let is = c.in_err-trim-in-Trim.ensures in
    rw (p.1, p.2, c.in-Trim.is) (trim_refused c.args.input.now c.in-Trim.source.now c.in-Trim.target.now (option_map (λ t. t.now) c.in-Trim.realloc) c.in-Trim.page _ _ is.fault is.place)

pub returns-in_ok-trim-in-Trim-clause-done : goal.returns-in_ok-trim-in-Trim-clause-done
returns-in_ok-trim-in-Trim-clause-done g c =
    let d = c.in_ok-trim-in-Trim.ensures.done in
    rw c.in-Trim.is ([], (_, d, refl, refl), appends_nothing (g.S.Sink.written c.args.out.now))
