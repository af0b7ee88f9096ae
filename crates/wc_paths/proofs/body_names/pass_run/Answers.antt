use Rattle.wc_paths.proofs.BodyNamesLemmas.{run_passed}
use Rattle.wc_paths.proofs.body_names.pass_run.Goals as goal

pub returns-then-begins_run-clause-left : goal.returns-then-begins_run-clause-left
returns-then-begins_run-clause-left c = let passed = c.pass.ensures.passed in run_passed passed.0 _ _ passed.1.1 passed.2
