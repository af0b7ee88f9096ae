use Rattle.std.proofs.Common.{subst}
use Rattle.wc_component_calls.specs.PathsCall.{IsPathsCause, IsPathsText}
use Rattle.wc_component_calls.proofs.WorldAnswerLemmas.{IsCallAnswered, done_for, fault_for, no_module_for, others_for, statuses_for, too_small_for, unchanged_for}
use Rattle.wc_component_calls.proofs.paths_call.component_paths.Goals as goal

pub returns-in-Ok-clause-done : goal.returns-in-Ok-clause-done
returns-in-Ok-clause-done c =
    let a = c.answer_for_world in
    let message = c.args.message.now in
    let modules = c.args.modules.now in
    let key = c.args.key.now in
    let answered =
    subst (λ k. IsCallAnswered (λ w. IsPathsText w k) (IsPathsCause k) message modules a.result c.args.out.now a.new.out) c.in-Ok.ensures.cases.0
    a.ensures in
    done_for (λ w. IsPathsText w key) (IsPathsCause key) message modules a.result c.args.out.now a.new.out answered

pub returns-in-Ok-clause-too_small : goal.returns-in-Ok-clause-too_small
returns-in-Ok-clause-too_small c =
    let a = c.answer_for_world in
    let message = c.args.message.now in
    let modules = c.args.modules.now in
    let key = c.args.key.now in
    let answered =
    subst (λ k. IsCallAnswered (λ w. IsPathsText w k) (IsPathsCause k) message modules a.result c.args.out.now a.new.out) c.in-Ok.ensures.cases.0
    a.ensures in
    too_small_for (λ w. IsPathsText w key) (IsPathsCause key) message modules a.result c.args.out.now a.new.out answered

pub returns-in-Ok-clause-fault : goal.returns-in-Ok-clause-fault
returns-in-Ok-clause-fault c =
    let a = c.answer_for_world in
    let message = c.args.message.now in
    let modules = c.args.modules.now in
    let key = c.args.key.now in
    let answered =
    subst (λ k. IsCallAnswered (λ w. IsPathsText w k) (IsPathsCause k) message modules a.result c.args.out.now a.new.out) c.in-Ok.ensures.cases.0
    a.ensures in
    fault_for (λ w. IsPathsText w key) (IsPathsCause key) message modules a.result c.args.out.now a.new.out answered

pub returns-in-Ok-clause-module_length : goal.returns-in-Ok-clause-module_length
returns-in-Ok-clause-module_length c =
    let a = c.answer_for_world in
    let message = c.args.message.now in
    let modules = c.args.modules.now in
    let key = c.args.key.now in
    let answered =
    subst (λ k. IsCallAnswered (λ w. IsPathsText w k) (IsPathsCause k) message modules a.result c.args.out.now a.new.out) c.in-Ok.ensures.cases.0
    a.ensures in
    no_module_for (λ w. IsPathsText w key) (IsPathsCause key) message modules a.result c.args.out.now a.new.out answered

pub returns-in-Ok-clause-unchanged : goal.returns-in-Ok-clause-unchanged
returns-in-Ok-clause-unchanged c =
    let a = c.answer_for_world in
    let message = c.args.message.now in
    let modules = c.args.modules.now in
    let key = c.args.key.now in
    let answered =
    subst (λ k. IsCallAnswered (λ w. IsPathsText w k) (IsPathsCause k) message modules a.result c.args.out.now a.new.out) c.in-Ok.ensures.cases.0
    a.ensures in
    unchanged_for (λ w. IsPathsText w key) (IsPathsCause key) message modules a.result c.args.out.now a.new.out answered

pub returns-in-Ok-clause-statuses : goal.returns-in-Ok-clause-statuses
returns-in-Ok-clause-statuses c =
    let a = c.answer_for_world in
    let message = c.args.message.now in
    let modules = c.args.modules.now in
    let key = c.args.key.now in
    let answered =
    subst (λ k. IsCallAnswered (λ w. IsPathsText w k) (IsPathsCause k) message modules a.result c.args.out.now a.new.out) c.in-Ok.ensures.cases.0
    a.ensures in
    let s = statuses_for (λ w. IsPathsText w key) (IsPathsCause key) message modules a.result c.args.out.now a.new.out answered in
    (s.0, s.1)

pub returns-in-Ok-clause-others : goal.returns-in-Ok-clause-others
returns-in-Ok-clause-others c =
    let a = c.answer_for_world in
    let message = c.args.message.now in
    let modules = c.args.modules.now in
    let key = c.args.key.now in
    let answered =
    subst (λ k. IsCallAnswered (λ w. IsPathsText w k) (IsPathsCause k) message modules a.result c.args.out.now a.new.out) c.in-Ok.ensures.cases.0
    a.ensures in
    others_for (λ w. IsPathsText w key) (IsPathsCause key) message modules a.result c.args.out.now a.new.out answered

pub returns-in-Ok-clause-bad_argument : goal.returns-in-Ok-clause-bad_argument
returns-in-Ok-clause-bad_argument c =
    let a = c.answer_for_world in
    let message = c.args.message.now in
    let modules = c.args.modules.now in
    let key = c.args.key.now in
    let answered =
    subst (λ k. IsCallAnswered (λ w. IsPathsText w k) (IsPathsCause k) message modules a.result c.args.out.now a.new.out) c.in-Ok.ensures.cases.0
    a.ensures in
    let s = statuses_for (λ w. IsPathsText w key) (IsPathsCause key) message modules a.result c.args.out.now a.new.out answered in
    λ is. absurd (s.2 is)
