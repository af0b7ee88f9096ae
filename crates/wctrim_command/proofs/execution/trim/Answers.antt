use Rattle.std.proofs.Common.{ℕ, List, subst, sym}
use Rattle.wc_gc.specs.LiveItems.{names_of, trim_input_for_names}
use Rattle.wc_gc.specs.Parts.{settings}
use Rattle.wc_gc.specs.TrimPlace.{IsExplained}
use Rattle.wc_gc.proofs.NameSetLemmas.{some_keys}
use Rattle.wctrim_command.specs.Execution.{IsTrimsCause, IsTrimsPlace}
use Rattle.wctrim_command.specs.Fault.{of_trim}
use Rattle.wctrim_command.proofs.FaultLemmas.{cause_of_trim, place_of_trim}
use Rattle.wctrim_command.proofs.ExecutionLemmas.{some_exports}
use Rattle.wctrim_command.proofs.execution.trim.Goals as goal

pub run_explained-requires-clause-some : goal.run_explained-requires-clause-some
run_explained-requires-clause-some c =
    some_keys c.in_ok-required.required.keys (names_of c.args.arguments.exports.now) c.in_ok-required.ensures (some_exports c.args.arguments.exports.now c.requires.some)

pub returns-clause-fault : goal.returns-clause-fault
returns-clause-fault c =
    let given = settings c.args.arguments.realloc c.args.arguments.page_size_log2 in
    let names = names_of c.args.arguments.exports.now in
    subst (IsTrimsCause given (trim_input_for_names c.args.input.now names)) (sym c.trim_refusal.ensures.fault)
    (cause_of_trim given c.args.input.now (names_of c.in_ok-required.required.keys) names c.in-Err.refused.fault c.in_ok-required.ensures c.in-Err.ensures.fault)

pub returns-clause-place : goal.returns-clause-place
returns-clause-place c =
    let input = trim_input_for_names c.args.input.now (names_of c.args.arguments.exports.now) in
    let fault = c.in-Err.refused.fault in
    let place = c.in-Err.refused.place in
    let explained = subst (λ (names : List (List ℕ)). IsExplained (record { bytes = c.args.input.now; required = names }) fault place) c.in_ok-required.ensures
    c.in-Err.ensures.place in
    subst (λ f. IsTrimsPlace input f c.trim_refusal.result.place) (sym c.trim_refusal.ensures.fault)
    (subst (IsTrimsPlace input (of_trim fault)) (sym c.trim_refusal.ensures.place) (place_of_trim input fault place (λ e. explained)))
