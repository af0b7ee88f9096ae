use Rattle.wc_ways.specs.Imports.{IsImportsJson}
use Rattle.wc_component_calls.specs.ImportsCall.{IsImportsCause}
use Rattle.wc_component_calls.proofs.WorldAnswerLemmas.{done_for, fault_for, no_module_for, others_for, statuses_for, too_small_for, unchanged_for}
use Rattle.wc_component_calls.proofs.imports_call.component_imports.Goals as goal

pub returns-clause-done : goal.returns-clause-done
returns-clause-done c =
    let a = c.answer_for_world in
    done_for IsImportsJson IsImportsCause c.args.message.now c.args.modules.now a.result c.args.out.now a.new.out a.ensures

pub returns-clause-too_small : goal.returns-clause-too_small
returns-clause-too_small c =
    let a = c.answer_for_world in
    too_small_for IsImportsJson IsImportsCause c.args.message.now c.args.modules.now a.result c.args.out.now a.new.out a.ensures

pub returns-clause-fault : goal.returns-clause-fault
returns-clause-fault c =
    let a = c.answer_for_world in
    fault_for IsImportsJson IsImportsCause c.args.message.now c.args.modules.now a.result c.args.out.now a.new.out a.ensures

pub returns-clause-module_length : goal.returns-clause-module_length
returns-clause-module_length c =
    let a = c.answer_for_world in
    no_module_for IsImportsJson IsImportsCause c.args.message.now c.args.modules.now a.result c.args.out.now a.new.out a.ensures

pub returns-clause-unchanged : goal.returns-clause-unchanged
returns-clause-unchanged c =
    let a = c.answer_for_world in
    unchanged_for IsImportsJson IsImportsCause c.args.message.now c.args.modules.now a.result c.args.out.now a.new.out a.ensures

pub returns-clause-statuses : goal.returns-clause-statuses
returns-clause-statuses c =
    let a = c.answer_for_world in
    statuses_for IsImportsJson IsImportsCause c.args.message.now c.args.modules.now a.result c.args.out.now a.new.out a.ensures

pub returns-clause-others : goal.returns-clause-others
returns-clause-others c =
    let a = c.answer_for_world in
    others_for IsImportsJson IsImportsCause c.args.message.now c.args.modules.now a.result c.args.out.now a.new.out a.ensures
