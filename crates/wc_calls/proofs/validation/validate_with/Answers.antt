use Rattle.wc_validate.specs.Validate.{module_record}
use Rattle.wc_calls.proofs.ModuleLemmas.{module_refused, module_valid}
use Rattle.wc_calls.proofs.validation.validate_with.Goals as goal

pub returns-clause-done : goal.returns-clause-done
returns-clause-done c = λ is.
    module_valid c.args.input (module_record c.args.main.now) c.requires.main c.requires.there c.requires.required (c.validate_input.ensures.done is)

pub returns-clause-fault : goal.returns-clause-fault
returns-clause-fault c = λ is.
    module_refused c.args.input (module_record c.args.main.now) c.requires.main c.requires.there c.requires.required c.validate_input.result c.args.out.now
    c.validate_input.new.out (c.validate_input.ensures.fault is)
