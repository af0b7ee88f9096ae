use Rattle.wc_module_ways.specs.Modules.{input_view}
use Rattle.wc_module_ways.proofs.ModuleLemmas.{main_refused, others_refused}
use Rattle.wc_module_ways.proofs.modules.Modules.read.Goals as goal

pub returns-in-Ok-clause-refused : goal.returns-in-Ok-clause-refused
returns-in-Ok-clause-refused c =
    others_refused (input_view c.args.input.now) c.read_with.result c.read_with.ensures.refused

pub returns-in-Err-clause-refused : goal.returns-in-Err-clause-refused
returns-in-Err-clause-refused c =
    main_refused (input_view c.args.input.now) c.in-Err.refused.fault c.in-Err.refused.place c.of_main.result
    c.of_main.ensures c.in-Err.ensures.refused
