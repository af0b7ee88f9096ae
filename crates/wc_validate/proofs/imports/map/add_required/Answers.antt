use Rattle.std.proofs.Common.{map}
use Rattle.wc_names.specs.Views.{import_view}
use Rattle.wc_validate.specs.Imports.Map.{required_entry}
use Rattle.wc_validate.proofs.AdapterFunctionLemmas.{required_one, required_passed}
use Rattle.wc_validate.proofs.imports.map.add_required.Goals as goal

pub returns-in-Some : goal.returns-in-Some
returns-in-Some c = λ passed h.
    required_one c.add_function.result (map required_entry c.add_function.new.functions.entries) passed (import_view c.args.import.now) _ c.in-Some.ensures
    (c.add_function.ensures passed h)

pub returns-in-None : goal.returns-in-None
returns-in-None c = λ passed h. required_passed (map required_entry c.args.functions.now.entries) passed (import_view c.args.import.now) c.in-None.ensures h
