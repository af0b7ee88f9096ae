use Rattle.std.proofs.Common.{◌∙◌, ap}
use Rattle.std.specs.Option.{option_map}
use Rattle.wc_resolve.specs.Views.{function_view}
use Rattle.wc_maps.proofs.LookupLemmas.{name_viewed}
use Rattle.wc_names.proofs.KeyLemmas.{function_found_at}
use Rattle.wc_names.proofs.keys.function_under_at.Goals as goal

pub returns-in-Some-clause-function : goal.returns-in-Some-clause-function
returns-in-Some-clause-function c =
    ap (option_map function_view) c.in-Some.ensures.value ∙ name_viewed function_view c.args.functions.now.entries c.args.name.now

pub returns-in-Some-clause-index : goal.returns-in-Some-clause-index
returns-in-Some-clause-index c =
    function_found_at c.args.functions.now.entries c.in-Some.index c.in-Some._name.now c.in-Some.function.now c.in-Some.ensures.entry

pub returns-in-None-clause-function : goal.returns-in-None-clause-function
returns-in-None-clause-function c =
    ap (option_map function_view) c.in-None.ensures.value ∙ name_viewed function_view c.args.functions.now.entries c.args.name.now
