use Rattle.std.proofs.Common.{◌∙◌, [], OnOk, Option, ap, subst}
use Rattle.std.specs.Option.{option_map, option_map_or}
use Rattle.wc_resolve.specs.Roots.{function_roots}
use Rattle.wc_resolve.specs.Views.{FunctionView, function_view}
use Rattle.wc_maps.proofs.LookupLemmas.{name_viewed}
use Rattle.wc_ways.specs.Private.Needs.{Finds}
use Rattle.wc_ways.proofs.NeedLemmas.{finds_none}
use Rattle.wc_ways.proofs.needs.note_function_in.Goals as goal

pub returns-in-Some : goal.returns-in-Some
returns-in-Some c =
    let g = c.args.needing.now in
    subst (λ (o : Option FunctionView). OnOk c.note_function.result (Finds g c.args.found.now c.note_function.new.found (option_map_or function_roots o [])))
    (ap (option_map function_view) c.in-Some.ensures.value ∙ name_viewed function_view c.args.interface.now.functions.entries c.args.name.now)
    c.note_function.ensures

pub returns-in-None : goal.returns-in-None
returns-in-None c =
    let g = c.args.needing.now in
    subst (λ (o : Option FunctionView). Finds g c.args.found.now c.args.found.now (option_map_or function_roots o []))
    (ap (option_map function_view) c.in-None.ensures.value ∙ name_viewed function_view c.args.interface.now.functions.entries c.args.name.now)
    (finds_none g c.args.found.now)
