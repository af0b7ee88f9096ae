use Rattle.std.proofs.Common.{◌∙◌, [], IfSome, OnOk, Option, ap, refl, sym, subst, length}
use Rattle.std.specs.Option.{option_map, option_map_or}
use Rattle.wc_resolve.specs.Live.{AddsListings}
use Rattle.wc_resolve.specs.Ranges.{IsFunctionIn}
use Rattle.wc_resolve.specs.Roots.{function_roots}
use Rattle.wc_resolve.specs.Views.{FunctionView, InterfaceView, function_view}
use Rattle.wc_maps.proofs.LookupLemmas.{name_viewed}
use Rattle.wc_texts.specs.Names.{under_name}
use Rattle.wc_world.proofs.live.add_function.Goals as goal

pub add_func-requires : goal.add_func-requires
add_func-requires c =
    subst (λ (o : Option FunctionView). IfSome o (IsFunctionIn (length c.args.resolve.now.types)))
    (ap (λ o. under_name (option_map_or (λ (v : InterfaceView). v.functions) o []) c.args.name.now) c.interface.ensures
    ∙ sym (ap (option_map function_view) c.in-Some.ensures.value ∙ name_viewed function_view c.interface.result.now.functions.entries c.args.name.now))
    c.requires.function

pub returns-in-Some : goal.returns-in-Some
returns-in-Some c =
    subst (λ (o : Option FunctionView). OnOk c.add_func.result (AddsListings c.args.resolve.now c.args.live.now c.add_func.new.self (option_map_or function_roots o [])))
    (ap (option_map function_view) c.in-Some.ensures.value ∙ (name_viewed function_view c.interface.result.now.functions.entries c.args.name.now
    ∙ sym (ap (λ o. under_name (option_map_or (λ (v : InterfaceView). v.functions) o []) c.args.name.now) c.interface.ensures)))
    c.add_func.ensures.added

pub returns-in-None : goal.returns-in-None
returns-in-None c =
    subst (λ (o : Option FunctionView). AddsListings c.args.resolve.now c.args.live.now c.args.live.now (option_map_or function_roots o []))
    (ap (option_map function_view) c.in-None.ensures.value ∙ (name_viewed function_view c.interface.result.now.functions.entries c.args.name.now
    ∙ sym (ap (λ o. under_name (option_map_or (λ (v : InterfaceView). v.functions) o []) c.args.name.now) c.interface.ensures)))
    (λ complete. (complete, refl))
