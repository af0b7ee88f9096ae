use Rattle.std.proofs.Common.{◌++◌, ◌∙◌, List, ap, map}
use Rattle.std.specs.List.{filter_map}
use Rattle.wc_resolve.specs.declared.ids.TypeId.{TypeId}
use Rattle.wc_resolve.specs.Flat.{lists}
use Rattle.wc_resolve.specs.Futures.{ends_from, entry_view, part_for}
use Rattle.wc_resolve.specs.Roots.{id_index, passed_roots}
use Rattle.wc_resolve.specs.Views.{function_view}
use Rattle.wc_resolve.proofs.CoreSignatureLemmas.{params_made}
use Rattle.wc_resolve.proofs.LongFunctionLemmas.{long_right}
use Rattle.wc_resolve.proofs.long_functions.long_function.Goals as goal

pub returns : goal.returns
returns c = λ r all flattened within at.
    long_right r (function_view c.args.function.now) _ c.args.entries.now _ all within at
    (c.in_ok-push_passed.ensures ∙ ap (λ z. map id_index z ++ passed_roots (function_view c.args.function.now)) c.new-roots.ensures.items)
    (c.in_ok-parts.ensures ∙ ap (λ (z : List TypeId). filter_map (part_for (map entry_view c.args.entries.now)) z) c.deref.ensures.value)
    (c.in_ok-ends.ensures ∙ ap (λ (z : List TypeId). ends_from (map entry_view c.args.entries.now) 0 z) c.deref-2.ensures.value)
    (params_made r.types (lists c.args.flats.now) c.args.function.now _ c.deref-3.result.now flattened within c.deref-3.ensures.value c.in_ok-own_flats.ensures)
