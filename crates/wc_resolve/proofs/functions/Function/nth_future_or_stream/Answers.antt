use Rattle.std.proofs.Common.{[], ◌∙◌, ◌++◌, List, String, ap, length, sym, subst}
use Rattle.std.specs.List.{All, slice_get}
use Rattle.std.specs.Option.{option_map_or}
use Rattle.std.specs.declared.alloc.Global.{Global}
use Rattle.wc_resolve.specs.declared.types.WitType.{WitType}
use Rattle.wc_resolve.specs.Futures.{futures_from}
use Rattle.wc_resolve.specs.Ranges.{IsTypeIn}
use Rattle.wc_resolve.specs.Roots.{param_roots, passed_roots, type_roots}
use Rattle.wc_resolve.specs.Views.{function_view}
use Rattle.wc_resolve.proofs.FuturesAtLemmas.{outcome_in, params_in, passed_viewed}
use Rattle.wc_resolve.proofs.functions.Function.nth_future_or_stream.Goals as goal

pub nth_passed-requires-clause-params : goal.nth_passed-requires-clause-params
nth_passed-requires-clause-params c =
    subst (λ (z : List (String Global × WitType)). All (λ (p : String Global × WitType). IsTypeIn (length c.args.resolve.now.types) p.1) z) (sym c.deref.ensures.value) (params_in (length c.args.resolve.now.types) c.args.self.now c.requires)

pub nth_passed-requires-clause-outcome : goal.nth_passed-requires-clause-outcome
nth_passed-requires-clause-outcome c = outcome_in (length c.args.resolve.now.types) c.args.self.now c.requires

pub returns : goal.returns
returns c =
    c.nth_passed.ensures
    ∙ ap (λ (z : List (String Global × WitType)). slice_get (futures_from c.args.resolve.now.types (param_roots z ++ option_map_or type_roots c.args.self.now.result [])) c.from.result) c.deref.ensures.value
    ∙ ap (λ z. slice_get (futures_from c.args.resolve.now.types z) c.from.result) (sym (passed_viewed c.args.self.now)) ∙ ap (slice_get (futures_from c.args.resolve.now.types (passed_roots (function_view c.args.self.now)))) c.from.ensures
