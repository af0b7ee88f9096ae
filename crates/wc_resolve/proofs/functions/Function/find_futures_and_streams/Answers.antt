use Rattle.std.proofs.Common.{List, ℕ, ◌∙◌, length, map, ap, subst}
use Rattle.std.proofs.Common.{◌++◌}
use Rattle.std.specs.List.{Contains}
use Rattle.wc_resolve.specs.Roots.{id_index, passed_roots}
use Rattle.wc_resolve.specs.Views.{function_view}
use Rattle.wc_resolve.proofs.RootsInLemmas.{passes_in}
use Rattle.wc_resolve.proofs.functions.Function.find_futures_and_streams.Goals as goal

pub list-requires : goal.list-requires
list-requires c = λ x h.
    passes_in (length c.args.resolve.now.types) (function_view c.args.self.now) c.requires x
    (subst (λ (z : List ℕ). Contains z x) (c.in_ok-push_passed.ensures ∙ ap (λ z. map id_index z ++ passed_roots (function_view c.args.self.now)) c.new-roots.ensures.items) h)
