use Rattle.std.proofs.Common.{All, List, sym, subst}
use Rattle.wc_resolve.specs.declared.long_functions.LongFunction.{LongFunction}
use Rattle.wc_resolve.specs.Kinds.{ResolveView}
use Rattle.wc_resolve.specs.LongFunctions.{IsLongFunction}
use Rattle.wc_resolve.specs.ResolveParts.{parts_view}
use Rattle.wc_resolve.proofs.resolve.Resolve.long_functions.Goals as goal

pub returns : goal.returns
returns c =
    subst (λ (v : ResolveView). All (IsLongFunction v) c.deref.result.now) c.self.view_is
    (subst (λ (z : List LongFunction). All (IsLongFunction (parts_view c.self.inside.parts)) z) (sym c.deref.ensures.value) c.self.invariant.has_futures.has_functions)
