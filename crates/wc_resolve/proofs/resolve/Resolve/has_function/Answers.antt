use Rattle.std.proofs.Common.{sym, ap}
use Rattle.wc_resolve.specs.Views.{function_view}
use Rattle.wc_resolve.specs.Kinds.{ResolveView}
use Rattle.wc_resolve.proofs.ResolveLemmas.{usable}
use Rattle.wc_resolve.proofs.resolve.Resolve.has_function.Goals as goal

pub returns : goal.returns
returns c = usable c.args.self.now c.self.inside.parts.types.items c.deref.result.now (function_view c.args.function.now) c.is_usable.result c.deref.ensures.value (ap (λ (v : ResolveView). v.types) (sym c.self.view_is)) c.is_usable.ensures
