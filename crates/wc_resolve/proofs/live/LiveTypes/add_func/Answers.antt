use Rattle.std.proofs.Common.{List, ℕ, subst}
use Rattle.std.specs.List.{Contains}
use Rattle.wc_resolve.specs.Roots.{function_roots}
use Rattle.std.proofs.Common.{length}
use Rattle.wc_resolve.specs.Views.{function_view}
use Rattle.wc_resolve.proofs.RootsInLemmas.{function_in}
use Rattle.wc_resolve.specs.Live.{listing_from}
use Rattle.wc_resolve.proofs.WalkLemmas.{stopped, stopped_first}
use Rattle.wc_resolve.proofs.live.LiveTypes.add_func.Goals as goal

pub returns-in_err-roots-clause-begun : goal.returns-in_err-roots-clause-begun
returns-in_err-roots-clause-begun c = stopped _ _ (stopped_first c.args.resolve.now.types c.args.self.now (listing_from c.args.resolve.now.types (function_roots (function_view c.args.function.now))))

pub add-requires : goal.add-requires
add-requires c = λ x h. function_in (length c.args.resolve.now.types) (function_view c.args.function.now) c.requires x (subst (λ (z : List ℕ). Contains z x) c.in_ok-roots.ensures h)

pub returns-clause-added : goal.returns-clause-added
returns-clause-added c = rw (← c.in_ok-roots.ensures) c.add.ensures.added

pub returns-clause-begun : goal.returns-clause-begun
returns-clause-begun c = rw (← c.in_ok-roots.ensures) c.add.ensures.begun
