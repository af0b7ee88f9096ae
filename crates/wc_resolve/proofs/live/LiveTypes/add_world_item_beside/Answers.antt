use Rattle.std.proofs.Common.{◌++◌, List, ℕ, subst}
use Rattle.std.specs.List.{Contains}
use Rattle.wc_resolve.specs.Roots.{item_roots}
use Rattle.wc_resolve.specs.Views.{item_view}
use Rattle.wc_resolve.proofs.RootsInLemmas.{item_in}
use Rattle.wc_resolve.specs.Live.{listing_from}
use Rattle.wc_resolve.proofs.WalkLemmas.{stopped, stopped_first}
use Rattle.wc_resolve.proofs.live.LiveTypes.add_world_item_beside.Goals as goal

pub returns-in_err-roots-clause-begun : goal.returns-in_err-roots-clause-begun
returns-in_err-roots-clause-begun g c = stopped _ _ (stopped_first c.args.resolve.now.types (g.K.KnownTypes.known_of c.args.known.now ++ c.args.self.now) (listing_from c.args.resolve.now.types (item_roots c.args.resolve.now (item_view c.args.item.now))))

pub add-requires : goal.add-requires
add-requires g c = λ x h. item_in c.args.resolve.now (item_view c.args.item.now) c.well_formedness.ensures.in_range c.requires x (subst (λ (z : List ℕ). Contains z x) c.in_ok-roots.ensures h)

pub returns-clause-added : goal.returns-clause-added
returns-clause-added g c = rw (← c.in_ok-roots.ensures) c.add.ensures.added

pub returns-clause-begun : goal.returns-clause-begun
returns-clause-begun g c = rw (← c.in_ok-roots.ensures) c.add.ensures.begun
