use Rattle.wc_resolve.specs.Roots.{type_roots}
use Rattle.wc_resolve.specs.Live.{listing_from}
use Rattle.wc_resolve.proofs.WalkLemmas.{stopped, stopped_first}
use Rattle.wc_resolve.proofs.live.LiveTypes.add_type.Goals as goal

pub returns-in_err-roots-clause-begun : goal.returns-in_err-roots-clause-begun
returns-in_err-roots-clause-begun c = stopped _ _ (stopped_first c.args.resolve.now.types c.args.self.now (listing_from c.args.resolve.now.types (type_roots c.args.ty)))

pub returns-clause-added : goal.returns-clause-added
returns-clause-added c = rw (← c.in_ok-roots.ensures) c.add.ensures.added

pub returns-clause-begun : goal.returns-clause-begun
returns-clause-begun c = rw (← c.in_ok-roots.ensures) c.add.ensures.begun
