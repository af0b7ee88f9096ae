use Rattle.wc_resolve.proofs.AliasLemmas.{target_within}
use Rattle.wc_resolve.proofs.resolve.Resolve.dependency.Goals as goal

pub other_owner-requires : goal.other_owner-requires
other_owner-requires c = target_within c.args.self.now c.args.ty.0 c.in-Some.target.0 c.well_formedness.ensures.in_range c.in-Some.ensures
