use Rattle.wc_read.proofs.ShortTypesLemmas.{drop_most}
use Rattle.wc_read.proofs.short_types.types_after.Goals as goal

pub returns : goal.returns
returns c = rw (c.split_at.ensures.back, c.at_most.ensures) (drop_most c.args.count c.args.types.now)
