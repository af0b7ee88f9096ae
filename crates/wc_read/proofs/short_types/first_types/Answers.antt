use Rattle.std.proofs.Common.{arith}
use Rattle.wc_read.proofs.ShortTypesLemmas.{take_most}
use Rattle.wc_read.proofs.short_types.first_types.Goals as goal

pub returns-then-count-types : goal.returns-then-count-types
returns-then-count-types c = take_most c.args.count c.args.types.now (omega arith)
