use Rattle.std.proofs.Common.{refl}
use Rattle.wc_read.specs.Operators.{byte_form}
use Rattle.wc_read.proofs.PassKindsLemmas.{by_sizes}
use Rattle.wc_read.proofs.pass_kinds.short_size.Goals as goal

pub returns : goal.returns
unfolding byte_form
returns c = by_sizes _ refl c.args.code c.ranges.code.fits _
