use Rattle.std.proofs.Common.{refl}
use Rattle.wc_read.specs.Operators.{byte_form}
use Rattle.wc_read.proofs.PassKindsLemmas.{by_table}
use Rattle.wc_read.proofs.pass_kinds.pass_kind.Goals as goal

pub returns : goal.returns
unfolding byte_form
returns c = by_table _ refl c.args.code c.ranges.code.fits _
