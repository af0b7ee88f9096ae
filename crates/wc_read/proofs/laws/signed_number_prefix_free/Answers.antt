use Rattle.wc_read.specs.Signed.{SpellsSigned}
use Rattle.wc_read.specs.Reading.Signed.{signed_at}
use Rattle.wc_read.proofs.FormatLemmas.{prefix_free}
use Rattle.wc_read.proofs.SignedLemmas.{signed_meets}
use Rattle.wc_read.proofs.laws.signed_number_prefix_free.Goals as goal

pub returns : goal.returns
returns c = λ bits. prefix_free (SpellsSigned bits) (signed_at bits) (signed_meets bits)
