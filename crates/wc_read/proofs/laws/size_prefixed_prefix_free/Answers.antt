use Rattle.wc_read.specs.Contents.{SpellsSizePrefixed}
use Rattle.wc_read.specs.Reading.Contents.{size_prefixed_at}
use Rattle.wc_read.proofs.FormatLemmas.{prefix_free}
use Rattle.wc_read.proofs.ContentsLemmas.{size_prefixed_meets}
use Rattle.wc_read.proofs.laws.size_prefixed_prefix_free.Goals as goal

pub returns : goal.returns
returns c = prefix_free SpellsSizePrefixed size_prefixed_at size_prefixed_meets
