use Rattle.wc_read.specs.Contents.{SpellsFuncType}
use Rattle.wc_read.specs.Reading.Contents.{func_type_at}
use Rattle.wc_read.proofs.FormatLemmas.{prefix_free}
use Rattle.wc_read.proofs.ContentsLemmas.{func_type_meets}
use Rattle.wc_read.proofs.laws.function_type_prefix_free.Goals as goal

pub returns : goal.returns
returns c = prefix_free SpellsFuncType func_type_at func_type_meets
