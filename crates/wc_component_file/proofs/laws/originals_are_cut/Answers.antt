use Rattle.wc_component_file.proofs.RenamedLemmas.{originals}
use Rattle.wc_component_file.proofs.laws.originals_are_cut.Goals as goal

pub returns : goal.returns
returns c = originals
