use Rattle.wc_component_file.proofs.UniqueLemmas.{files_one}
use Rattle.wc_component_file.proofs.laws.files_unique.Goals as goal

pub returns : goal.returns
returns c = files_one
