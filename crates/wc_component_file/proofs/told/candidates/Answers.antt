use Rattle.std.proofs.Common.{sym, ◌∙◌}
use Rattle.wc_maps.proofs.ListLemmas.{count_map}
use Rattle.wc_component_file.specs.Told.{is_candidate, told_view}
use Rattle.wc_component_file.proofs.told.candidates.Goals as goal

pub returns : goal.returns
returns c = c.count_candidates.ensures ∙ sym (count_map told_view is_candidate c.args.told.now)
