use Rattle.wc_names.proofs.ExportNameLemmas.{no_second_bar}
use Rattle.wc_names.proofs.export_names.standard_parts.Goals as goal

pub returns-in_default-split_at_first : goal.returns-in_default-split_at_first
returns-in_default-split_at_first c = no_second_bar c.args.name.now c.in-Some.rest.now c.in-Some.ensures.found c.in_default-split_at_first.ensures
