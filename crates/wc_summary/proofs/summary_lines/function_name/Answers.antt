use Rattle.std.proofs.Common.{◌∙◌}
use Rattle.wc_summary.proofs.SummaryTextLemmas.{name_found}
use Rattle.wc_summary.proofs.summary_lines.function_name.Goals as goal

pub returns : goal.returns
returns c = name_found c.args.names.now.entries c.args.index c.copied.result (c.copied.ensures ∙ c.get.ensures)
