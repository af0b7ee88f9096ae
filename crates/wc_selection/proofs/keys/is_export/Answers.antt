use Rattle.std.proofs.Common.{◌∙◌}
use Rattle.wc_selection.proofs.TestLemmas.{key_in}
use Rattle.wc_selection.proofs.keys.is_export.Goals as goal

pub returns : goal.returns
returns c = c.has_key_text.ensures ∙ key_in c.args.keys.now c.args.text.now
