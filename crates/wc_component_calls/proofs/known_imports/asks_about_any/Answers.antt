use Rattle.std.proofs.Common.{◌∙◌}
use Rattle.wc_component_calls.proofs.KeyLemmas.{asked_in_texts}
use Rattle.wc_component_calls.proofs.known_imports.asks_about_any.Goals as goal

pub returns : goal.returns
returns c = c.has_asked.ensures ∙ asked_in_texts c.args.key.now c.args.imports.now
