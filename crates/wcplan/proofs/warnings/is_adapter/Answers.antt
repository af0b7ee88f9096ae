use Rattle.std.proofs.Common.{◌∙◌, refl}
use Rattle.wcplan.proofs.WarningLemmas.{there_named}
use Rattle.wcplan.proofs.warnings.is_adapter.Goals as goal

pub returns : goal.returns
returns c = c.contains_key.ensures ∙ there_named _ c.args.name.now c.args.adapters.now.entries (λ k. refl)
