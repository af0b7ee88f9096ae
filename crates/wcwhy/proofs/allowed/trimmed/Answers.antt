use Rattle.std.proofs.Common.{◌∙◌, ap}
use Rattle.wcwhy.specs.Allowed.{trimmed_end}
use Rattle.wcwhy.proofs.AllowedLemmas.{end_is, start_is}
use Rattle.wcwhy.proofs.allowed.trimmed.Goals as goal

pub returns : goal.returns
returns c =
    end_is c.trim_ascii_start.result.now c.trim_ascii_end.result.now c.trim_ascii_end.ensures.value
    ∙ ap trimmed_end (start_is c.args.text.now c.trim_ascii_start.result.now c.trim_ascii_start.ensures.value)
