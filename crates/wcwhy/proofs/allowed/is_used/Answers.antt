use Rattle.std.proofs.Common.{◌∙◌, ap}
use Rattle.wc_import_paths.specs.Patterns.{is_known}
use Rattle.wcwhy.specs.Allowed.{entry_view}
use Rattle.wcwhy.proofs.AllowedLemmas.{used_is}
use Rattle.wcwhy.proofs.allowed.is_used.Goals as goal

pub returns : goal.returns
returns c =
    c.is_known.ensures ∙ (ap (is_known c.args.offered.now) c.key_pattern.ensures ∙ used_is c.args.offered.now (entry_view c.args.entry.now))
