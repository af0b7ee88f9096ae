use Rattle.std.proofs.Common.{◌∙◌, ap, not}
use Rattle.wc_selection.proofs.RequiredLemmas.{any_listed}
use Rattle.wc_selection.proofs.module_keys.gives_keys.Goals as goal

pub returns-in-Main : goal.returns-in-Main
returns-in-Main c = rw c.in-Main.is (ap not c.is_empty.ensures ∙ any_listed c.args.request.now.exports.now)
