use Rattle.wc_selection.proofs.TaskHookLemmas.{no_export}
use Rattle.wc_selection.proofs.task_hook.no_export_is_hook.Goals as goal

pub returns : goal.returns
returns c = no_export
