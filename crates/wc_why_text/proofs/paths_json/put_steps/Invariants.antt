use Rattle.std.proofs.Common.{map}
use Rattle.wc_why.specs.Tree.{tree_module_view}
use Rattle.wc_why_text.specs.Private.Tokens.{Puts}
use Rattle.wc_why_text.proofs.StepLemmas.{steps_so_far}
use Rattle.wc_why_text.proofs.paths_json.put_steps.Given as goal

abbrev pub invariant-loop-item : goal.invariant-loop-item
invariant-loop-item l = Puts l.fn.out l.out (steps_so_far (map tree_module_view l.modules) l.items l.item-index)
