use Rattle.std.proofs.Common.{codes}
use Rattle.wc_why_text.specs.TreeJson.{caller_json}
use Rattle.wc_why.specs.Tree.{tree_caller_view}
use Rattle.wc_why_text.specs.Private.Tokens.{Puts}
use Rattle.wc_why_text.proofs.TokenLemmas.{so_far}
use Rattle.wc_why_text.proofs.tree_json.put_caller_list.Given as goal

abbrev pub invariant-loop-caller : goal.invariant-loop-caller
invariant-loop-caller l = Puts l.fn.out l.out (so_far (codes "first") caller_json tree_caller_view l.callers l.caller-index)
