use Rattle.std.proofs.Common.{codes}
use Rattle.wc_why_text.specs.TreeJson.{root_json}
use Rattle.wc_why.specs.Tree.{tree_root_view}
use Rattle.wc_why_text.specs.Private.Tokens.{Puts}
use Rattle.wc_why_text.proofs.TokenLemmas.{so_far}
use Rattle.wc_why_text.proofs.tree_json.put_roots.Given as goal

abbrev pub invariant-loop-root : goal.invariant-loop-root
invariant-loop-root l = Puts l.fn.out l.out (so_far (codes "roots") root_json tree_root_view l.roots l.root-index)
