use Rattle.std.proofs.Common.{codes}
use Rattle.wc_why_text.specs.TreeJson.{way_json}
use Rattle.wc_why.specs.Tree.{tree_way_view}
use Rattle.wc_why_text.specs.Private.Tokens.{Puts}
use Rattle.wc_why_text.proofs.TokenLemmas.{so_far}
use Rattle.wc_why_text.proofs.tree_json.put_ways.Given as goal

abbrev pub invariant-loop-way : goal.invariant-loop-way
invariant-loop-way l = Puts l.fn.out l.out (so_far (codes "ways") way_json tree_way_view l.ways l.way-index)
