use Rattle.std.proofs.Common.{codes, map}
use Rattle.wc_why.specs.Tree.{tree_module_view, tree_way_view}
use Rattle.wc_why_text.specs.PathsJson.{path_json}
use Rattle.wc_why_text.specs.Private.Tokens.{Puts}
use Rattle.wc_why_text.proofs.TokenLemmas.{so_far}
use Rattle.wc_why_text.proofs.paths_json.put_path_list.Given as goal

abbrev pub invariant-loop-way : goal.invariant-loop-way
invariant-loop-way l = Puts l.fn.out l.out (so_far (codes "ways") (path_json (map tree_module_view l.modules)) tree_way_view l.ways l.way-index)
