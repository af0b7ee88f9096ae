use Rattle.std.proofs.Common.{refl}
use Rattle.wc_why.specs.Tree.{tree_view}
use Rattle.wc_import_paths.proofs.JsonPathsLemmas.{paths_text, tree_for}
use Rattle.wc_import_paths.proofs.json_paths.followed_text.Goals as goal

pub returns : goal.returns
returns c bytes exports h =
    let t = tree_view c.in_ok-tree.tree in
    paths_text bytes exports c.args.asked.now t (tree_for bytes exports c.args.asked.now c.args.followed.now h _ refl t c.in_ok-tree.ensures)
    c.paths_to_json.result c.paths_to_json.ensures.text c.paths_to_json.ensures.reads_back
