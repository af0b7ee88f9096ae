use Rattle.std.proofs.Common.{◌∙◌, ap, map}
use Rattle.wc_why.specs.Tree.{tree_way_view}
use Rattle.wc_why_text.specs.TreeGraph.{label_of}
use Rattle.wc_why_text.proofs.tree_graph.label_text.Goals as goal

pub returns : goal.returns
returns c = c.label_of.ensures ∙ ap label_of (ap (map tree_way_view) c.deref.ensures.value ∙ c.in_ok-reached.ensures)
