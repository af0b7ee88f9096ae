use Rattle.std.proofs.Common.{◌∙◌}
use Rattle.wc_import_paths.proofs.RowLemmas.{counts_are, rows_are}
use Rattle.wc_import_paths.proofs.rows.ModuleRows.of.Goals as goal

pub returns : goal.returns
returns c = record {
  counted = counts_are c.args.code.now c.args.segments.now c.in_ok-graph.graph (c.in_ok-graph.ensures.graph);
  are = rows_are c.args.code.now c.args.segments.now c.in_ok-graph.graph (c.in_ok-graph.ensures.graph) c.in_ok-rows.rows c.in_ok-rows.ensures;
}

pub invariant_of-result : goal.invariant_of-result
invariant_of-result c =
    let mg = c.in_ok-graph.graph in
    let e = mg.summed in
    let f = mg.fits in
    record { fits = rw e at f; sized = c.in_ok-rows.ensures.sized ∙ e }
