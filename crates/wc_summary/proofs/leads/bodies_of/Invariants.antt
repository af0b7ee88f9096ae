use Rattle.std.proofs.Common.{◌≡◌, ◌+◌, ℕ, map}
use Rattle.std.specs.List.{filter_map, range_with_len}
use Rattle.wc_paths.specs.Graph.{graph_value}
use Rattle.wc_paths.specs.Items.{counts_of}
use Rattle.wc_read.specs.Items.{func_value}
use Rattle.wc_summary.specs.Leads.{sized_body}
use Rattle.wc_summary.proofs.leads.bodies_of.Given as goal

abbrev pub invariant-loop-index : goal.invariant-loop-index
invariant-loop-index l = l.bodies.items ≡ map (λ (b : ℕ × ℕ). ((counts_of (graph_value l.graph)).types + b.0, b.1)) (filter_map (sized_body (map func_value l.funcs)) (range_with_len 0 l.index))
