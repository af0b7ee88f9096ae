use Rattle.wc_paths.specs.Graph.{graph_value}
use Rattle.wc_paths.specs.Items.{counts_of}
use Rattle.wc_read.specs.Imports.{import_values}
use Rattle.wc_summary.proofs.OwnerLemmas.{AreOwnersTo}
use Rattle.wc_summary.proofs.leads.owners_of.Given as goal

abbrev pub invariant-loop-position : goal.invariant-loop-position
invariant-loop-position l = AreOwnersTo (counts_of (graph_value l.graph)) (import_values l.imports) l.places l.graph.total l.position l.owners.items
