use Rattle.std.proofs.Common.{◌<◌, ◌≤◌, length, refl, sym, ◌∙◌, ap, arith}
use Rattle.wc_read.specs.Imports.{import_values}
use Rattle.wc_paths.specs.Graph.{graph_value}
use Rattle.wc_paths.specs.Items.{CountsValue, counts_of}
use Rattle.wc_paths.specs.Numbers.{item_count}
use Rattle.wc_summary.proofs.OwnerLemmas.{owners_all, owners_next}
use Rattle.wc_summary.proofs.leads.owners_of.Goals as goal
use Rattle.wc_summary.specs.Leads.{as_number}

pub loop-position-preserved : goal.loop-position-preserved
loop-position-preserved c =
    let g = c.args.graph.now in
    let items = c.in_ok-items.items.items in
    let k = c.loop-position.position in
    let within : k < length c.args.places.now = omega arith in
    owners_next (counts_of (graph_value g)) (import_values c.args.imports.now) items c.args.places.now g.total k c.number_if.result _ _ c.index.result.now
    c.loop-position.owners.items c.own.new.owners.items c.requires within c.in_ok-items.ensures (sym c.index.ensures)
    (c.number_if.ensures ∙ ap (λ (z : CountsValue). as_number z c.index.result.now) g.counted) refl c.loop-position.invariant c.own.ensures

pub returns : goal.returns
returns c =
    let g = c.args.graph.now in
    let over : length c.args.places.now ≤ c.loop-position.position = omega arith in
    record {
      sized = c.loop-position.invariant.sized ∙ (g.summed ∙ ap item_count g.counted);
      at = owners_all (counts_of (graph_value g)) (import_values c.args.imports.now) c.args.places.now g.total c.loop-position.position c.loop-position.owners.items over
          c.loop-position.invariant;
    }
