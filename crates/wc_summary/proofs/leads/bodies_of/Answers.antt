use Rattle.std.proofs.Common.{◌<◌, ◌+◌, ◌∙◌, length, map, ap, option_map, arith}
use Rattle.std.proofs.lemmas.Bool.{lt-ltb}
use Rattle.std.proofs.lemmas.Option.{slice_get-get_or, slice_get-map}
use Rattle.wc_paths.specs.Graph.{graph_value}
use Rattle.wc_paths.specs.Items.{CountsValue, counts_of}
use Rattle.wc_read.specs.Items.{func_value}
use Rattle.wc_summary.proofs.OwnerLemmas.{bodies_next}
use Rattle.wc_summary.proofs.leads.bodies_of.Goals as goal

pub number_of-number-requires-clause-there : goal.number_of-number-requires-clause-there
number_of-number-requires-clause-there c =
    let g = c.args.graph.now in
    let within : c.loop-index.index < length c.args.funcs.now = omega arith in
    let n = c.requires in
    let e = ap (λ (z : CountsValue). z.funcs) g.counted in
    lt-ltb c.loop-index.index g.counts.funcs (omega (arith, within, n, e))

pub loop-index-preserved : goal.loop-index-preserved
loop-index-preserved c =
    let g = c.args.graph.now in
    let funcs = c.args.funcs.now in
    let k = c.loop-index.index in
    let within : k < length funcs = omega arith in
    bodies_next (map func_value funcs) (counts_of (graph_value g)).types k c.number_of-number.result _ c.loop-index.bodies.items c.note_body.new.bodies.items
    (slice_get-map func_value funcs k ∙ ap (option_map func_value) (slice_get-get_or funcs k _ within))
    (c.number_of-number.ensures ∙ ap (λ (z : CountsValue). z.types + k) g.counted) c.loop-index.invariant c.in_ok-note_body.ensures
