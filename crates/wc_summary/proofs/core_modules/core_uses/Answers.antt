use Rattle.std.proofs.Common.{◌∙◌, ◌+◌, List, Option, ℕ, length, ap, map, subst, sym}
use Rattle.std.proofs.lemmas.Result.{IfOk-weaker}
use Rattle.wc_read.specs.Imports.{import_values}
use Rattle.wc_read.specs.Items.{func_value}
use Rattle.wc_paths.specs.Graph.{graph_value}
use Rattle.wc_paths.specs.Items.{CountsValue, counts_of}
use Rattle.wc_paths.specs.Numbers.{item_count}
use Rattle.wc_paths.proofs.PathLemmas.{graph_is}
use Rattle.wc_segments.specs.Segments.{segments_value}
use Rattle.wc_graph.specs.Positions.{AreBelow}
use Rattle.wc_summary.specs.CoreModules.{core_value, label_value}
use Rattle.wc_summary.specs.Leads.{own_bodies}
use Rattle.wc_summary.specs.Private.CoreModules.{AreCoreUses, label_number}
use Rattle.wc_summary.specs.Private.SummaryAdapters.{UsesGraph}
use Rattle.wc_summary.specs.Private.SummaryMain.{AreOwnersOf}
use Rattle.wc_summary.proofs.AdapterPartLemmas.{owners_within}
use Rattle.wc_summary.proofs.CorePartLemmas.{core_uses_are, funcs_in, labels_below}
use Rattle.wc_summary.proofs.core_modules.core_uses.Goals as goal

pub bodies_of-requires : goal.bodies_of-requires
bodies_of-requires c =
    let core = c.args.core.now in
    let is = c.in_ok-graph.ensures.graph ∙ graph_is core.code.now core.segments.now in
    funcs_in core.code.now (segments_value core.segments.now) (graph_value c.in_ok-graph.graph) c.deref-2.result.now c.deref-2.ensures.value is

pub uses_in-requires-clause-sources : goal.uses_in-requires-clause-sources
uses_in-requires-clause-sources c =
    let g = c.in_ok-graph.graph in
    let labels = map label_value c.args.core.now.labels.now in
    subst (AreBelow g.total) (sym c.deref-3.ensures.value)
    (labels_below (counts_of (graph_value g)) labels c.in_ok-sources.sources.items g.total
    (g.summed ∙ ap item_count g.counted) (c.in_ok-sources.ensures ∙ ap (λ (z : CountsValue). map (label_number z) labels) g.counted))

pub uses_in-requires-clause-owners : goal.uses_in-requires-clause-owners
uses_in-requires-clause-owners c =
    let g = c.in_ok-graph.graph in
    subst (λ (os : List (Option ℕ)). AreBelow (length c.in_ok-counts.counts.items) os) (sym c.deref-4.ensures.value)
    (owners_within (counts_of (graph_value g)) (import_values c.deref.result.now) c.args.places.now c.in_ok-owners.owners.items c.args.count (length c.in_ok-counts.counts.items)
    c.in_ok-counts.ensures.each c.requires.below c.in_ok-owners.ensures)

pub returns : goal.returns
returns c =
    let a = core_value c.args.core.now in
    let g = c.in_ok-graph.graph in
    let places = c.args.places.now in
    let sources = c.deref-3.result.now in
    let owners = c.deref-4.result.now in
    let bodies = c.deref-5.result.now in
    let counts = c.in_ok-counts.counts.items in
    let is = c.in_ok-graph.ensures.graph ∙ graph_is c.args.core.now.code.now c.args.core.now.segments.now in
    IfOk-weaker c.uses_in.result (UsesGraph (graph_value g) (sources, owners) bodies counts) (AreCoreUses a places c.args.count)
    (λ u h. core_uses_are a (graph_value g) is places sources owners bodies c.args.count counts u
    (record {
      sources_are = c.deref-3.ensures.value ∙ (c.in_ok-sources.ensures ∙ ap (λ (z : CountsValue). map (label_number z) a.labels) g.counted);
      owners_are = subst (λ (os : List (Option ℕ)). AreOwnersOf (counts_of (graph_value g)) a.value.imports places os) (sym c.deref-4.ensures.value)
          (subst (λ z. AreOwnersOf (counts_of (graph_value g)) (import_values z) places c.in_ok-owners.owners.items) c.deref.ensures.value c.in_ok-owners.ensures);
      bodies_are = c.deref-5.ensures.value ∙ (c.in_ok-bodies.ensures
          ∙ ap (λ z. map (λ (b : ℕ × ℕ). ((counts_of (graph_value g)).types + b.0, b.1)) (own_bodies (map func_value z))) c.deref-2.ensures.value);
    }) c.in_ok-counts.ensures h) c.uses_in.ensures
