use Rattle.std.proofs.Common.{◌∙◌, ◌+◌, List, Option, ℕ, length, ap, map, subst, sym}
use Rattle.std.proofs.lemmas.Result.{IfOk-weaker}
use Rattle.wc_gc.specs.LiveItems.{names_of}
use Rattle.wc_read.specs.Exports.{export_value}
use Rattle.wc_read.specs.Imports.{import_values}
use Rattle.wc_read.specs.Items.{func_value}
use Rattle.wc_read.specs.Modules.{module_value}
use Rattle.wc_paths.specs.Graph.{graph_value}
use Rattle.wc_paths.specs.Items.{counts_of}
use Rattle.wc_paths.specs.Numbers.{item_count}
use Rattle.wc_graph.specs.Positions.{AreBelow}
use Rattle.wc_summary.specs.Leads.{own_bodies, source_by}
use Rattle.wc_summary.specs.Private.SummaryAdapters.{AreUses, UsesGraph}
use Rattle.wc_summary.specs.Private.SummaryMain.{AreOwnersOf}
use Rattle.wc_summary.proofs.AdapterPartLemmas.{alone_is, funcs_are, owners_within, sources_below, uses_are}
use Rattle.wc_summary.proofs.summary_adapters.uses_of.Goals as goal

pub bodies_of-requires : goal.bodies_of-requires
bodies_of-requires c =
    let is = c.in_ok-graph.ensures.graph ∙ alone_is c.args.original.now (record { elements = c.new.result; «data» = c.new-2.result }) c.new.ensures.items c.new-2.ensures.items in
    funcs_are c.args.original.now (graph_value c.in_ok-graph.graph) c.deref-3.result.now c.deref-3.ensures.value is

pub uses_in-requires-clause-sources : goal.uses_in-requires-clause-sources
uses_in-requires-clause-sources c =
    let g = c.in_ok-graph.graph in
    subst (AreBelow g.total) (sym c.deref-4.ensures.value)
    (sources_below (counts_of (graph_value g)) (map export_value c.deref.result.now) (names_of c.args.required.now.keys) c.in_ok-sources.sources.items g.total
    (g.summed ∙ ap item_count g.counted) c.in_ok-sources.ensures)

pub uses_in-requires-clause-owners : goal.uses_in-requires-clause-owners
uses_in-requires-clause-owners c =
    let g = c.in_ok-graph.graph in
    subst (λ (os : List (Option ℕ)). AreBelow (length c.in_ok-counts.counts.items) os) (sym c.deref-5.ensures.value)
    (owners_within (counts_of (graph_value g)) (import_values c.deref-2.result.now) c.args.places.now c.in_ok-owners.owners.items c.args.count (length c.in_ok-counts.counts.items) c.in_ok-counts.ensures.each
    c.requires.below c.in_ok-owners.ensures)

pub returns : goal.returns
returns c =
    let m = module_value c.args.original.now in
    let g = graph_value c.in_ok-graph.graph in
    let names = names_of c.args.required.now.keys in
    let places = c.args.places.now in
    let sources = c.deref-4.result.now in
    let owners = c.deref-5.result.now in
    let bodies = c.deref-6.result.now in
    let counts = c.in_ok-counts.counts.items in
    let is = c.in_ok-graph.ensures.graph ∙ alone_is c.args.original.now (record { elements = c.new.result; «data» = c.new-2.result }) c.new.ensures.items c.new-2.ensures.items in
    IfOk-weaker c.uses_in.result (UsesGraph g (sources, owners) bodies counts) (AreUses m names places c.args.count)
    (λ u h. uses_are m g is names places sources owners bodies c.args.count counts u
    (record {
      sources_are = c.deref-4.ensures.value ∙ (c.in_ok-sources.ensures ∙ ap (λ z. map (source_by (counts_of g) (map export_value z)) names) c.deref.ensures.value);
      owners_are = subst (λ (os : List (Option ℕ)). AreOwnersOf (counts_of g) m.imports places os) (sym c.deref-5.ensures.value)
          (subst (λ z. AreOwnersOf (counts_of g) (import_values z) places c.in_ok-owners.owners.items) c.deref-2.ensures.value c.in_ok-owners.ensures);
      bodies_are = c.deref-6.ensures.value ∙ (c.in_ok-bodies.ensures
          ∙ ap (λ z. map (λ (b : ℕ × ℕ). ((counts_of g).types + b.0, b.1)) (own_bodies (map func_value z))) c.deref-3.ensures.value);
    }) c.in_ok-counts.ensures h) c.uses_in.ensures
