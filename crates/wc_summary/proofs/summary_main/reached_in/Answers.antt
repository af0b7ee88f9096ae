use Rattle.std.proofs.Common.{◌∙◌, ap, rules}
use Rattle.std.proofs.lemmas.Result.{IfOk-weaker}
use Rattle.wc_paths.specs.Counts.{counts_value}
use Rattle.wc_paths.specs.Graph.{graph_value}
use Rattle.wc_paths.specs.Items.{counts_of}
use Rattle.wc_paths.specs.Numbers.{item_count, numbers_in}
use Rattle.wc_paths.specs.Roots.{first_roots, second_roots}
use Rattle.wc_read.specs.Modules.{module_value}
use Rattle.wc_segments.specs.Segments.{segments_value}
use Rattle.wc_graph.specs.Labels.{IsSpread}
use Rattle.wc_summary.proofs.NamerLemmas.{marked_as, reached_words}
use Rattle.wc_summary.proofs.summary_main.reached_in.Goals as goal
use Rattle.wc_summary.specs.Leads.{AreReached}

pub returns : goal.returns
returns c =
    let g = graph_value c.args.graph.now in
    let first = first_roots (module_value c.args.code.now) in
    let second = second_roots (segments_value c.args.segments.now) in
    IfOk-weaker c.spread.result (λ words. IsSpread (numbers_in g) c.mark_roots-2.new.labels.items words.items) (λ words. AreReached g first second words.items)
    (λ words all. reached_words g first second c.in_ok-labels.labels.items c.mark_roots.new.labels.items c.mark_roots-2.new.labels.items words.items c.len.result
    (c.in_ok-labels.ensures.items_if_clones_equal (search rules))
    (c.len.ensures ∙ (c.args.graph.now.summed ∙ ap item_count c.args.graph.now.counted))
    (marked_as (counts_value c.args.graph.now.counts) (counts_of g) _ first _ _ c.args.graph.now.counted (c.deref.ensures.value ∙ c.in_ok-first_roots.ensures) c.mark_roots.ensures)
    (marked_as (counts_value c.args.graph.now.counts) (counts_of g) _ second _ _ c.args.graph.now.counted (c.deref-2.ensures.value ∙ c.in_ok-second_roots.ensures) c.mark_roots-2.ensures)
    all)
    c.spread.ensures
