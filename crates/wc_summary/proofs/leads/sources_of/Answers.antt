use Rattle.std.proofs.Common.{◌≡◌, ◌∙◌, List, Option, ℕ, ap, map}
use Rattle.std.specs.Prelude.{String}
use Rattle.std.specs.declared.alloc.Global.{Global}
use Rattle.std.specs.declared.vec.Vec.{Vec}
use Rattle.std.proofs.lemmas.Result.{IfOk-weaker}
use Rattle.wc_gc.specs.LiveItems.{names_of}
use Rattle.wc_paths.specs.Counts.{counts_value}
use Rattle.wc_paths.specs.Graph.{graph_value}
use Rattle.wc_paths.specs.Items.{CountsValue, counts_of}
use Rattle.wc_read.specs.Exports.{ExportValue, export_value}
use Rattle.wc_summary.specs.Private.Leads.{HasNamed}
use Rattle.wc_summary.proofs.leads.sources_of.Goals as goal
use Rattle.wc_summary.specs.Leads.{source_by}

pub returns : goal.returns
returns c =
    let g = c.args.graph.now in
    let exports = map export_value c.args.exports.now in
    IfOk-weaker c.sources_in.result
    (λ (v : Vec (Option ℕ) Global). (es : List ExportValue) → HasNamed es c.in_ok-named.named.entries → v.items ≡ map (source_by (counts_value g.counts) es) (names_of c.as_slice.result.now))
    (λ (v : Vec (Option ℕ) Global). v.items ≡ map (source_by (counts_of (graph_value g)) exports) (names_of c.args.required.now.keys))
    (λ v h. h exports c.in_ok-named.ensures
    ∙ (ap (λ (z : List (String Global)). map (source_by (counts_value g.counts) exports) (names_of z)) c.as_slice.ensures.keys
    ∙ ap (λ (z : CountsValue). map (source_by z exports) (names_of c.args.required.now.keys)) g.counted)) c.sources_in.ensures
