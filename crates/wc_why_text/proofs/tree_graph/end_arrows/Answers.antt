use Rattle.std.proofs.Common.{ℕ, List, ◌∙◌, ap, rules, string_bytes, arith}
use Rattle.std.specs.Borrow.{Bor}
use Rattle.std.specs.List.{flat_map}
use Rattle.std.specs.declared.alloc.Global.{Global}
use Rattle.std.specs.declared.vec.Vec.{Vec}
use Rattle.std.proofs.lemmas.List.{length-map}
use Rattle.wc_why_text.proofs.EnumerateLemmas.{join_all, join_more}
use Rattle.wc_why_text.specs.Groups.{group_names, group_ways}
use Rattle.wc_why_text.specs.Runs.{runs_view}
use Rattle.wc_why.specs.declared.tree.TreeWay.{TreeWay}
use Rattle.wc_why_text.specs.TreeGraph.{end_arrow}
use Rattle.wc_why_text.proofs.tree_graph.end_arrows.Goals as goal

pub loop-number-init : goal.loop-number-init
loop-number-init c = c.new-text.ensures.bytes

pub loop-number-preserved : goal.loop-number-preserved
loop-number-preserved c =
    let name = c.group_at.result.0 in
    join_more (λ (e : ℕ × List ℕ). flat_map (end_arrow (runs_view c.args.runs.now) e.0) (group_ways c.args.groups.now.entries e.1)) (group_names c.args.groups.now.entries)
    c.loop-number.number name.now (string_bytes c.loop-number.text) (string_bytes c.push_str.new.self) (string_bytes c.in_ok-part.part)
    c.group_at.ensures.name c.loop-number.invariant (search rules)
    (c.in_ok-part.ensures ∙ ap (flat_map (end_arrow (runs_view c.args.runs.now) c.loop-number.number)) c.group_at.ensures.ways)

pub returns : goal.returns
returns c =
    join_all (λ (e : ℕ × List ℕ). flat_map (end_arrow (runs_view c.args.runs.now) e.0) (group_ways c.args.groups.now.entries e.1)) (group_names c.args.groups.now.entries)
    c.loop-number.number (string_bytes c.loop-number.text)
    (omega (arith, length-map c.args.groups.now.entries (λ (e : Bor (List ℕ) × Vec TreeWay Global). e.0.now), c.loop-number-test.false))
    c.loop-number.invariant
