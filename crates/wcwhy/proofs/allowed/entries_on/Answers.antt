use Rattle.std.proofs.Common.{◌∙◌, ◌+◌, ◌++◌, ap, map}
use Rattle.wcwhy.specs.Allowed.{entry_on, entry_view}
use Rattle.wcwhy.proofs.AllowedLemmas.{entries_end, entry_more}
use Rattle.wcwhy.proofs.allowed.entries_on.Goals as goal

pub loop-line-preserved : goal.loop-line-preserved
loop-line-preserved c =
    let k = c.loop-line.line-index in
    let same = c.loop-line.invariant.0 in
    let now = map entry_view c.loop-line.entries.items in
    let put =
    c.in_ok-push_entry.ensures
    ∙ (ap (λ n. now ++ entry_on (n + 1) c.line_key.result.now) same ∙ ap (λ t. now ++ entry_on (k + 1) t) c.line_key.ensures) in
    (ap (λ n. n + 1) same, entry_more c.args.lines.now k _ now (map entry_view c.push_entry.new.entries.items) _ c.loop-line-test.true c.loop-line.invariant.1 put)

pub returns : goal.returns
returns c =
    let k = c.loop-line.line-index in
    entries_end c.args.lines.now k (k + 1) (map entry_view c.loop-line.entries.items) _ c.loop-line-test.false c.loop-line.invariant.1
