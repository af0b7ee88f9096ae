use Rattle.std.proofs.Common.{◌<◌, length, rules, set, bit_or, ap, ℕ}
use Rattle.std.proofs.lemmas.List.{get_or_read}
use Rattle.wc_graph.proofs.MarkLemmas.{joined_some}
use Rattle.wc_graph.proofs.marks.join.Goals as goal

pub returns-in-Some : goal.returns-in-Some
returns-in-Some c =
    let old = c.args.words.now.items in
    let within : c.in-Some.item < length old = search rules in
    joined_some c.args.item c.in-Some.item c.args.word old (set old c.in-Some.item (bit_or c.index.result.now c.args.word)) c.in-Some.is within
    (ap (λ (v : ℕ). set old c.in-Some.item (bit_or v c.args.word)) (get_or_read old c.in-Some.item c.index.result.now within c.index.ensures 0))
