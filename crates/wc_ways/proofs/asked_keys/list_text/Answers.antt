use Rattle.std.proofs.lemmas.Result.{on_ok_weaker}
use Rattle.wc_ways.proofs.AskedKeyLemmas.{lists_one, lists_other}
use Rattle.wc_ways.proofs.asked_keys.list_text.Goals as goal

pub returns-then-is_asked : goal.returns-then-is_asked
returns-then-is_asked c =
    on_ok_weaker c.list_name.result
    (lists_one c.args.names.now.entries c.args.key.now c.args.named.1.now c.args.named.0.0 c.is_asked.result c.is_asked.ensures c.list_name.new.names.entries
    c.if-is_asked.true)
    c.list_name.ensures

pub returns-else-is_asked : goal.returns-else-is_asked
returns-else-is_asked c =
    lists_other c.args.names.now.entries c.args.key.now c.args.named.1.now c.args.named.0.0 c.is_asked.result c.is_asked.ensures c.if-is_asked.false
