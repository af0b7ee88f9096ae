use Rattle.wc_ways.proofs.AskedKeyLemmas.{own_none, own_texts}
use Rattle.wc_ways.proofs.asked_keys.AskedKeys.own_names.Goals as goal

pub returns-then-is_asked : goal.returns-then-is_asked
returns-then-is_asked c w key h = own_texts w key c.args.own.now c.args.self.now c.is_asked.result h c.is_asked.ensures c.if-is_asked.true

pub returns-else-is_asked : goal.returns-else-is_asked
returns-else-is_asked c w key h = own_none w key c.args.own.now c.args.self.now c.is_asked.result h c.is_asked.ensures c.if-is_asked.false
