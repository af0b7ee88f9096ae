use Rattle.std.proofs.Common.{sym, ◌∙◌}
use Rattle.wc_why_text.proofs.WayLemmas.{none_put, one_put}
use Rattle.wc_why_text.proofs.ways.put_chosen.Goals as goal

pub returns-then-is_chosen : goal.returns-then-is_chosen
returns-then-is_chosen c =
    one_put c.args.imports c.args.way.now c.args.chosen.now.items c.push_way.new.ways.items c.push_way.result (sym c.is_chosen.ensures ∙ c.if-is_chosen.true)
    c.push_way.ensures

pub returns-else-is_chosen : goal.returns-else-is_chosen
returns-else-is_chosen c = none_put c.args.imports c.args.way.now c.args.chosen.now.items (sym c.is_chosen.ensures ∙ c.if-is_chosen.false)
