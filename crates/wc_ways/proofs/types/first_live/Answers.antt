use Rattle.std.proofs.Common.{◌∙◌, ap, option_map, sym}
use Rattle.wc_resolve.specs.Roots.{id_index}
use Rattle.wc_ways.proofs.TypedLemmas.{live_none, live_there}
use Rattle.wc_ways.proofs.types.first_live.Goals as goal

pub returns-in-Some : goal.returns-in-Some
returns-in-Some c =
    ap (option_map id_index) (c.copied.ensures ∙ c.first.ensures.key)
    ∙ sym (live_there c.args.id c.args.live.now.entries c.get.result c.get.ensures.value c.in-Some.types c.in-Some.is)

pub returns-in-None : goal.returns-in-None
returns-in-None c = sym (live_none c.args.id c.args.live.now.entries c.get.result c.get.ensures.value c.in-None.is)
