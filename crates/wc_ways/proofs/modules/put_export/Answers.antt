use Rattle.std.proofs.Common.{◌∙◌, sym}
use Rattle.wc_ways.proofs.FirstLemmas.{named_kept, named_put}
use Rattle.wc_ways.proofs.modules.put_export.Goals as goal

pub returns-then-contains_key : goal.returns-then-contains_key
returns-then-contains_key c front h = named_kept front c.args.export.now c.args.named.now.entries h (sym c.contains_key.ensures ∙ c.if-contains_key.true)

pub returns : goal.returns
returns c front h =
    named_put front c.args.export.now c.args.named.now.entries c.insert.new.self.entries h (sym c.contains_key.ensures ∙ c.if-contains_key.false)
    c.in_ok-insert.ensures.updates.0
