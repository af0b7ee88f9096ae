use Rattle.std.proofs.Common.{◌∙◌}
use Rattle.wc_ways.proofs.FoundLemmas.{in_items}
use Rattle.wc_ways.proofs.PartLemmas.{link_read}
use Rattle.wc_ways.proofs.parts.link_at.Goals as goal

pub bounds-items-position : goal.bounds-items-position
bounds-items-position c = in_items c.args.imports.now c.args.items.now c.args.position c.requires.items c.requires.there

pub returns : goal.returns
returns c =
    c.link_from.ensures
    ∙ link_read c.args.linking.now c.args.imports.now c.args.items.now c.args.position _ _ c.requires.items c.requires.there
