use Rattle.std.proofs.Common.{map}
use Rattle.wc_selection.proofs.PositionLemmas.{sorted_once}
use Rattle.wc_selection.proofs.key_index.sorted_positions.Goals as goal
use Rattle.wc_selection.specs.KeyIndex.{listed_positions}
use Rattle.wc_maps.specs.Texts.{text_of}

pub returns : goal.returns
returns c =
    sorted_once (listed_positions c.args.positions.now.entries (map text_of c.args.texts.now)) c.in_ok-found.found.items c.sort_unstable.new.self.items
    c.dedup.new.self.items c.in_ok-found.ensures c.sort_unstable.ensures.permutation c.sort_unstable.ensures.sorted c.dedup.ensures.filtered
