use Rattle.std.proofs.Common.{map, take}
use Rattle.wc_resolve.specs.Views.{type_view}
use Rattle.wc_resolve.proofs.ContentLemmas.{TextFlagsOf}
use Rattle.wc_resolve.proofs.contents.find_texts.Given as goal

abbrev pub invariant-loop-index : goal.invariant-loop-index
invariant-loop-index l = TextFlagsOf l.lists (map type_view l.types) l.flags.items (take l.index-index l.order)
