use Rattle.std.proofs.Common.{◌<◌, ◌∙◌, ap, arith, length, map}
use Rattle.std.proofs.lemmas.List.{map-append}
use Rattle.wc_why.specs.Texts.{text_of}
use Rattle.wc_why.specs.Tree.{tree_import_view}
use Rattle.wc_ways.specs.Found.{found_under}
use Rattle.wc_ways.specs.Private.Wanted.{wanted_view}
use Rattle.wc_ways.proofs.LoopLemmas.{mapped_put}
use Rattle.wc_ways.proofs.found.put_under.Goals as goal

pub loop-interface-preserved : goal.loop-interface-preserved
loop-interface-preserved c =
    let shown = found_under c.args.name.now (tree_import_view c.args.import) c.args.place.0 c.args.place.1 in
    let within : c.loop-interface.interface-index < length c.args.interfaces.now = omega arith in
    mapped_put text_of shown c.args.interfaces.now c.loop-interface.interface-index _ (map wanted_view c.args.wanted.now.items)
    (map wanted_view c.loop-interface.wanted.items) (map wanted_view c.push.new.self.items) within c.loop-interface.invariant
    (ap (map wanted_view) c.in_ok-push.ensures.items ∙ map-append wanted_view c.loop-interface.wanted.items _)
