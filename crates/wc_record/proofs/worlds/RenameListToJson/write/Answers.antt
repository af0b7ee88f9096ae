use Rattle.std.proofs.Common.{List, map, ap}
use Rattle.std.proofs.lemmas.List.{drop_all}
use Rattle.wc_dedupe.specs.Renames.{rename_view}
use Rattle.wc_dedupe.specs.Renaming.{RenameView}
use Rattle.wc_record.specs.Worlds.{rename_json}
use Rattle.wc_record.proofs.ShapeLemmas.{drop_next, rest_begun, rest_next_same, rest_written}
use Rattle.wc_record.proofs.worlds.RenameListToJson.write.Goals as goal

pub loop-index-init : goal.loop-index-init
loop-index-init c = rest_begun _ c.in_ok-begin_array.ensures

pub loop-index-preserved : goal.loop-index-preserved
loop-index-preserved c =
    let r = rename_view c.at.result in
    let next = drop_next c.args.self.now c.loop-index.index r (rw c.len-index-end.ensures at c.loop-index-test.true) c.at.ensures in
    rest_next_same r _ _ rename_json next c.loop-index.invariant c.in_ok-write.ensures

pub returns : goal.returns
returns c =
    let none = drop_all c.loop-index.index c.args.self.now (rw c.len-index-end.ensures at c.loop-index-test.false) in
    rest_written _ _ _ (ap (λ (rs : List RenameView). map rename_json rs) none) c.loop-index.invariant c.end_array.ensures
