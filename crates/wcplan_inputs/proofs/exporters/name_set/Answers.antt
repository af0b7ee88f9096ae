use Rattle.std.proofs.Common.{◌+◌, List, map, take, rules, subst}
use Rattle.std.proofs.lemmas.List.{take_all}
use Rattle.wc_read.specs.declared.exports.Export.{Export}
use Rattle.wc_maps.proofs.ListLemmas.{passed_more}
use Rattle.wc_maps.proofs.SetLemmas.{set_more}
use Rattle.wc_maps.specs.Texts.{HasTexts, text_of}
use Rattle.wcplan_inputs.proofs.exporters.name_set.Goals as goal

pub loop-export-preserved : goal.loop-export-preserved
loop-export-preserved c =
    set_more (map (λ (e : Export). e.name.now) (take c.loop-export.export-index c.args.exports.now))
    (map (λ (e : Export). e.name.now) (take (c.loop-export.export-index + 1) c.args.exports.now)) c.loop-export.names.keys c.insert.new.self.keys
    _ (passed_more (λ (e : Export). e.name.now) c.args.exports.now c.loop-export.export-index _ (search rules)) c.in_ok-insert.ensures.keys
    c.loop-export.invariant

pub returns : goal.returns
returns c =
    subst (λ (l : List Export). HasTexts (map (λ (e : Export). e.name.now) l) (map text_of c.loop-export.names.keys))
    (take_all c.loop-export.export-index c.args.exports.now (search rules)) c.loop-export.invariant
