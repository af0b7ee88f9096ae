use Rattle.std.proofs.Common.{ap, sym, ◌∙◌, arith}
use Rattle.std.proofs.lemmas.List.{take_rest}
use Rattle.wc_component_file.specs.Renamed.{is_mark}
use Rattle.wc_component_file.proofs.RenamedLemmas.{start_more}
use Rattle.wc_component_file.proofs.renamed.mark_start.Goals as goal

pub loop-start-preserved : goal.loop-start-preserved
loop-start-preserved c =
    start_more c.args.name.now c.loop-start.start (omega arith) c.loop-start.invariant
    (ap is_mark (sym (take_rest c.args.name.now c.loop-start.start)) ∙ (sym c.is_mark.ensures ∙ c.if-is_mark.false))
