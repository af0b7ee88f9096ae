use Rattle.std.proofs.Common.{subst, sym}
use Rattle.wc_dedupe.specs.Dedupe.{IsDeduped, renames_in}
use Rattle.wctrim_command.specs.Command.{dedupe}
use Rattle.wctrim_command.proofs.FaultLemmas.{cause_of_dedupe, dedupe_is_no_output, made_of, place_of_dedupe, refused}
use Rattle.wctrim_command.proofs.execution.renamed.Goals as goal

pub returns-in-Err-clause-refusal : goal.returns-in-Err-clause-refusal
returns-in-Err-clause-refusal c = λ s t. refused (dedupe s t) c.args.input.now c.dedupe_refusal.result _ _ c.dedupe_refusal.ensures.fault c.dedupe_refusal.ensures.place
    (cause_of_dedupe c.args.input.now c.in-Err.refused.fault c.in-Err.ensures.refused s t)
    (place_of_dedupe c.args.input.now c.in-Err.refused.fault c.in-Err.refused.place c.in-Err.ensures.place s t)

pub returns-in-Err-clause-quiet : goal.returns-in-Err-clause-quiet
returns-in-Err-clause-quiet c = made_of c.dedupe_refusal.ensures.fault (dedupe_is_no_output c.in-Err.refused.fault)

pub returns-in_ok-owned-in-Ok-clause-renamed : goal.returns-in_ok-owned-in-Ok-clause-renamed
returns-in_ok-owned-in-Ok-clause-renamed c =
    subst (λ bytes. IsDeduped c.args.input.now bytes (renames_in c.in-Ok.map)) (sym c.in_ok-owned-in-Ok.ensures) c.in-Ok.ensures.dedupe
