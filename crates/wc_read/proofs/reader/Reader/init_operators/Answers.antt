use Rattle.std.proofs.Common.{sym}
use Rattle.std.proofs.lemmas.List.{map-append}
use Rattle.std.proofs.lemmas.Result.{err_from_is_err_and}
use Rattle.wc_read.specs.Reading.Inits.{ends, init_instr_at}
use Rattle.wc_read.proofs.ToEndLemmas.{to_shorter}
use Rattle.wc_read.proofs.UntilLemmas.{until_end, until_more, until_fails}
use Rattle.wc_read.proofs.InitsLemmas.{SpellsInitInstr, init_instr_meets, init_instr_some, init_start}
use Rattle.wc_read.proofs.reader.Reader.init_operators.Goals as goal

pub loop-operators-init : goal.loop-operators-init
loop-operators-init c = rw c.new-operators.ensures.items (init_start _)

pub returns-in_err-operator : goal.returns-in_err-operator
returns-in_err-operator c =
    let p = err_from_is_err_and c.from_residual.result c.from_residual.ensures.1 in
    rw (p.1, p.2) ((λ real. until_fails SpellsInitInstr init_instr_at init_instr_meets init_instr_some ends _ _ _ c.loop-operators.invariant (c.in_err-operator.ensures.0 real)), c.in_err-operator.ensures.1)

pub returns-then-last : goal.returns-then-last
returns-then-last c = rw (c.in_ok-push.ensures.items, map-append) (until_end SpellsInitInstr init_instr_at init_instr_meets init_instr_some ends _ _ _ _ _ c.loop-operators.invariant c.in_ok-operator.ensures (sym c.if-last.ensures))

pub loop-operators-smaller : goal.loop-operators-smaller
loop-operators-smaller c = to_shorter SpellsInitInstr init_instr_at init_instr_meets init_instr_some _ _ _ c.in_ok-operator.ensures

pub loop-operators-preserved : goal.loop-operators-preserved
loop-operators-preserved c =
    rw (c.in_ok-push.ensures.items, map-append) (until_more SpellsInitInstr init_instr_at init_instr_meets init_instr_some ends _ _ _ _ _ c.loop-operators.invariant c.in_ok-operator.ensures (sym c.if-last.ensures))
