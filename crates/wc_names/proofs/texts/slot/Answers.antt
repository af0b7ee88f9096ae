use Rattle.std.proofs.Common.{refl, codes, inr}
use Rattle.wc_read.specs.declared.types.ValType.TheVariants.{I32, I64}
use Rattle.wc_names.proofs.TextLemmas.{slot_found, slot_end, slot_middle}
use Rattle.wc_names.proofs.texts.slot.Goals as goal

pub returns-in-Some-number_after : goal.returns-in-Some-number_after
returns-in-Some-number_after c =
    slot_found c.args.name.now c.args.first.now c.args.last.now c.in-Some.text.now
    (codes "i64-") I64 c.in-Some-number_after.found c.in-Some.ensures refl c.in-Some-number_after.ensures

pub returns-in-Some-number_after-2 : goal.returns-in-Some-number_after-2
returns-in-Some-number_after-2 c =
    slot_found c.args.name.now c.args.first.now c.args.last.now c.in-Some.text.now (codes "i32-") I32 c.in-Some-number_after-2.found c.in-Some.ensures
    (inr refl) c.in-Some-number_after-2.ensures

pub returns-in-None-number_after-2 : goal.returns-in-None-number_after-2
returns-in-None-number_after-2 c =
    slot_end c.args.name.now c.args.first.now c.args.last.now c.in-Some.text.now c.number_after-in-None-number_after-2.result c.in-Some.ensures
    c.in-None-number_after.ensures c.in-None-number_after-2.ensures c.number_after-in-None-number_after-2.ensures

pub returns-in-None : goal.returns-in-None
returns-in-None c = λ x h. c.in-None.ensures _ (slot_middle c.args.name.now c.args.first.now c.args.last.now x.0 x.1 h)
