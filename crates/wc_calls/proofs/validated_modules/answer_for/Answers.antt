use Rattle.std.proofs.Common.{List, Option, subst, sym, ℕ}
use Rattle.std.specs.Borrow.{Bor}
use Rattle.std.specs.Option.{option_map}
use Rattle.wc_calls.specs.FaultAnswers.{IsFaultAnswered}
use Rattle.wc_calls.specs.Private.RecordAnswers.{IsRecordFault, IsRecordPlaceFor}
use Rattle.wc_calls.proofs.validated_modules.answer_for.Goals as goal

pub returns-in-None-clause-fault : goal.returns-in-None-clause-fault
returns-in-None-clause-fault c = λ is.
    subst (λ (a : Option (Bor (List ℕ))). IsFaultAnswered (IsRecordFault c.args.encoder.now (option_map (λ n. n.now) a) c.args.required.now)
    (IsRecordPlaceFor c.args.encoder.now c.args.required.now) c.answer_main.result c.args.out.now c.answer_main.new.out) (sym c.in-None.is)
    (c.answer_main.ensures.fault c.args.required.now is)
