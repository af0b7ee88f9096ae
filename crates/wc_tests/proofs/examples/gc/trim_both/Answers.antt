use Rattle.std.proofs.Common.{inl, None}
use Rattle.wc_gc.specs.LiveItems.{trim_input}
use Rattle.wc_gc.specs.Parts.{settings}
use Rattle.wc_tests.proofs.examples.gc.trim_both.Goals as goal

pub returns : goal.returns
returns c = λ cut first second.
    let v = trim_input c.args.first.now c.args.required.now.keys in
    let w = trim_input c.args.second.now c.args.required.now.keys in
    let alike = c.no_trace.ensures (settings None 16) v w cut c.slices_are_bytes.ensures c.slices_are_bytes-2.ensures
    (λ f k. c.in_ok-one.ensures.trimmed.no_cause f (inl k)) (λ f k. c.in_ok-other.ensures.trimmed.no_cause f (inl k)) first second in
    alike.texts c.in_ok-one.one.items c.in_ok-other.other.items c.in_ok-one.ensures.trimmed.image c.in_ok-other.ensures.trimmed.image
