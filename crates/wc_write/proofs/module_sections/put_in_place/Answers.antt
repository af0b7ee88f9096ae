use Rattle.std.proofs.Common.{◌++◌, ◌-◌, ◌∙◌, ap, arith}
use Rattle.wc_write.specs.Bodies.{body_text}
use Rattle.wc_write.proofs.CodeTextLemmas.{short_code}
use Rattle.wc_write.proofs.module_sections.put_in_place.Goals as goal

pub returns-then-size-lt-ONE_BYTE : goal.returns-then-size-lt-ONE_BYTE
returns-then-size-lt-ONE_BYTE g c =
    let text = body_text (g.C.BodyText.body c.args.body.now) in
    let out = c.in_ok-put.ensures ∙ ap (λ items. items ++ text) c.in_ok-push.ensures.items in
    let size = c.len.result - c.len-before.result - 1 in
    short_code c.args.out.now.items text c.put.new.out.items c.len-before.result size out (omega (arith, c.len-before.ensures)) (omega (arith, c.len.ensures)) c.if-size-lt-ONE_BYTE.true
