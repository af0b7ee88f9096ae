use Rattle.std.proofs.Common.{◌<◌, ◌∷◌, [], length, ◌∙◌, ap, arith}
use Rattle.wc_paths.proofs.NamesLemmas.{appended, code_join, code_one, code_parts}
use Rattle.wc_paths.proofs.items.put_code.Goals as goal

pub loop-instr-preserved : goal.loop-instr-preserved
loop-instr-preserved c =
    let within : c.loop-instr.instr-index < length c.args.code.now = omega arith in
    appended code_parts code_join c.args.code.now c.loop-instr.instr-index c.instr-item.result c.args.names.now.items c.loop-instr.names.items
    c.put_operator.new.names.items _ within c.loop-instr.invariant c.in_ok-put_operator.ensures
    (code_one c.instr-item.result ∙ ap (λ z. code_parts (z ∷ [])) c.instr-item.is)
