use Rattle.std.proofs.Common.{◌≡◌, ◌++◌, List, Option, sym, subst, append-nil}
use Rattle.std.specs.Prelude.{OnOk}
use Rattle.wc_read.specs.Inits.{init_value}
use Rattle.wc_read.specs.Operators.{InstrValue, instr_values}
use Rattle.wc_read.specs.declared.operators.Instr.{Instr}
use Rattle.wc_read.proofs.DecodingLemmas.{init_found, init_missing}
use Rattle.wc_paths.specs.Items.{code_items, expression_items}
use Rattle.wc_paths.proofs.names.put_init.Goals as goal

pub returns-in-Ok : goal.returns-in-Ok
returns-in-Ok c =
    let old = c.args.names.now.items in
    let new = c.put_code.new.names.items in
    subst (λ (z : Option (List InstrValue)). OnOk c.put_code.result (new ≡ old ++ expression_items z))
    (sym (init_found c.args.bytes.now (init_value c.in-Ok.init) c.in-Ok.ensures.found))
    (subst (λ (z : List Instr). OnOk c.put_code.result (new ≡ old ++ code_items (instr_values z))) c.deref.ensures.value c.put_code.ensures)

pub returns-in_default : goal.returns-in_default
returns-in_default c =
    let missing = init_missing c.args.bytes.now (c.in-Err.ensures.refused (λ e. c.in_default.not-Memory e)) in
    subst (λ (z : Option (List InstrValue)). c.args.names.now.items ≡ c.args.names.now.items ++ expression_items z) (sym missing)
    (sym (append-nil c.args.names.now.items))
