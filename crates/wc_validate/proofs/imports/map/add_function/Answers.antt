use Rattle.wc_read.specs.Types.{func_type_value}
use Rattle.wc_validate.proofs.AdapterFunctionLemmas.{name_added, name_kept}
use Rattle.wc_validate.proofs.imports.map.add_function.Goals as goal

pub returns-then-contains_key : goal.returns-then-contains_key
returns-then-contains_key c = λ passed h.
    name_kept func_type_value c.args.functions.now.entries c.args.name.now (func_type_value c.args.ty.now)
    c.contains_key.result passed c.contains_key.ensures c.if-contains_key.true h

pub returns : goal.returns
returns c = λ passed h.
    name_added func_type_value c.args.functions.now.entries c.insert.new.self.entries c.in_ok-from_str.field-0 c.in_ok-clone.field-0 c.args.name.now
    (func_type_value c.args.ty.now) c.contains_key.result passed
    c.in_ok-insert.ensures.entries c.in_ok-from_str.ensures.ok c.in_ok-clone.ensures c.contains_key.ensures c.if-contains_key.false h
