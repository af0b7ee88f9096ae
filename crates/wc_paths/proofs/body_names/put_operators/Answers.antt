use Rattle.std.proofs.Common.{◌≡◌, length, rules}
use Rattle.wc_read.specs.BodyOperators.{locals_read, operators_left}
use Rattle.wc_paths.proofs.BodyNamesLemmas.{put_nothing, put_whole}
use Rattle.wc_paths.proofs.body_names.put_operators.Goals as goal

pub returns-then-is_code-clause-names : goal.returns-then-is_code-clause-names
returns-then-is_code-clause-names c =
    (put_whole (locals_read c.args.operators) c.args.names.now.items c.put_locals_of.new.names.items c.put_left.new.names.items c.in_ok-put_locals_of.ensures
    (operators_left c.args.operators) _ c.in_ok-is_code.ensures c.if-is_code.true).0

pub returns-then-is_code-clause-code : goal.returns-then-is_code-clause-code
returns-then-is_code-clause-code c =
    (put_whole (locals_read c.args.operators) c.args.names.now.items c.put_locals_of.new.names.items c.put_left.new.names.items c.in_ok-put_locals_of.ensures
    (operators_left c.args.operators) _ c.in_ok-is_code.ensures c.if-is_code.true).1

pub returns-clause-names : goal.returns-clause-names
returns-clause-names c =
    let count : c.len-begun.result ≡ length c.args.names.now.items = search rules in
    (put_nothing (locals_read c.args.operators) c.args.names.now.items c.put_locals_of.new.names.items c.put_left.new.names.items c.in_ok-put_locals_of.ensures
    (operators_left c.args.operators) _ c.len-begun.result c.truncate.new.self.items c.in_ok-is_code.ensures c.if-is_code.false count c.truncate.ensures.items).0

pub returns-clause-code : goal.returns-clause-code
returns-clause-code c =
    let count : c.len-begun.result ≡ length c.args.names.now.items = search rules in
    (put_nothing (locals_read c.args.operators) c.args.names.now.items c.put_locals_of.new.names.items c.put_left.new.names.items c.in_ok-put_locals_of.ensures
    (operators_left c.args.operators) _ c.len-begun.result c.truncate.new.self.items c.in_ok-is_code.ensures c.if-is_code.false count c.truncate.ensures.items).1
