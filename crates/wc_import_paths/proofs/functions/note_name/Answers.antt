use Rattle.wc_import_paths.proofs.FunctionLemmas.{both_in}
use Rattle.wc_import_paths.proofs.functions.note_name.Goals as goal

pub returns : goal.returns
returns c =
    both_in c.args.names.now.keys c.insert.new.self.keys c.insert-2.new.self.keys c.in_ok-from_str.field-0 c.in_ok-rust_name.field-0 c.args.name.now
    c.in_ok-from_str.ensures.ok c.in_ok-rust_name.ensures c.in_ok-insert.ensures.keys c.in_ok-insert-2.ensures.keys
