use Rattle.std.proofs.Common.{◌∙◌, sym}
use Rattle.wc_module_ways.proofs.ImportLemmas.{noted_already, noted_last}
use Rattle.wc_module_ways.proofs.imports.note_wanted.Goals as goal

pub returns-then-contains_key : goal.returns-then-contains_key
returns-then-contains_key c = noted_already c.args.wanted.now.entries c.args.name.now (sym c.contains_key.ensures ∙ c.if-contains_key.true)

pub returns : goal.returns
returns c =
    noted_last c.args.wanted.now c.in_ok-from_str.field-0 _ c.args.name.now c.insert.new.self.entries (sym c.contains_key.ensures ∙ c.if-contains_key.false)
    c.in_ok-from_str.ensures.ok c.in_ok-insert.ensures.entries
