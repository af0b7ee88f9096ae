use Rattle.std.proofs.Common.{ap, sym, [], ◌∙◌, map}
use Rattle.std.proofs.lemmas.List.{nil_from_length}
use Rattle.wc_validate.specs.Imports.FirstFunctions.{first_functions, position_entries, positions_under}
use Rattle.wc_texts.specs.Names.{named_view}
use Rattle.wc_validate.specs.Imports.Instances.{instance_view}
use Rattle.wc_validate.proofs.FirstFunctionLemmas.{none_added, value_put}
use Rattle.wc_validate.proofs.imports.first_functions.FirstFunctions.add_module.Goals as goal

pub returns-then-is_empty : goal.returns-then-is_empty
returns-then-is_empty c = λ m empty.
    none_added (positions_under c.args.self.now) c.args.name.now m (first_functions (instance_view c.args.instance.now)) empty
    (ap (λ z. first_functions (instance_view z)) c.in-Names.is
    ∙ (sym c.in_ok-positions.ensures ∙ ap (map named_view) (nil_from_length c.in_ok-positions.positions.entries (c.is_empty.ensures.0 c.if-is_empty.true))))

pub returns : goal.returns
returns c = λ m empty.
    value_put position_entries [] c.args.self.now.modules.entries c.insert.new.self.entries c.in_ok-from_str.field-0 c.args.name.now m
    c.in_ok-positions.positions (first_functions (instance_view c.args.instance.now))
    c.in_ok-insert.ensures.entries c.in_ok-from_str.ensures.ok (c.in_ok-positions.ensures ∙ sym (ap (λ z. first_functions (instance_view z)) c.in-Names.is))
