use Rattle.std.proofs.Common.{ℕ, List, OnOk, ◌++◌, [], map, subst}
use Rattle.std.specs.List.{cons_option}
use Rattle.std.specs.Option.{option_map}
use Rattle.wc_read.specs.Types.{FuncTypeValue}
use Rattle.wc_texts.specs.Names.{named_view}
use Rattle.wc_validate.specs.Private.Imports.AdapterFunctions.{HasFirsts}
use Rattle.wc_validate.proofs.imports.first_functions.keep_function.Goals as goal

pub returns-in-Some : goal.returns-in-Some
returns-in-Some c = λ passed h.
    subst (λ o. OnOk c.keep_name.result (HasFirsts (map named_view c.keep_name.new.names.entries)
    (passed ++ cons_option (option_map (λ (f : List ℕ × FuncTypeValue). (f.0, c.args.position)) o) [])))
    c.in-Some.ensures (c.keep_name.ensures.firsts passed h)
