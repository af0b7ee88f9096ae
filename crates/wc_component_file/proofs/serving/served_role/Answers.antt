use Rattle.std.proofs.Common.{map}
use Rattle.wc_maps.specs.Texts.{text_of, text_pair}
use Rattle.wc_component_file.proofs.ServingLemmas.{none_served, one_ok, two_err}
use Rattle.wc_component_file.proofs.serving.served_role.Goals as goal

pub returns-in-Some-clause-role : goal.returns-in-Some-clause-role
returns-in-Some-clause-role c =
    let functions = map text_of c.args.functions.now in
    one_ok functions (map text_pair c.args.asked.now) (map text_of c.in_ok-lacking.lacking.keys) (c.in_ok-lacking.ensures functions c.in_ok-exported.ensures)
    c.in-Some.name.now c.only_role.result c.in-Some.ensures.left c.only_role.ensures.only

pub returns-in-Some-clause-refused : goal.returns-in-Some-clause-refused
returns-in-Some-clause-refused c =
    let functions = map text_of c.args.functions.now in
    two_err functions (map text_pair c.args.asked.now) (map text_of c.in_ok-lacking.lacking.keys) (c.in_ok-lacking.ensures functions c.in_ok-exported.ensures)
    c.in-Some.name.now c.only_role.result c.in-Some.ensures.left c.only_role.ensures.refused

pub returns-clause-role : goal.returns-clause-role
returns-clause-role c =
    let functions = map text_of c.args.functions.now in
    none_served functions (map text_pair c.args.asked.now) (map text_of c.in_ok-lacking.lacking.keys) (c.in_ok-lacking.ensures functions c.in_ok-exported.ensures)
    c.in-None.ensures.none
