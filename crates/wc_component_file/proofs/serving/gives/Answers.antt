use Rattle.std.proofs.Common.{map, sym, ◌∙◌}
use Rattle.wc_maps.specs.Texts.{text_of}
use Rattle.wc_component_file.proofs.ServingLemmas.{given_itself, given_none, given_original}
use Rattle.wc_component_file.proofs.serving.gives.Goals as goal

pub returns-then-is_in_set : goal.returns-then-is_in_set
returns-then-is_in_set c functions same =
    given_itself functions (map text_of c.args.exported.now.keys) c.args.name.now same (sym c.is_in_set.ensures ∙ c.if-is_in_set.true)

pub returns-in-Some : goal.returns-in-Some
returns-in-Some c functions same =
    given_original functions (map text_of c.args.exported.now.keys) c.args.name.now same (sym c.is_in_set.ensures ∙ c.if-is_in_set.false) c.in-Some.original.now
    (sym c.in-Some.ensures) _ c.is_in_set-in-Some.ensures

pub returns-in-None : goal.returns-in-None
returns-in-None c functions same =
    given_none functions (map text_of c.args.exported.now.keys) c.args.name.now same (sym c.is_in_set.ensures ∙ c.if-is_in_set.false) (sym c.in-None.ensures)
