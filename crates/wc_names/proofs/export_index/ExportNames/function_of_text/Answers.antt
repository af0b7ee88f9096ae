use Rattle.std.proofs.Common.{◌∙◌, map, subst}
use Rattle.std.specs.Option.{option_map}
use Rattle.wc_resolve.specs.Views.{key_view, world_entry}
use Rattle.wc_names.specs.ExportViews.{export_target}
use Rattle.wc_names.specs.ExportNames.{HasFunction}
use Rattle.wc_names.specs.Finds.{Finds}
use Rattle.wc_names.specs.First.{FirstOf}
use Rattle.wc_names.proofs.ExportNameLemmas.{first_in_none}
use Rattle.wc_names.proofs.FirstMemberLemmas.{kept_function}
use Rattle.wc_names.proofs.export_index.ExportNames.function_of_text.Goals as goal

pub returns-in-Some : goal.returns-in-Some
returns-in-Some c =
    rw (← c.self.view_is) (kept_function c.self.inside.syntax c.self.inside.resolve.now (map world_entry c.self.inside.exports.now.entries)
    (map key_view c.self.inside.keys.now.keys) c.self.inside.interfaces.entries c.self.invariant.0 c.self.inside.members.entries c.self.invariant.1
    c.args.text.now c.args.name.now c.in-Some.members.now c.in-Some.ensures.value c.copied.result (c.copied.ensures ∙ c.get-in-Some.ensures.value))

pub returns-in-Some-searched : goal.returns-in-Some-searched
returns-in-Some-searched c =
    rw (← c.self.view_is) (subst (λ z. Finds (option_map export_target c.function_in.result) (FirstOf (HasFunction c.self.inside.resolve.now c.args.name.now) z))
    (rw (← c.self.view_is) at c.in-Some-searched.ensures).0 c.function_in.ensures)

pub returns-in-None : goal.returns-in-None
returns-in-None c = first_in_none (HasFunction c.args.self.now.resolve c.args.name.now) _ c.in-None.ensures
