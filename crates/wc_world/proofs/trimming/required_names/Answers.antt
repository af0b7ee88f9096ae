use Rattle.std.proofs.Common.{◌++◌, ◌∷◌, [], List, ap, map, subst, ℕ}
use Rattle.wc_read.specs.Types.{FuncTypeValue}
use Rattle.wc_names.specs.ExportViews.{ExportView, export_view}
use Rattle.wc_validate.specs.Imports.Map.{required_entry}
use Rattle.wc_validate.specs.Exports.Iter.{exports_left}
use Rattle.wc_world.specs.Trimming.{HasNames}
use Rattle.wc_world.proofs.NameLemmas.{names_next}
use Rattle.wc_world.proofs.trimming.required_names.Goals as goal

pub loop-name-preserved : goal.loop-name-preserved
loop-name-preserved c =
    names_next (λ (f : List ℕ × FuncTypeValue). f.0) [] (map required_entry c.args.required.now.entries) (map required_entry c.loop-name.name-iterator) (map required_entry c.next.new.self) (required_entry (c.in-Some.name.now, c.in-Some._ty.now)) c.loop-name.names.keys c.add_name.new.names.keys
    (ap (map required_entry) c.in-Some.ensures.steps) (λ passed h. subst (λ z. HasNames c.add_name.new.names.keys (passed ++ z ∷ [])) c.as_str.ensures.value (c.in_ok-add_name.ensures passed h)) c.loop-name.invariant

pub loop-name-2-preserved : goal.loop-name-2-preserved
loop-name-2-preserved c =
    names_next (λ (x : List ℕ × ExportView). x.0) (map (λ (f : List ℕ × FuncTypeValue). f.0) (map required_entry c.args.required.now.entries)) c.args.exports.now (exports_left c.loop-name-2.name-iterator) (exports_left c.next-in-loop-name-2.new.self) (c.in-Some-2.name.now, export_view c.in-Some-2._export.now)
    c.loop-name-2.names.keys c.add_name-in-loop-name-2.new.names.keys c.in-Some-2.ensures.steps c.in_ok-add_name-2.ensures c.loop-name-2.invariant
