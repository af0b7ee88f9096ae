use Rattle.std.proofs.Common.{◌≡◌, ◌++◌, ◌∙◌, ◌∷◌, [], Some, map, string_bytes, subst, sym}
use Rattle.std.proofs.lemmas.Option.{same_Some}
use Rattle.std.specs.Result.{OnOk}
use Rattle.wc_resolve.specs.Views.{item_view, key_view}
use Rattle.wc_world.specs.Lowering.{AreEntriesDistinct, ImportEntry, Lowerer}
use Rattle.wc_world.specs.WorldViews.{imported_entry}
use Rattle.wc_world.specs.Private.LoweringContext.{lowerer_in}
use Rattle.wc_world.proofs.ImportEntryLemmas.{interface_is, interface_there}
use Rattle.wc_world.proofs.KeptLoweringLemmas.{on_ok_holds}
use Rattle.wc_world.proofs.import_map.add_interface.Goals as goal

pub name_world_key-requires-clause-there : goal.name_world_key-requires-clause-there
name_world_key-requires-clause-there g c = c.requires.item.key_in

pub name_world_key-requires-clause-named : goal.name_world_key-requires-clause-named
name_world_key-requires-clause-named g c = c.requires.item.named

pub imported_interface-requires-clause-there : goal.imported_interface-requires-clause-there
imported_interface-requires-clause-there g c =
    interface_there c.args.context.now.resolve.now (item_view c.args.import.item.now) c.args.import.id.0 c.requires.interface c.requires.item.item_in

pub imported_interface-requires-clause-item : goal.imported_interface-requires-clause-item
imported_interface-requires-clause-item g c = c.requires.item.item_in

pub returns-clause-added : goal.returns-clause-added
returns-clause-added g c = λ imports a h e is distinct.
    let l : Lowerer = lowerer_in g.O.ImportOptions.options_of c.args.context.now imports in
    let own : ImportEntry = imported_entry (Some c.in_ok-name.name, c.in_ok-imported.imported) in
    let same : own ≡ e =
    same_Some own e (sym (interface_is l (key_view c.args.import.key.now) (item_view c.args.import.item.now) c.args.import.id.0
    (string_bytes c.in_ok-name.name) own.1 c.requires.interface c.in_ok-name.ensures
    (c.in_ok-imported.ensures.lowerings imports a h) c.in_ok-imported.ensures.interface c.in_ok-imported.ensures.implements
    c.in_ok-imported.ensures.external) ∙ is) in
    subst (λ (z : ImportEntry). OnOk c.put_entry.result (map imported_entry c.put_entry.new.entries.entries
    ≡ map imported_entry c.args.entries.now.entries ++ z ∷ [])) same
    (c.put_entry.ensures (subst (λ (z : ImportEntry). AreEntriesDistinct (map imported_entry c.args.entries.now.entries ++ z ∷ [])) (sym same) distinct))

pub returns-clause-kept : goal.returns-clause-kept
returns-clause-kept g c = λ imports a h. on_ok_holds c.put_entry.result (c.in_ok-imported.ensures.kept imports a h)
