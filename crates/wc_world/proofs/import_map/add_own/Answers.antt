use Rattle.std.proofs.Common.{◌≡◌, ◌++◌, ◌∷◌, [], None, map, subst, sym}
use Rattle.std.specs.Result.{OnOk}
use Rattle.wc_resolve.specs.Views.{world_entry}
use Rattle.wc_world.specs.Lowering.{AreEntriesDistinct, ImportEntry, Lowerer, own_entry}
use Rattle.wc_world.specs.WorldViews.{imported_entry, imported_view}
use Rattle.wc_world.specs.Private.LoweringContext.{lowerer_in}
use Rattle.wc_world.proofs.ImportEntryLemmas.{own_is}
use Rattle.wc_world.proofs.import_map.add_own.Goals as goal

pub returns : goal.returns
returns g c = λ imports a keys distinct.
    let l : Lowerer = lowerer_in g.O.ImportOptions.options_of c.args.context.now imports in
    let same : own_entry l (map world_entry c.args.items.now.entries) ≡ (None, imported_view c.in_ok-imported.imported) =
    own_is l (map world_entry c.args.items.now.entries) (imported_view c.in_ok-imported.imported) (c.in_ok-imported.ensures.lowerings imports a keys) c.in_ok-imported.ensures.interface
    c.in_ok-imported.ensures.implements c.in_ok-imported.ensures.external in
    subst (λ (z : ImportEntry). OnOk c.put_entry.result (map imported_entry c.put_entry.new.entries.entries ≡ map imported_entry c.args.entries.now.entries ++ z ∷ [])) (sym same)
    (c.put_entry.ensures (subst (λ (z : ImportEntry). AreEntriesDistinct (map imported_entry c.args.entries.now.entries ++ z ∷ [])) same distinct))
