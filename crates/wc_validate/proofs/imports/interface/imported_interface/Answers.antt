use Rattle.std.proofs.Common.{inl, refl, true}
use Rattle.wc_resolve.specs.Views.{key_view}
use Rattle.wc_names.specs.Meanings.{unknown_interface}
use Rattle.wc_validate.proofs.ClassificationLemmas.{classified_refused}
use Rattle.wc_validate.specs.declared.name_fault.NameFault.TheVariants.{UnknownInterface}
use Rattle.wc_validate.specs.Fault.{fault_kind}
use Rattle.wc_validate.specs.NameScope.{lookup_name_scope}
use Rattle.wc_validate.proofs.ImportInterfaceLemmas.{found_in_range}
use Rattle.wc_validate.proofs.ScopeLemmas.{keys_in_range}
use Rattle.wc_validate.proofs.StageLemmas.{failed, still_err}
use Rattle.wc_validate.specs.Classifications.{of_imports}
use Rattle.wc_validate.proofs.imports.interface.imported_interface.Goals as goal

pub interface_of-requires-clause-keys : goal.interface_of-requires-clause-keys
interface_of-requires-clause-keys g c =
    let e = lookup_name_scope c.args.lookup in
    keys_in_range e.resolve e.world c.requires.world.0 true c.well_formedness.ensures c.requires.world.1

pub returns-in_err-found : goal.returns-in_err-found
returns-in_err-found g c = failed _ _ _ (still_err _ _ c.from_residual.ensures.1)

pub imported_item-requires-clause-interface : goal.imported_item-requires-clause-interface
imported_item-requires-clause-interface g c =
    let e = lookup_name_scope c.args.lookup in
    let named = rw c.in-Some.is at c.in_ok-found.ensures in
    found_in_range e.resolve c.well_formedness.ensures e.world c.requires.world.0 true c.requires.world.1 (g.N.NameMangling.scheme c.args.scheme.now)
    c.args.text.now (key_view c.in-Some.found.key) c.in-Some.found.id c.in-Some.found.id named refl

pub returns-in-None : goal.returns-in-None
returns-in-None g c =
    classified_refused of_imports fault_kind _ _ UnknownInterface unknown_interface refl
    (inl (c.args.text.now, refl, rw c.in-None.is at c.in_ok-found.ensures, refl))

pub returns-in-Some : goal.returns-in-Some
returns-in-Some g c = c.imported_item.ensures c.args.text.now (rw c.in-Some.is at c.in_ok-found.ensures)
