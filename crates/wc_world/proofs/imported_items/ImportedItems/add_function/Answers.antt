use Rattle.std.proofs.Common.{ap, subst, sym}
use Rattle.wc_resolve.specs.declared.functions.AbiVariant.TheVariants.{GuestImport, GuestImportAsync}
use Rattle.wc_names.specs.Views.{function_import_view}
use Rattle.wc_world.specs.Lowering.{same_call}
use Rattle.wc_world.specs.Private.ImportedItems.{IsCall, interface_index}
use Rattle.wc_world.proofs.ImportedItemLemmas.{call_drops, call_other, call_own}
use Rattle.wc_world.proofs.UsedLemmas.{on_ok}
use Rattle.wc_world.proofs.imported_items.ImportedItems.add_function.Goals as goal

pub returns-in-GuestImport : goal.returns-in-GuestImport
returns-in-GuestImport c = λ i is imports a.
    let f = function_import_view c.args.function in
    let own : IsCall GuestImport (interface_index c.interface_of-interface.result, f.name) i =
    subst (λ z. IsCall GuestImport (z, f.name) i) (sym c.interface_of-interface.ensures) (call_own imports i f is GuestImport (ap (same_call GuestImport) c.in-GuestImport.is)) in
    on_ok c.add_name.result (c.add_name.ensures GuestImport imports a.functions i own) (λ functions. record {
      functions = functions;
      async_functions = call_other imports i f is GuestImportAsync c.args.self.now.async_functions.entries (ap (same_call GuestImportAsync) c.in-GuestImport.is) a.async_functions;
      drops = call_drops imports i f is c.args.self.now.drops.keys a.drops;
    })

pub returns-in-GuestImportAsync : goal.returns-in-GuestImportAsync
returns-in-GuestImportAsync c = λ i is imports a.
    let f = function_import_view c.args.function in
    let own : IsCall GuestImportAsync (interface_index c.interface_of-interface.result, f.name) i =
    subst (λ z. IsCall GuestImportAsync (z, f.name) i) (sym c.interface_of-interface.ensures) (call_own imports i f is GuestImportAsync (ap (same_call GuestImportAsync) c.in-GuestImportAsync.is)) in
    on_ok c.add_name-in-GuestImportAsync.result (c.add_name-in-GuestImportAsync.ensures GuestImportAsync imports a.async_functions i own) (λ functions. record {
      functions = call_other imports i f is GuestImport c.args.self.now.functions.entries (ap (same_call GuestImport) c.in-GuestImportAsync.is) a.functions;
      async_functions = functions;
      drops = call_drops imports i f is c.args.self.now.drops.keys a.drops;
    })
