use Rattle.std.proofs.Common.{◌≡◌, false}
use Rattle.wc_resolve.specs.declared.functions.AbiVariant.TheVariants.{GuestImport, GuestImportAsync}
use Rattle.wc_world.specs.Lowering.{is_imported}
use Rattle.wc_world.specs.Private.ImportedItems.{interface_index}
use Rattle.wc_world.proofs.ImportedItemLemmas.{both_ways}
use Rattle.wc_world.proofs.imported_items.ImportedItems.has_functions_of.Goals as goal

pub returns-else-has_names : goal.returns-else-has_names
returns-else-has_names c = λ imports a none is_async name.
    both_ways (λ abi. is_imported (interface_index c.args.interface) name abi imports ≡ false) (c.has_names.ensures GuestImport imports a.functions c.if-has_names.false name)
    (c.has_names-else-has_names.ensures GuestImportAsync imports a.async_functions none name) is_async
