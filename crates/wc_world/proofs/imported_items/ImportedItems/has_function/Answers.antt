use Rattle.std.proofs.Common.{◌≡◌, subst, sym}
use Rattle.wc_resolve.specs.declared.functions.AbiVariant.TheVariants.{GuestImport, GuestImportAsync}
use Rattle.wc_world.specs.Lowering.{is_imported}
use Rattle.wc_names.specs.Imports.{import_abi}
use Rattle.wc_world.specs.Private.ImportedItems.{interface_index}
use Rattle.wc_world.proofs.imported_items.ImportedItems.has_function.Goals as goal

pub returns-then-is_async : goal.returns-then-is_async
returns-then-is_async c = λ imports a.
    subst (λ z. c.has_name.result ≡ is_imported (interface_index c.args.interface) c.args.name.now (import_abi z) imports) (sym c.if-is_async.true) (c.has_name.ensures GuestImportAsync imports a.async_functions)

pub returns-else-is_async : goal.returns-else-is_async
returns-else-is_async c = λ imports a.
    subst (λ z. c.has_name-else-is_async.result ≡ is_imported (interface_index c.args.interface) c.args.name.now (import_abi z) imports) (sym c.if-is_async.false) (c.has_name-else-is_async.ensures GuestImport imports a.functions)
