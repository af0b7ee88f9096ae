use Rattle.std.proofs.Common.{ap, ◌∙◌}
use Rattle.wc_resolve.specs.declared.functions.AbiVariant.TheVariants.{GuestImport, GuestImportAsync}
use Rattle.wc_resolve.specs.Roots.{indices}
use Rattle.wc_resolve.proofs.WalkLemmas.{inserted}
use Rattle.wc_world.proofs.ImportedItemLemmas.{drop_no_call, drop_imported, no_call}
use Rattle.wc_world.proofs.imported_items.ImportedItems.add_drop.Goals as goal

pub returns : goal.returns
returns c = λ i is imports a. record {
  functions = no_call imports i GuestImport c.args.self.now.functions.entries (drop_no_call i c.args.id.0 is) a.functions;
  async_functions = no_call imports i GuestImportAsync c.args.self.now.async_functions.entries (drop_no_call i c.args.id.0 is) a.async_functions;
  drops = drop_imported imports i c.args.id.0 c.args.self.now.drops.keys c.insert.new.self.keys is (ap indices c.in_ok-insert.ensures.keys ∙ inserted c.args.self.now.drops.keys c.args.id) a.drops;
}
