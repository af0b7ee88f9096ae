use Rattle.wc_write.proofs.DefinedItemLemmas.{imports_grouped}
use Rattle.wc_write.proofs.module_sections.imports.Goals as goal

pub returns : goal.returns
returns g c = imports_grouped g.C.BodyText.body g.I.InitText.init c.args.built.now _ _ _ _ (rw (c.new-imports.ensures.items, c.deref.ensures.value) at c.in_ok-push_imports.ensures) (rw c.deref-2.ensures.value at c.in_ok-push_imports-2.ensures) (rw c.deref-3.ensures.value at c.in_ok-push_imports-3.ensures) (rw c.deref-4.ensures.value at c.in_ok-push_imports-4.ensures)
