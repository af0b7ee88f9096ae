use Rattle.std.proofs.Common.{Some, None, refl}
use Rattle.wc_import_paths.proofs.RootLemmas.{looked_up}
use Rattle.wc_import_paths.proofs.roots.export_named.Goals as goal

pub returns-in-Some : goal.returns-in-Some
returns-in-Some c = looked_up _ c.args.name.now c.args.named.now.entries (λ k. refl) c.requires (Some c.in-Some.export.now) c.in-Some.ensures.value

pub returns-in-None : goal.returns-in-None
returns-in-None c = looked_up _ c.args.name.now c.args.named.now.entries (λ k. refl) c.requires None c.in-None.ensures.value
