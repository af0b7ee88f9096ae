use Rattle.std.proofs.Common.{◌≢◌, [], IfSome, List, Option, subst, sym}
use Rattle.std.specs.Cow.{cow_slice_items}
use Rattle.wc_dedupe.specs.Dedupe.{IsDeduped, renames_in}
use Rattle.wc_dedupe.specs.Renaming.{RenameView}
use Rattle.wc_selection.proofs.main_module.renamed.Goals as goal

pub returns-clause-renamed : goal.returns-clause-renamed
returns-clause-renamed c =
    let at = c.in_ok-bytes.ensures in (
      subst (λ (o : Option (List RenameView)). IfSome o (λ map. map ≢ [])) c.in-Some.is at.some,
      subst (λ bytes. IsDeduped c.args.wasm.now bytes c.in-Some.map) (sym c.in_ok-bytes-2.ensures)
          (subst (λ (o : Option (List RenameView)). IsDeduped c.args.wasm.now (cow_slice_items c.in_ok-bytes.bytes) (renames_in o)) c.in-Some.is at.dedupe),
    )
