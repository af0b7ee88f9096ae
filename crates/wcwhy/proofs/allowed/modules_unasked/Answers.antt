use Rattle.std.proofs.Common.{List, map, not, ℕ}
use Rattle.wc_import_paths.proofs.PickedLemmas.{first_more}
use Rattle.wc_maps.specs.Texts.{text_of}
use Rattle.wc_read.specs.Imports.{ImportValue, import_value}
use Rattle.wcwhy.specs.Private.Allowed.{is_matched}
use Rattle.wcwhy.proofs.AllowedLemmas.{kept_viewed}
use Rattle.wcwhy.proofs.allowed.modules_unasked.Goals as goal

pub loop-import-preserved : goal.loop-import-preserved
loop-import-preserved c =
    let old = c.loop-import.modules.items in
    let new = c.push_if.new.items.items in
    let kept = kept_viewed text_of c.is_matched.result _ old new _ c.is_matched.ensures c.in_ok-push_if.ensures in
    first_more {B = List ℕ} (λ (i : ImportValue). not (is_matched c.args.asked.now i)) (λ (i : ImportValue). i.module_name) import_value c.args.imports.now
    c.loop-import.import-index _ c.loop-import-test.true (map text_of old) (map text_of new) c.loop-import.invariant kept
