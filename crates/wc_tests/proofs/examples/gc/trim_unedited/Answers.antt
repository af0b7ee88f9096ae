use Rattle.std.proofs.Common.{subst, None}
use Rattle.wc_gc.specs.EditedImage.{edited_image, edited_rank}
use Rattle.wc_gc.specs.LiveItems.{trim_input}
use Rattle.wc_gc.specs.Parts.{settings}
use Rattle.wc_gc.specs.Unfolding.{UnfoldsAs, built_module, edited_from, in_image}
use Rattle.wc_gc.specs.UntouchedLaws.{original_of}
use Rattle.wc_tests.proofs.examples.gc.trim_unedited.Goals as goal

pub returns : goal.returns
returns c =
    let s = settings None 16 in
    let w = trim_input c.args.adapter.now c.args.required.now.keys in
    let trimmed = c.in_ok-trimmed.ensures.trimmed in
    let t = trimmed.image in
    let e = edited_from s w c.in_ok-trimmed.trimmed.items t in
    record {
      trimmed = trimmed;
      own = λ nothing. subst (λ m. UnfoldsAs (built_module (edited_image e)) m (edited_rank e) (in_image e))
          (c.nothing_is_edited.ensures (original_of s w t.value t.live) nothing) trimmed.unfolds;
    }
