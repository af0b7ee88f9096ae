-- Adapters to which trimming adds nothing: what is kept of them is what it was.
use Rattle.std.specs.Prelude.{ℕ, List, None}
use Rattle.wc_read.specs.Decoded.{DecodedModule, decode}
use Rattle.wc_gc.specs.EditedImage.{edited_image, edited_rank}
use Rattle.wc_gc.specs.Found.{found_in}
use Rattle.wc_gc.specs.Exports.{kept_exports}
use Rattle.wc_gc.specs.LiveItems.{TrimInput}
use Rattle.wc_gc.specs.Parts.{SettingsView}
use Rattle.wc_gc.specs.TraceLaws.{AddsNothing}
use Rattle.wc_gc.specs.TrimmedText.{IsTrimmed}
use Rattle.wc_gc.specs.Trim.{IsImageText}
use Rattle.wc_gc.specs.Unfolding.{UnfoldsAs, built_module, edited_from, in_image}

-- the adapter that the bytes spell, with its kept exports and without a start function
abbrev pub own : (s : SettingsView) (w : TrimInput) (text : List ℕ) → IsImageText s w text → DecodedModule
own s w text t = record (decode t.value) { exports = kept_exports w.required t.value.exports; start = None }

-- what the image has is to every depth what it is in the adapter itself
abbrev pub UnfoldsAsOwn : (s : SettingsView) (w : TrimInput) (text : List ℕ) → IsImageText s w text → Type 0
UnfoldsAsOwn s w text t =
    let edited = edited_from s w text t in
    UnfoldsAs (built_module (edited_image edited)) (own s w text t) (edited_rank edited) (in_image edited)

-- the text of a trimmed adapter, and, if nothing is added, that of items of its own
pub record IsTrimmedOwn (s : SettingsView) (w : TrimInput) (text : List ℕ) : Type 0 where
  pub trimmed : IsTrimmed s w text
  pub own : AddsNothing s (found_in (decode trimmed.image.value) trimmed.image.live) → UnfoldsAsOwn s w text trimmed.image
