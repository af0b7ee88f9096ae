-- What trimming answers: a text that is read back, and unfolds as the edited adapter does.
use Rattle.std.specs.Prelude.{ℕ, List}
use Rattle.wc_write.specs.BuiltValues.{IsRead}
use Rattle.wc_gc.specs.EditedImage.{edited_image}
use Rattle.wc_gc.specs.LiveItems.{TrimInput}
use Rattle.wc_gc.specs.Parts.{SettingsView}
use Rattle.wc_gc.specs.Trim.{IsImageText, IsTrimCause}
use Rattle.wc_gc.specs.Unfolding.{UnfoldsInImage, edited_from}
use Rattle.wc_gc.specs.declared.fault.GcFault.{GcFault}

-- All that trimming promises of the text that it answers. No fault has a cause. The text is that of an image; it spells
-- the image and no other module, and so it is with the texts of the image's bodies and initialisers. What is kept or added
-- is in the image what it is in the edited adapter, to every depth.
pub record IsTrimmed (s : SettingsView) (w : TrimInput) (text : List ℕ) : Type 0 where
  pub image : IsImageText s w text
  pub no_cause : (f : GcFault) → ¬ (IsTrimCause s w f)
  pub read : IsRead (edited_image (edited_from s w text image))
  pub unfolds : UnfoldsInImage (edited_from s w text image)
