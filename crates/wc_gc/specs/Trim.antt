-- What trimming answers: the text of the image, or why there is none.
use Rattle.std.specs.Prelude.{◌≡◌, ℕ, ◌<◌, List, Bool, ◌⊎◌}
use Rattle.wc_read.specs.Exports.{ExportValue}
use Rattle.wc_read.specs.Modules.{ModuleValue, SpellsModule}
use Rattle.wc_write.specs.Modules.{built_text}
use Rattle.wc_read.specs.Decoded.{DecodedModule, ItemIndex, decode}
use Rattle.wc_gc.specs.Causes.{IsFoundCause, DecidesLive}
use Rattle.wc_gc.specs.Found.{found_in}
use Rattle.wc_gc.specs.Edit.{edit}
use Rattle.wc_gc.specs.EditedImage.{FitsBits, edited_image}
use Rattle.wc_gc.specs.Exports.{kept_exports}
use Rattle.wc_gc.specs.LiveItems.{IsLivenessCause, TrimInput, order_of}
use Rattle.wc_gc.specs.Parts.{SettingsView}
use Rattle.wc_gc.specs.declared.fault.GcFault.{GcFault}
use Rattle.wc_gc.specs.declared.fault.GcFault.TheVariants.{Memory, TooLarge}

-- a cause besides those of liveness: of what is found, or that a count or a size of the image is no number of 32 bits
abbrev pub IsLaterCause : SettingsView → DecodedModule → List ExportValue → (ItemIndex → Bool) → GcFault → Type 0
IsLaterCause s m exports live TooLarge = ¬ (FitsBits (edited_image (edit s m exports live)))
IsLaterCause s m exports live f = IsFoundCause s m (found_in m live) f

-- a cause besides those of liveness, of the module that the bytes spell, by the items that are live in it
abbrev pub IsLaterCauseIn : SettingsView → TrimInput → GcFault → Type 0
IsLaterCauseIn s w f =
    (m : ModuleValue) × (live : ItemIndex → Bool) × SpellsModule w.bytes m × DecidesLive w.required m live
    × IsLaterCause s (decode m) (kept_exports w.required m.exports) live f

-- the cause of each fault but Memory, by itself
abbrev pub IsTrimCause : SettingsView → TrimInput → GcFault → Type 0
IsTrimCause s w f = IsLivenessCause w f ⊎ IsLaterCauseIn s w f

-- Memory at any time; another fault where its cause is so, and none before it
abbrev pub IsTrimFault : SettingsView → TrimInput → GcFault → Type 0
IsTrimFault s w f =
    (f ≡ Memory) ⊎ (IsTrimCause s w f × ((g : GcFault) → order_of g < order_of f → ¬ (IsTrimCause s w g)))

-- the text of the image of the module that the bytes spell, with its kept exports, after it was edited
pub record IsImageText (s : SettingsView) (w : TrimInput) (text : List ℕ) : Type 0 where
  pub value : ModuleValue
  pub live : ItemIndex → Bool
  pub spelled : SpellsModule w.bytes value
  pub decides : DecidesLive w.required value live
  pub written : text ≡ built_text (edited_image (edit s (decode value) (kept_exports w.required value.exports) live))

-- a fault of what comes after liveness, and no such cause before it
abbrev pub IsLaterFault : SettingsView → DecodedModule → List ExportValue → (ItemIndex → Bool) → GcFault → Type 0
IsLaterFault s m exports live f =
    IsLaterCause s m exports live f × ((g : GcFault) → order_of g < order_of f → ¬ (IsLaterCause s m exports live g))
