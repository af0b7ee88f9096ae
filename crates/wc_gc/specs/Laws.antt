-- Laws of trimming.
use Rattle.std.specs.Prelude.{ℕ, ◌<◌, ◌≤◌, ◌^◌, List, IfSome, IsUtf8}
use Rattle.wc_read.specs.Operators.{InstrValue}
use Rattle.wc_read.specs.Bodies.{BodyValue}
use Rattle.wc_read.specs.Renumbering.{Renumbering}
use Rattle.wc_read.specs.declared.operators.Space.{Space}
use Rattle.wc_write.specs.Values.{AreBytes, IsBody}
use Rattle.wc_write.specs.BuiltValues.{IsInitialiser, IsRead}
use Rattle.wc_read.specs.Decoded.{decode}
use Rattle.wc_gc.specs.Edit.{edit}
use Rattle.wc_gc.specs.EditedImage.{edited_image}
use Rattle.wc_gc.specs.Image.{renumber_body, renumber_code}
use Rattle.wc_gc.specs.Parts.{SettingsView}
use Rattle.wc_gc.specs.Exports.{kept_exports}
use Rattle.wc_gc.specs.LiveItems.{TrimInput}
use Rattle.wc_gc.specs.Trim.{IsImageText, IsTrimCause}
use Rattle.wc_gc.specs.declared.fault.GcFault.{GcFault}

-- new indices of indices of 32 bits have 32 bits
abbrev pub KeepsBits : Renumbering → Type 0
KeepsBits new = (space : Space) (n : ℕ) → n < 2 ^ 32 → new space n < 2 ^ 32

-- a body that can be spelled can be under such indices
abbrev pub BodiesStaySpellable : Type 0
BodiesStaySpellable = (new : Renumbering) (b : BodyValue) → KeepsBits new → IsBody b → IsBody (renumber_body new b)

-- an initialiser that can be spelled can be under such indices
abbrev pub InitialisersStaySpellable : Type 0
InitialisersStaySpellable = (new : Renumbering) (is : List InstrValue) → KeepsBits new → IsInitialiser is → IsInitialiser (renumber_code new is)

-- a realloc's name is text, and pages have 2 ^ 16 bytes at most
pub record AreSettings (s : SettingsView) : Type 0 where
  pub name_is_text : IfSome s.realloc IsUtf8
  pub bounded_bytes : s.page_size_log2 ≤ 16

-- what trimming answers is the text of an image: it spells the image and no other module; the same of its bodies and
-- initialisers
abbrev pub TrimmedIsRead : Type 0
TrimmedIsRead = (s : SettingsView) (w : TrimInput) (text : List ℕ) → AreSettings s → AreBytes w.bytes →
    (t : IsImageText s w text) →
    ((f : GcFault) → ¬ (IsTrimCause s w f)) →
    IsRead (edited_image (edit s (decode t.value) (kept_exports w.required t.value.exports) t.live))
