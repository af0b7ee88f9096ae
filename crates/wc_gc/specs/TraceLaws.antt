-- What leaves no trace in a trimmed adapter: what its required exports do not reach, and that it was trimmed before.
use Rattle.std.specs.Prelude.{◌≡◌, ◌↔◌, ℕ, ◌<◌, List, [], Bool, true, false, IsTrue}
use Rattle.std.specs.List.{AllByRecursion}
use Rattle.wc_read.specs.Exports.{ExportValue}
use Rattle.wc_read.specs.Modules.{ModuleValue, SpellsModule}
use Rattle.wc_write.specs.Values.{AreBytes}
use Rattle.wc_gc.specs.Causes.{DecidesLive}
use Rattle.wc_gc.specs.Cut.{cut_of}
use Rattle.wc_read.specs.Decoded.{DecodedModule, ItemIndex, decode, exported_item, is_in, size_of}
use Rattle.wc_gc.specs.Edit.{edit}
use Rattle.wc_gc.specs.EditedImage.{edited_image}
use Rattle.wc_read.specs.Entries.{entry_at, entry_refs}
use Rattle.wc_gc.specs.Found.{FoundView, found_in}
use Rattle.wc_gc.specs.Exports.{kept_exports}
use Rattle.wc_gc.specs.Laws.{AreSettings}
use Rattle.wc_gc.specs.LiveItems.{IsLivenessCause, TrimInput, with_bytes}
use Rattle.wc_gc.specs.Parts.{SettingsView, adds_growing, adds_import, adds_start, is_lazy}
use Rattle.wc_gc.specs.Reached.{IsReached}
use Rattle.wc_gc.specs.Trim.{IsImageText, IsLaterCause, IsTrimCause, IsTrimFault}
use Rattle.wc_gc.specs.TrimmedText.{IsTrimmed}
use Rattle.wc_gc.specs.declared.fault.GcFault.{GcFault}

-- Live items are in the module, and what they name is live; so is what the exports name.
pub record AreClosed (m : DecodedModule) (exports : List ExportValue) (live : ItemIndex → Bool) : Type 0 where
  pub there : (x : ItemIndex) → IsTrue (live x) → x.1 < size_of m x.0
  pub named : (x : ItemIndex) → IsTrue (live x) → AllByRecursion (λ y. IsTrue (live y)) (entry_refs (entry_at m x))
  pub exported : AllByRecursion (λ e. IsTrue (live (exported_item e))) exports

-- the test that all items pass
abbrev pub all_items : ItemIndex → Bool
all_items x = true

-- An adapter and its cut, edited under the same settings, have the same image. All of the cut is kept for its own.
abbrev pub ImageIsOfCut : Type 0
ImageIsOfCut = (s : SettingsView) (m : DecodedModule) (exports : List ExportValue) (live : ItemIndex → Bool) →
    AreClosed m exports live →
    edited_image (edit s m exports live)
    ≡ edited_image (edit s (cut_of m exports live) (cut_of m exports live).exports all_items)

-- Where live items are reached by the exports, all items of the cut are reached by its own.
abbrev pub CutIsReached : Type 0
CutIsReached = (m : DecodedModule) (exports : List ExportValue) (live : ItemIndex → Bool) →
    AreClosed m exports live →
    ((x : ItemIndex) → IsTrue (live x) → IsReached m exports x) →
    (y : ItemIndex) → IsTrue (is_in (cut_of m exports live) y) →
    IsReached (cut_of m exports live) (cut_of m exports live).exports y

-- A fault has a cause in an adapter exactly where it has one in the cut, but for the faults that liveness finds.
abbrev pub CausesAreOfCut : Type 0
CausesAreOfCut = (s : SettingsView) (m : DecodedModule) (exports : List ExportValue) (live : ItemIndex → Bool) →
    AreClosed m exports live →
    (f : GcFault) → IsLaterCause s m exports live f
    ↔ IsLaterCause s (cut_of m exports live) (cut_of m exports live).exports all_items f

-- The bytes spell an adapter of this cut.
pub record HasCut (w : TrimInput) (c : DecodedModule) : Type 0 where
  pub value : ModuleValue
  pub live : ItemIndex → Bool
  pub spelled : SpellsModule w.bytes value
  pub decides : DecidesLive w.required value live
  pub is_cut : c ≡ cut_of (decode value) (kept_exports w.required value.exports) live

-- Liveness finds no fault: the bytes are a module, no required export is missing, nothing is unsupported, and the
-- bodies that are reached are code.
abbrev pub HasLiveness : TrimInput → Type 0
HasLiveness w = (f : GcFault) → ¬ (IsLivenessCause w f)

-- Two adapters are trimmed to the same text, or have the same fault.
pub record AreTrimmedToTheSame (s : SettingsView) (v w : TrimInput) : Type 0 where
  pub texts : (a b : List ℕ) → IsImageText s v a → IsImageText s w b → a ≡ b
  pub causes : (f : GcFault) → IsTrimCause s v f ↔ IsTrimCause s w f
  pub faults : (f : GcFault) → IsTrimFault s v f ↔ IsTrimFault s w f

-- Nothing counts but the cut: two adapters that have the same are trimmed to the same.
abbrev pub NoTrace : Type 0
NoTrace = (s : SettingsView) (v w : TrimInput) (c : DecodedModule) → AreBytes v.bytes → AreBytes w.bytes →
    HasLiveness v →
    HasLiveness w →
    HasCut v c →
    HasCut w c →
    AreTrimmedToTheSame s v w

-- Of what is found, nothing makes a part to be added, and no realloc is among the live imports.
pub record AddsNothing (s : SettingsView) (f : FoundView) : Type 0 where
  pub import_realloc : adds_import s f ≡ false
  pub lazy : is_lazy s f ≡ false
  pub growing : adds_growing s f ≡ false
  pub start : adds_start s f ≡ false
  pub reallocs : f.reallocs ≡ []

-- Memory aside, trimming a text again answers the text, and no other.
pub record IsTrimmedToItself (s : SettingsView) (w : TrimInput) (text : List ℕ) : Type 0 where
  pub answer : IsTrimmed s (with_bytes w text) text
  pub alone : (other : List ℕ) → IsImageText s (with_bytes w text) other → other ≡ text

-- What an adapter was trimmed to without an addition is trimmed to itself.
abbrev pub TrimTwice : Type 0
TrimTwice = (s : SettingsView) (w : TrimInput) (text : List ℕ) → AreSettings s → AreBytes w.bytes → AreBytes text →
    (t : IsTrimmed s w text) →
    AddsNothing s (found_in (decode t.image.value) t.image.live) →
    IsTrimmedToItself s w text
