-- Why a module can't be followed, step by step.
use Rattle.std.proofs.Common.{◌≡◌, ◌≢◌, ℕ, List, Option, Some, None, refl, sym, subst, inl, inr}
use Rattle.std.specs.Prelude.{◌↔◌}
use Rattle.std.specs.Option.{option_map}
use Rattle.wc_read.specs.Exports.{ExportValue}
use Rattle.wc_read.specs.Fault.{SpellsNothing}
use Rattle.wc_read.specs.Modules.{ModuleValue, SpellsModule}
use Rattle.wc_read.specs.Place.{IsPlaced}
use Rattle.wc_read.specs.Sections.{IsComponent}
use Rattle.wc_read.specs.declared.fault.ReadFault.{ReadFault}
use Rattle.wc_read.specs.declared.fault.ReadFault.TheVariants.{Memory as read_memory, Component}
use Rattle.wc_read.specs.declared.place.ReadPlace.{ReadPlace}
use Rattle.wc_gc.specs.Exports.{IsMissingFault, missing_name}
use Rattle.wc_gc.specs.Fault.{of_read}
use Rattle.wc_gc.specs.declared.fault.GcFault.{GcFault}
use Rattle.wc_gc.specs.declared.fault.GcFault.TheVariants.{Memory, Read, MissingExport, LiveBody}
use Rattle.wc_gc.specs.declared.trim_place.TrimPlace.{TrimPlace}
use Rattle.wc_gc.specs.declared.trim_place.TrimPlace.TheVariants.{Bytes}
use Rattle.wc_segments.specs.Segments.{IsRefused, SegmentsValue}
use Rattle.wc_segments.specs.declared.segments.SegmentSection.{SegmentSection}
use Rattle.wc_paths.specs.Items.{graph_of}
use Rattle.wc_paths.specs.Roots.{roots_of, second_roots}
use Rattle.wc_import_paths.specs.Following.{IsCodeRefusal, IsRefusal, SpellsBoth}
use Rattle.wc_import_paths.specs.Roots.{exports_for}
use Rattle.wc_import_paths.specs.Private.Followed.{IsExportRefusal, IsPathsRefusal, IsSegmentsRefusal, IsUnreadSegments}

-- each step by itself

pub code_refusal : (bytes : List ℕ) (f : ReadFault) (place : Option ReadPlace) → (f ≢ read_memory → SpellsNothing SpellsModule bytes)
    → ((f ≡ Component) ↔ IsComponent bytes) → IsPlaced bytes f place → IsCodeRefusal bytes (of_read f) (option_map (λ p. Bytes p) place)
code_refusal bytes read_memory place nothing component at = tt
code_refusal bytes f None nothing component at = absurd (let both : f ≡ read_memory = at in cc)
code_refusal bytes f (Some p) nothing component at = ((nothing at.0, at.0, component), p, at.1, at.2, refl)

pub segments_refusal : (m : ModuleValue) (bytes : List ℕ) (f : ReadFault) (place : Option SegmentSection) (fault : GcFault) (at : Option TrimPlace)
    → IsUnreadSegments f place fault at → IsRefused m bytes f place → IsSegmentsRefusal m bytes fault at
segments_refusal m bytes f None fault at is refused = subst (λ z. IsSegmentsRefusal m bytes z at) (sym is) tt
segments_refusal m bytes f (Some s) fault at is refused = subst (λ z. IsSegmentsRefusal m bytes z at) (sym is.0) (s, refused, is.1)

pub export_refusal : (es : List ExportValue) (names : List (List ℕ)) (f : GcFault) (place : Option TrimPlace) → place ≡ None → IsMissingFault es names f
    → IsExportRefusal es names f place
export_refusal es names f place none (inl e) = subst (λ z. IsExportRefusal es names z place) (sym e) tt
export_refusal es names f place none (inr (n, e, is)) = subst (λ z. IsExportRefusal es names z place) (sym e) (is, none)

-- of all

module _ (bytes : List ℕ) (names : List (List ℕ)) where
  pub of_memory : (f : GcFault) (place : Option TrimPlace) → f ≡ Memory → IsRefusal bytes names f place
  of_memory f place e = subst (λ z. IsRefusal bytes names z place) (sym e) tt

  pub of_read_step : (f : GcFault) (place : Option TrimPlace) → IsCodeRefusal bytes f place → IsRefusal bytes names f place
  of_read_step Memory place h = tt
  of_read_step (Read f) place h = inl h
  of_read_step f place h = absurd h

  module _ (m : ModuleValue) (spelled : SpellsModule bytes m) where
    pub of_segments_step : (f : GcFault) (place : Option TrimPlace) → IsSegmentsRefusal m bytes f place → IsRefusal bytes names f place
    of_segments_step Memory place h = tt
    of_segments_step (Read f) place (s, refused, at) = inr (m, s, spelled, refused, at)
    of_segments_step f place h = absurd h

  module _ (m : ModuleValue) (s : SegmentsValue) (both : SpellsBoth bytes m s) where
    pub of_export_step : (f : GcFault) (place : Option TrimPlace) → IsExportRefusal m.exports names f place → IsRefusal bytes names f place
    of_export_step Memory place h = tt
    of_export_step (MissingExport name) place (is, none) = ((m, s, both, is), none)
    of_export_step f place h = absurd h

    paths_step : missing_name m.exports names ≡ None → (f : GcFault) (place : Option TrimPlace)
        → IsPathsRefusal (graph_of m s) (roots_of (exports_for names m.exports) m.start) (second_roots s) f place → IsRefusal bytes names f place
    paths_step there Memory place h = tt
    paths_step there LiveBody place (n, fault, at) = (m, s, n, both, there, fault, at)
    paths_step there f place h = absurd h

    pub of_paths_step : missing_name m.exports names ≡ None → (exports : List ExportValue) → exports ≡ exports_for names m.exports → (f : GcFault)
        (place : Option TrimPlace) → IsPathsRefusal (graph_of m s) (roots_of exports m.start) (second_roots s) f place → IsRefusal bytes names f place
    of_paths_step there exports is f place h =
        paths_step there f place (subst (λ es. IsPathsRefusal (graph_of m s) (roots_of es m.start) (second_roots s) f place) is h)
