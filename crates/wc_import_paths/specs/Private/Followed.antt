-- Why a module can't be followed, step by step.
use Rattle.std.specs.Prelude.{◌≡◌, ⊤, ℕ, List, MatchOption, Option, Some, None, string_bytes}
use Rattle.std.specs.Option.{option_map}
use Rattle.wc_read.specs.Exports.{ExportValue}
use Rattle.wc_read.specs.Modules.{ModuleValue}
use Rattle.wc_read.specs.declared.fault.ReadFault.{ReadFault}
use Rattle.wc_read.specs.declared.place.ReadPlace.{ReadPlace}
use Rattle.wc_gc.specs.Exports.{missing_name}
use Rattle.wc_gc.specs.Fault.{of_read}
use Rattle.wc_gc.specs.declared.fault.GcFault.{GcFault}
use Rattle.wc_gc.specs.declared.fault.GcFault.TheVariants.{Memory, Read, MissingExport, LiveBody}
use Rattle.wc_gc.specs.declared.trim_place.TrimPlace.{TrimPlace}
use Rattle.wc_gc.specs.declared.trim_place.TrimPlace.TheVariants.{Bytes, Section}
use Rattle.wc_segments.specs.Segments.{IsRefused}
use Rattle.wc_segments.specs.declared.segments.SegmentSection.{SegmentSection}
use Rattle.wc_paths.specs.Items.{GraphValue}
use Rattle.wc_paths.specs.Paths.{IsPathFault}
use Rattle.wc_paths.specs.declared.items.PathItem.{PathItem}
use Rattle.wc_paths.specs.declared.paths.PathFault.TheVariants.{LiveBody as live_body}
use Rattle.wc_import_paths.specs.Following.{body_place, section_id}

-- refusals of each step

abbrev pub IsUnreadRefusal : ReadFault → Option ReadPlace → GcFault → Option TrimPlace → Type 0
IsUnreadRefusal f place fault at = (fault ≡ of_read f) × (at ≡ option_map (λ p. Bytes p) place)

abbrev pub IsUnreadSegments : ReadFault → Option SegmentSection → GcFault → Option TrimPlace → Type 0
IsUnreadSegments f place fault at = MatchOption place (fault ≡ Memory) (λ section. (fault ≡ Read f) × (at ≡ Some (Section (section_id section))))

abbrev pub IsSegmentsRefusal : ModuleValue → List ℕ → GcFault → Option TrimPlace → Type 0
IsSegmentsRefusal m bytes Memory place = ⊤
IsSegmentsRefusal m bytes (Read f) place =
    (section : SegmentSection) × IsRefused m bytes f (Some section) × (place ≡ Some (Section (section_id section)))
IsSegmentsRefusal m bytes f place = ⊥

abbrev pub IsExportRefusal : List ExportValue → List (List ℕ) → GcFault → Option TrimPlace → Type 0
IsExportRefusal exports names Memory place = ⊤
IsExportRefusal exports names (MissingExport name) place = (missing_name exports names ≡ Some (string_bytes name)) × (place ≡ None)
IsExportRefusal exports names f place = ⊥

abbrev pub IsPathsRefusal : GraphValue → List PathItem → List PathItem → GcFault → Option TrimPlace → Type 0
IsPathsRefusal g first second Memory place = ⊤
IsPathsRefusal g first second LiveBody place = (n : ℕ) × IsPathFault g first second (live_body n) × (place ≡ body_place n)
IsPathsRefusal g first second f place = ⊥
