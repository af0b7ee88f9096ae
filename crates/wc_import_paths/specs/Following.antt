-- A module that is followed, and why one can't be.
use Rattle.std.specs.Prelude.{◌≡◌, ◌⊎◌, ⊤, ℕ, ◌^◌, List, cond, nat_lt, Option, Some, None, string_bytes}
use Rattle.wc_read.specs.Exports.{ExportValue}
use Rattle.wc_read.specs.Modules.{ModuleValue, SpellsModule}
use Rattle.wc_read.specs.Place.{IsCausePlace, IsPlaceIn}
use Rattle.wc_read.specs.Sections.{data_count_id, data_id, element_id}
use Rattle.wc_read.specs.declared.fault.ReadFault.{ReadFault}
use Rattle.wc_read.specs.declared.place.ReadPlace.{ReadPlace}
use Rattle.wc_gc.specs.Exports.{missing_name}
use Rattle.wc_gc.specs.LiveItems.{IsUnread}
use Rattle.wc_gc.specs.declared.fault.GcFault.{GcFault}
use Rattle.wc_gc.specs.declared.fault.GcFault.TheVariants.{Memory, Read, MissingExport, LiveBody}
use Rattle.wc_gc.specs.declared.trim_place.TrimPlace.{TrimPlace}
use Rattle.wc_gc.specs.declared.trim_place.TrimPlace.TheVariants.{Bytes, Section, Body}
use Rattle.wc_segments.specs.Segments.{IsRefused, SegmentsValue, SpellsSegments}
use Rattle.wc_segments.specs.declared.segments.SegmentSection.{SegmentSection}
use Rattle.wc_segments.specs.declared.segments.SegmentSection.TheVariants.{Elements, DataCount, Data}
use Rattle.wc_paths.specs.Items.{GraphValue, graph_of}
use Rattle.wc_paths.specs.Paths.{AreClosed, IsPathFault, IsReachedInAny}
use Rattle.wc_paths.specs.Roots.{roots_of, second_roots}
use Rattle.wc_paths.specs.declared.items.PathItem.{PathItem}
use Rattle.wc_paths.specs.declared.paths.PathFault.TheVariants.{LiveBody as live_body}
use Rattle.wc_import_paths.specs.Roots.{exports_for}

-- a module with its segments, and the exports at which paths may begin
pub record FollowedView : Type 0 where
  pub code : ModuleValue
  pub segments : SegmentsValue
  pub exports : List ExportValue

abbrev pub graph_in : FollowedView → GraphValue
graph_in f = graph_of f.code f.segments

-- the roots of paths: these exports and the start function; and where none of these leads to an item, the active segments
abbrev pub first_in : FollowedView → List PathItem
first_in f = roots_of f.exports f.code.start

abbrev pub second_in : FollowedView → List PathItem
second_in f = second_roots f.segments

-- no body that is reached is at fault
abbrev pub HasClosedBodies : FollowedView → Type 0
HasClosedBodies f = AreClosed (graph_in f) (IsReachedInAny (graph_in f) (first_in f) (second_in f))

-- the bytes spell a module with these segments
pub record SpellsBoth (bytes : List ℕ) (m : ModuleValue) (s : SegmentsValue) : Type 0 where
  pub spelled : SpellsModule bytes m
  pub segmented : SpellsSegments m bytes s

-- the same; and it has each of these exports, and no body that is reached is at fault
pub record IsFollowed (bytes : List ℕ) (exports : List (List ℕ)) (f : FollowedView) : Type 0 where
  pub spells : SpellsBoth bytes f.code f.segments
  pub asked : f.exports ≡ exports_for exports f.code.exports
  pub exported : missing_name f.code.exports exports ≡ None
  pub closed : HasClosedBodies f

-- the ids of sections of segments, and the places of bodies; an index past 32 bits has none

abbrev pub section_id : SegmentSection → ℕ
section_id Elements = element_id
section_id DataCount = data_count_id
section_id Data = data_id

abbrev pub body_place : ℕ → Option TrimPlace
body_place n = cond (nat_lt n (2 ^ 32)) (Some (Body n None)) None

-- the bytes are no module, from this byte on
abbrev pub IsUnreadFrom : List ℕ → ReadFault → Option TrimPlace → Type 0
IsUnreadFrom bytes f place = IsUnread bytes f × (p : ReadPlace) × IsPlaceIn bytes p × IsCausePlace bytes f p × (place ≡ Some (Bytes p))

-- why bytes are not read as a module
abbrev pub IsCodeRefusal : List ℕ → GcFault → Option TrimPlace → Type 0
IsCodeRefusal bytes Memory place = ⊤
IsCodeRefusal bytes (Read f) place = IsUnreadFrom bytes f place
IsCodeRefusal bytes f place = ⊥

-- the bytes are no module, from this byte on; or a section of segments can't be read
abbrev pub IsReadCause : List ℕ → ReadFault → Option TrimPlace → Type 0
IsReadCause bytes f place =
    IsUnreadFrom bytes f place
    ⊎ ((m : ModuleValue) × (section : SegmentSection) × SpellsModule bytes m × IsRefused m bytes f (Some section) × (place ≡ Some (Section (section_id section))))

-- one of these exports is not there, the first such
abbrev pub IsMissingCause : List ℕ → List (List ℕ) → List ℕ → Type 0
IsMissingCause bytes exports name =
    (m : ModuleValue) × (s : SegmentsValue) × SpellsBoth bytes m s × (missing_name m.exports exports ≡ Some name)

-- the body of a function that is reached is at fault
abbrev pub IsBodyCause : List ℕ → List (List ℕ) → Option TrimPlace → Type 0
IsBodyCause bytes exports place =
    (m : ModuleValue) × (s : SegmentsValue) × (n : ℕ) × SpellsBoth bytes m s × (missing_name m.exports exports ≡ None)
    × IsPathFault (graph_of m s) (roots_of (exports_for exports m.exports) m.start) (second_roots s) (live_body n) × (place ≡ body_place n)

-- why the bytes of a module can't be followed from these exports, and where
abbrev pub IsRefusal : List ℕ → List (List ℕ) → GcFault → Option TrimPlace → Type 0
IsRefusal bytes exports Memory place = ⊤
IsRefusal bytes exports (Read f) place = IsReadCause bytes f place
IsRefusal bytes exports (MissingExport name) place = IsMissingCause bytes exports (string_bytes name) × (place ≡ None)
IsRefusal bytes exports LiveBody place = IsBodyCause bytes exports place
IsRefusal bytes exports f place = ⊥
