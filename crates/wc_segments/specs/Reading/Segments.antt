-- Sections of segments that are refused.
use Rattle.std.specs.Prelude.{◌≡◌, ◌≢◌, List, Option, MatchOption}
use Rattle.wc_read.specs.Modules.{ModuleValue}
use Rattle.wc_read.specs.Sections.{SectionValue}
use Rattle.wc_read.specs.declared.fault.ReadFault.{ReadFault}
use Rattle.wc_read.specs.declared.fault.ReadFault.TheVariants.{Memory, Component}
use Rattle.wc_segments.specs.Segments.{IsFaultIn}
use Rattle.wc_segments.specs.declared.segments.SegmentSection.{SegmentSection}

-- sections without segments: it is this section; or memory ran out, which has no place
abbrev pub IsRefusedIn : List SectionValue → ModuleValue → ReadFault → Option SegmentSection → Type 0
IsRefusedIn sections m fault place = MatchOption place (fault ≡ Memory)
    (λ section. (fault ≢ Memory) × (fault ≢ Component) × IsFaultIn sections m section)
