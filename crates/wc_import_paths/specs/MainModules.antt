-- The main module of a component: it is followed, or a part of it can't be read.
use Rattle.std.specs.Prelude.{◌≡◌, ◌⊎◌, ⊤, ℕ, Bool, true, List, [], Option, Some, None}
use Rattle.wc_read.specs.Modules.{ModuleValue, SpellsModule, module_value}
use Rattle.wc_read.specs.declared.fault.ReadFault.{ReadFault}
use Rattle.wc_gc.specs.declared.fault.GcFault.{GcFault}
use Rattle.wc_gc.specs.declared.fault.GcFault.TheVariants.{Read, LiveBody, Memory}
use Rattle.wc_gc.specs.declared.trim_place.TrimPlace.{TrimPlace}
use Rattle.wc_gc.specs.declared.trim_place.TrimPlace.TheVariants.{Body as body_at, Section as section_at}
use Rattle.wc_segments.specs.Segments.{SegmentsValue}
use Rattle.wc_paths.specs.Callers.{AreReached, Calling, IsCalling}
use Rattle.wc_paths.specs.Items.{GraphValue}
use Rattle.wc_why.specs.Part.{PartView}
use Rattle.wc_why.specs.declared.tree.Unfollowed.{Unfollowed}
use Rattle.wc_why.specs.declared.tree.Unfollowed.TheVariants.{Unreached, Body, Section}
use Rattle.wc_import_paths.specs.Followed.{HasPaths, followed_view}
use Rattle.wc_import_paths.specs.Following.{FollowedView, IsFollowed, IsRefusal, first_in, graph_in, second_in, section_id}
use Rattle.wc_import_paths.specs.Parts.{IsFollowedPart, IsUnreadPart}
use Rattle.wc_import_paths.specs.Rows.{AreRowsFor, bare_graph}
use Rattle.wc_import_paths.specs.declared.main_module.MainModule.{MainModule}
use Rattle.wc_import_paths.specs.declared.main_module.MainModule.TheVariants.{Whole, Unread}

-- a main module that is followed; or one that can't be, and why
pub data MainView : Type 0 where
  whole : FollowedView → MainView
  unread : ModuleValue → Unfollowed → MainView

abbrev pub code_of : MainView → ModuleValue
code_of (whole f) = f.code
code_of (unread m why) = m

abbrev pub segments_of : MainView → Option SegmentsValue
segments_of (whole f) = Some f.segments
segments_of (unread m why) = None

-- it is followed
abbrev pub IsWhole : MainView → Type 0
IsWhole (whole f) = ⊤
IsWhole (unread m why) = ⊥

-- its functions that are reached; none is known to be, where it can't be followed
abbrev pub AreMainReached : MainView → List Bool → Type 0
AreMainReached (whole f) reached = AreReached (graph_in f) (first_in f) (second_in f) reached
AreMainReached (unread m why) reached = reached ≡ []

-- its items, and what each names
abbrev pub main_graph : MainView → GraphValue
main_graph (whole f) = graph_in f
main_graph (unread m why) = bare_graph m

-- a module is refused for a part of it that can't be read: a section of segments, or the body of a function
abbrev pub IsUnfollowedBy : GcFault → Option TrimPlace → Unfollowed → Type 0
IsUnfollowedBy f place Unreached = ⊥
IsUnfollowedBy f place (Body n) = (f ≡ LiveBody) × (place ≡ Some (body_at n None))
IsUnfollowedBy f place (Section s) = (g : ReadFault) × (f ≡ Read g) × (place ≡ Some (section_at (section_id s)))

-- the bytes of a module can't be followed from these exports for this part
abbrev pub IsUnfollowed : List ℕ → List (List ℕ) → Unfollowed → Type 0
IsUnfollowed bytes exports why = (f : GcFault) × (place : Option TrimPlace) × IsRefusal bytes exports f place × IsUnfollowedBy f place why

-- the main module that these bytes spell, in which paths begin at these exports
abbrev pub IsMain : List ℕ → List (List ℕ) → MainView → Type 0
IsMain bytes exports (whole f) = IsFollowed bytes exports f
IsMain bytes exports (unread m why) = SpellsModule bytes m × IsUnfollowed bytes exports why

-- why bytes are no main module
abbrev pub IsMainRefusal : List ℕ → List (List ℕ) → GcFault → Option TrimPlace → Type 0
IsMainRefusal bytes exports f place = (f ≡ Memory) ⊎ (IsRefusal bytes exports f place × ((why : Unfollowed) → ¬ (IsUnfollowedBy f place why)))

-- the part of a component that a main module with these bytes is, without links
abbrev pub IsMainPart : List ℕ → MainView → PartView → Type 0
IsMainPart bytes (whole f) p = (calling : Calling) × IsCalling (graph_in f) (first_in f) (second_in f) calling × IsFollowedPart f bytes calling true p
IsMainPart bytes (unread m why) p = IsUnreadPart m bytes why p

-- a main module as it was read
abbrev pub main_view : MainModule → MainView
main_view (Whole f) = whole (followed_view f)
main_view (Unread bytes code rows why) = unread (module_value code) why

abbrev pub bytes_in : MainModule → List ℕ
bytes_in (Whole f) = f.bytes.now
bytes_in (Unread bytes code rows why) = bytes.now

abbrev pub reached_in : MainModule → List Bool
reached_in (Whole f) = f.reached.items
reached_in (Unread bytes code rows why) = []

-- what its items name was found
abbrev pub HasMain : MainModule → Type 0
HasMain (Whole f) = HasPaths f
HasMain (Unread bytes code rows why) = AreRowsFor (bare_graph (module_value code)) rows

-- it is the main module that these bytes spell, in which paths begin at these exports
pub record IsMainOf (bytes : List ℕ) (exports : List (List ℕ)) (p : MainModule) : Type 0 where
  pub is_main : IsMain bytes exports (main_view p)
  pub spelled : bytes_in p ≡ bytes
  pub has_main : HasMain p
