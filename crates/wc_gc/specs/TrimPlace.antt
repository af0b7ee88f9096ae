-- What a fault of trimming is about: a byte, a section, or the body of a function.
use Rattle.std.specs.Prelude.{◌≡◌, ℕ, List, ◌∷◌, ◌++◌, ◌==◌, if◌then◌else◌, cond, take, slice_get, is_some, codes, decimal, true, false, MatchOption, Option, Some, None}
use Rattle.std.specs.Option.{option_map_or}
use Rattle.wc_read.specs.Bodies.{BodyValue}
use Rattle.wc_read.specs.Items.{DefValue, imported, local}
use Rattle.wc_read.specs.Modules.{ModuleValue, SpellsModule}
use Rattle.wc_read.specs.Operators.{InstrValue}
use Rattle.wc_read.specs.Place.{IsCausePlace, IsPlaceIn as is_place_in_bytes, read_place_text}
use Rattle.wc_read.specs.Sections.{data_count_id, data_id, element_id, start_id}
use Rattle.wc_read.specs.declared.fault.ReadFault.{ReadFault}
use Rattle.wc_read.specs.declared.operators.Space.TheVariants.{Funcs}
use Rattle.wc_read.specs.Decoded.{DecodedModule, FuncCode, decode}
use Rattle.wc_gc.specs.InRange.{is_code_in_range, is_item_in_range, is_operator_in_range}
use Rattle.wc_gc.specs.Exports.{missing_name}
use Rattle.wc_gc.specs.LiveItems.{IsLive, IsSupported, IsUnread, TrimInput}
use Rattle.wc_gc.specs.declared.trim_place.TrimPlace.{TrimPlace}
use Rattle.wc_gc.specs.declared.trim_place.TrimPlace.TheVariants.{Bytes, Section, Body}
use Rattle.wc_gc.specs.declared.fault.GcFault.{GcFault}
use Rattle.wc_gc.specs.declared.fault.GcFault.TheVariants.{LiveBody, Read, UnsupportedSection}

-- the ids of the sections that are not supported, in the order of the bytes: that of the start function comes before
-- those of segments
abbrev pub unsupported_ids : ModuleValue → List ℕ
unsupported_ids m = cond (is_some m.start) (start_id ∷ m.ids) m.ids

-- the first section that is not supported, where no export is missing
abbrev pub IsSectionPlace : List (List ℕ) → ModuleValue → TrimPlace → Type 0
IsSectionPlace required m (Section id) =
    (missing_name m.exports required ≡ None) × (slice_get (unsupported_ids m) 0 ≡ Some id)
IsSectionPlace required m (Body n k) = ⊥
IsSectionPlace required m (Bytes p) = ⊥

-- the first operator that names a segment, or an item that is not there, has this number
pub record IsFirstOutside (m : DecodedModule) (is : List InstrValue) (k : ℕ) : Type 0 where
  pub operator : InstrValue
  pub there : slice_get is k ≡ Some operator
  pub outside : is_operator_in_range m operator ≡ false
  pub before : is_code_in_range m (take k is) ≡ true

-- the number of that operator; none, where the bytes are no code, or where all operators name what is there
abbrev pub IsOperatorPlace : DecodedModule → Option BodyValue → Option ℕ → Type 0
IsOperatorPlace m None k = k ≡ None
IsOperatorPlace m (Some b) k = MatchOption k (is_code_in_range m b.operators ≡ true) (IsFirstOutside m b.operators)

-- the body of a definition, where its bytes are code; none, where it is an import
abbrev pub def_body : DefValue (Option BodyValue) → Option BodyValue
def_body (imported m n) = None
def_body (local b) = b

-- the body of the function of an index
abbrev pub body_at : DecodedModule → ℕ → Option BodyValue
body_at m n = option_map_or (λ (f : FuncCode). def_body f.def) (slice_get m.funcs n) None

-- a function that is reached, and whose body is no code or names what is not there; and the operator that does
pub record IsLiveBodyPlace (required : List (List ℕ)) (m : ModuleValue) (n : ℕ) (k : Option ℕ) : Type 0 where
  pub supported : IsSupported required m
  pub reached : IsLive required m (Funcs, n)
  pub refused : is_item_in_range (decode m) (Funcs, n) ≡ false
  pub operator : IsOperatorPlace (decode m) (body_at (decode m) n) k

abbrev pub IsBodyPlace : List (List ℕ) → ModuleValue → TrimPlace → Type 0
IsBodyPlace required m (Body n k) = IsLiveBodyPlace required m n k
IsBodyPlace required m (Section id) = ⊥
IsBodyPlace required m (Bytes p) = ⊥

-- where the cause of a fault is in a module that is refused with it; other faults have no place
abbrev pub IsPlaceIn : List (List ℕ) → ModuleValue → GcFault → TrimPlace → Type 0
IsPlaceIn required m UnsupportedSection p = IsSectionPlace required m p
IsPlaceIn required m LiveBody p = IsBodyPlace required m p
IsPlaceIn required m f p = ⊥

-- what is answered is a place; nothing only where there is none
abbrev pub IsExplainedIn : List (List ℕ) → ModuleValue → GcFault → Option TrimPlace → Type 0
IsExplainedIn required m f answer = MatchOption answer ((p : TrimPlace) → ¬ (IsPlaceIn required m f p)) (IsPlaceIn required m f)

-- where bytes stop to be a module, which are refused with this fault
abbrev pub IsUnreadPlace : List ℕ → ReadFault → TrimPlace → Type 0
IsUnreadPlace bytes f (Bytes p) = IsUnread bytes f × is_place_in_bytes bytes p × IsCausePlace bytes f p
IsUnreadPlace bytes f (Section id) = ⊥
IsUnreadPlace bytes f (Body n k) = ⊥

-- the same of the module that the bytes spell, or of bytes that spell none
abbrev pub IsPlace : TrimInput → GcFault → TrimPlace → Type 0
IsPlace w (Read f) p = IsUnreadPlace w.bytes f p
IsPlace w f p = (m : ModuleValue) × SpellsModule w.bytes m × IsPlaceIn w.required m f p

abbrev pub IsExplained : TrimInput → GcFault → Option TrimPlace → Type 0
IsExplained w f answer = MatchOption answer ((p : TrimPlace) → ¬ (IsPlace w f p)) (IsPlace w f)

-- the texts of places

abbrev pub section_text : ℕ → List ℕ
section_text id =
    if id == start_id then codes "start section"
    else if id == element_id then codes "element section"
    else if id == data_id then codes "data section"
    else if id == data_count_id then codes "data count section"
    else codes "section " ++ decimal id

abbrev pub body_text : ℕ → Option ℕ → List ℕ
body_text n None = codes "body of function " ++ decimal n
body_text n (Some k) = codes "operator " ++ (decimal k ++ (codes " of the body of function " ++ decimal n))

abbrev pub place_text : TrimPlace → List ℕ
place_text (Section id) = section_text id
place_text (Body n k) = body_text n k
place_text (Bytes p) = read_place_text p
