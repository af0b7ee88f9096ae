-- What a fault of trimming is about.
use Rattle.std.proofs.Common.{◌≡◌, ◌≢◌, ℕ, ◌<◌, ◌≤◌, List, [], ◌∷◌, map, take, length, get_or, subst, sym, ◌∙◌, ap, refl, Bool, true, false, cond, ◌⊎◌}
use Rattle.std.proofs.Common.{inl, inr, arith, Option, Some, None}
use Rattle.std.specs.Prelude.{IsSome, is_some, ◌↔◌}
use Rattle.std.specs.Borrow.{Bor}
use Rattle.std.specs.List.{slice_get}
use Rattle.std.specs.Option.{option_map, option_map_or}
use Rattle.std.proofs.lemmas.Bool.{both_ways}
use Rattle.std.proofs.lemmas.List.{take_all, take-map}
use Rattle.std.proofs.lemmas.Option.{slice_get-map, slice_get_read}
use Rattle.wc_read.specs.BodyOperators.{body_in}
use Rattle.wc_read.specs.Fault.{SpellsNothing}
use Rattle.wc_read.specs.Items.{def_value, func_value}
use Rattle.wc_read.specs.Modules.{ModuleValue, SpellsModule, module_value}
use Rattle.wc_read.specs.Operators.{instr_value, instr_values}
use Rattle.wc_read.specs.Place.{IsPlaced}
use Rattle.wc_read.specs.Exports.{ExportValue}
use Rattle.wc_read.specs.Sections.{IsComponent, start_id}
use Rattle.wc_read.specs.Types.{FuncTypeValue}
use Rattle.wc_read.specs.Items.{TableValue, MemoryValue}
use Rattle.wc_read.specs.declared.core_module.Module.{Module}
use Rattle.wc_read.specs.declared.items.Def.{Def}
use Rattle.wc_read.specs.declared.items.Def.TheVariants.{Import, Local}
use Rattle.wc_read.specs.declared.items.Item.{Item}
use Rattle.wc_read.specs.declared.fault.ReadFault.{ReadFault}
use Rattle.wc_read.specs.declared.fault.ReadFault.TheVariants.{Memory as read_memory, Component}
use Rattle.wc_read.specs.declared.operators.Instr.{Instr}
use Rattle.wc_read.specs.declared.operators.Space.{Space}
use Rattle.wc_read.specs.declared.place.ReadPlace.{ReadPlace}
use Rattle.wc_read.specs.declared.operators.Space.TheVariants.{Types, Funcs, Tables, Memories, Globals}
use Rattle.wc_read.proofs.ModulesLemmas.{modules_one}
use Rattle.wc_read.specs.Items.{def_seen, item_seen}
use Rattle.wc_read.specs.Decoded.{DecodedModule, FuncCode, GlobalCode, ItemIndex, decode, decoded_module, func_code}
use Rattle.wc_read.specs.Entries.{no_entry, type_entry, table_entry, memory_entry, global_entry, refs_in}
use Rattle.wc_gc.specs.InRange.{is_code_in_range, is_entry_in_range, is_item_in_range, is_operator_in_range}
use Rattle.wc_gc.specs.Exports.{IsMissingFault, missing_name}
use Rattle.wc_gc.specs.Fault.{of_read}
use Rattle.wc_gc.specs.LiveItems.{HasUnsupported, IsFault, IsFaultOf, IsLive, IsSupported, IsUnread, TrimInput, order_of}
use Rattle.wc_gc.specs.Parts.{SettingsView}
use Rattle.wc_gc.specs.Private.TrimPlace.{AdapterRefusal, IsBodyRefusal, IsMemoryRefusal, IsRefusalOf, IsRefusedFrom, IsStop, IsStopRefusal}
use Rattle.wc_graph.specs.Growth.{HasGrown, IsTied}
use Rattle.wc_graph.specs.Reached.{IsReachedFrom}
use Rattle.wc_gc.specs.TrimPlace.{IsBodyPlace, IsExplained, IsExplainedIn, IsFirstOutside, IsPlace, IsPlaceIn, IsSectionPlace, IsUnreadPlace, body_at, def_body, unsupported_ids}
use Rattle.wc_gc.specs.declared.fault.GcFault.{GcFault}
use Rattle.wc_gc.specs.declared.fault.GcFault.TheVariants.{LiveBody, Memory, Read, UnsupportedSection}
use Rattle.wc_gc.specs.declared.trim_place.TrimPlace.{TrimPlace}
use Rattle.wc_gc.specs.declared.trim_place.TrimPlace.TheVariants.{Bytes, Section, Body}
use Rattle.wc_gc.specs.Trim.{IsLaterFault}
use Rattle.wc_gc.specs.declared.search.Stop.{Stop}
use Rattle.wc_gc.proofs.LivenessLemmas.{fault_of, missing_fault, not_read}
use Rattle.wc_gc.proofs.ReachLemmas.{IsAt, bad_at}
use Rattle.wc_graph.proofs.GrowthLemmas.{grown_none}
use Rattle.wc_gc.proofs.TrimLemmas.{later_large}

-- a search from roots

pub no_roots : (has : ItemIndex → Bool) (found : List ItemIndex) → found ≡ [] → IsTied has found → HasGrown [] has found []
no_roots has found e tied = subst (λ (z : List ItemIndex). HasGrown z has found []) e (grown_none has found tied)

-- functions alone are refused

type_passes : (m : DecodedModule) (o : Option FuncTypeValue) → is_entry_in_range m (option_map_or type_entry o no_entry) ≡ true
type_passes m None = refl
type_passes m (Some t) = refl

table_passes : (m : DecodedModule) (o : Option TableValue) → is_entry_in_range m (option_map_or table_entry o no_entry) ≡ true
table_passes m None = refl
table_passes m (Some t) = refl

memory_passes : (m : DecodedModule) (o : Option MemoryValue) → is_entry_in_range m (option_map_or memory_entry o no_entry) ≡ true
memory_passes m None = refl
memory_passes m (Some y) = refl

global_passes : (m : DecodedModule) (o : Option GlobalCode) → is_entry_in_range m (option_map_or global_entry o no_entry) ≡ true
global_passes m None = refl
global_passes m (Some g) = refl

is_function : (m : DecodedModule) (s : Space) (n : ℕ) → is_item_in_range m (s, n) ≡ false → s ≡ Funcs
is_function m Types n h = absurd (both_ways _ h (type_passes m (slice_get m.types n)))
is_function m Funcs n h = refl
is_function m Tables n h = absurd (both_ways _ h (table_passes m (slice_get m.tables n)))
is_function m Memories n h = absurd (both_ways _ h (memory_passes m (slice_get m.memories n)))
is_function m Globals n h = absurd (both_ways _ h (global_passes m (slice_get m.globals n)))

pub refused_at : (m : DecodedModule) (roots : List ItemIndex) (has : ItemIndex → Bool) (found : List ItemIndex) (next : ℕ) → IsAt m roots has found next
    → next < length found → (x : ItemIndex) → get_or found next x ≡ x → is_item_in_range m x ≡ false → IsRefusedFrom m roots x.1
refused_at m roots has found next s lt x at bad =
    let e = is_function m x.0 x.1 bad in (
      subst (λ (z : Space). IsReachedFrom (refs_in m) roots (z, x.1)) e (bad_at m roots has found next s lt x at),
      subst (λ (z : Space). is_item_in_range m (z, x.1) ≡ false) e bad,
    )

-- the first operator that is refused

pub outside_at : (m : DecodedModule) (is : List Instr) (i : ℕ) (x : Instr) → i < length is → x ≡ get_or is i x
    → is_code_in_range m (instr_values (take i is)) ≡ true → is_operator_in_range m (instr_value x) ≡ false
    → IsFirstOutside m (instr_values is) i
outside_at m is i x h e before bad = record {
  operator = instr_value x;
  there = slice_get-map instr_value is i ∙ ap (option_map instr_value) (slice_get_read is (length is) i x refl h e);
  outside = bad;
  before = ap (is_code_in_range m) (take-map instr_value i is) ∙ before;
}

pub all_passed : (m : DecodedModule) (is : List Instr) (i : ℕ) → length is ≤ i → is_code_in_range m (instr_values (take i is)) ≡ true
    → is_code_in_range m (instr_values is) ≡ true
all_passed m is i over h = ap (λ (z : List Instr). is_code_in_range m (instr_values z)) (sym (take_all i is over)) ∙ h

-- bodies of functions that were read

pub body_there : (a : Module) (n : ℕ) (f : Item ℕ (Bor (List ℕ))) → slice_get a.funcs.items n ≡ Some f
    → body_at (decoded_module a) n ≡ def_body (func_code f).def
unfolding decoded_module
body_there a n f e =
    ap (λ (o : Option FuncCode). option_map_or (λ (f : FuncCode). def_body f.def) o None)
    (slice_get-map (item_seen body_in) (map func_value a.funcs.items) n
    ∙ (ap (option_map (item_seen body_in)) (slice_get-map func_value a.funcs.items n) ∙ ap (λ o. option_map (item_seen body_in) (option_map func_value o)) e))

pub imported_body : (a : Module) (n : ℕ) (f : Item ℕ (Bor (List ℕ))) (x y : Bor (List ℕ)) → slice_get a.funcs.items n ≡ Some f → f.def ≡ Import x y
    → body_at (decoded_module a) n ≡ None
imported_body a n f x y e is = body_there a n f e ∙ ap (λ (d : Def (Bor (List ℕ))). def_body (def_seen body_in (def_value (λ b. b.now) d))) is

pub local_body : (a : Module) (n : ℕ) (f : Item ℕ (Bor (List ℕ))) (b : Bor (List ℕ)) → slice_get a.funcs.items n ≡ Some f → f.def ≡ Local b
    → body_at (decoded_module a) n ≡ body_in b.now
local_body a n f b e is = body_there a n f e ∙ ap (λ (d : Def (Bor (List ℕ))). def_body (def_seen body_in (def_value (λ b. b.now) d))) is

pub body_not_there : (a : Module) (n : ℕ) → slice_get a.funcs.items n ≡ None → body_at (decoded_module a) n ≡ None
unfolding decoded_module
body_not_there a n e =
    ap (λ (o : Option FuncCode). option_map_or (λ (f : FuncCode). def_body f.def) o None)
    (slice_get-map (item_seen body_in) (map func_value a.funcs.items) n
    ∙ (ap (option_map (item_seen body_in)) (slice_get-map func_value a.funcs.items n) ∙ ap (λ o. option_map (item_seen body_in) (option_map func_value o)) e))

-- sections that are not supported

first_there : (o : Option ℕ) (ids : List ℕ) (id : ℕ) → slice_get (cond (is_some o) (start_id ∷ ids) ids) 0 ≡ Some id → IsSome o ⊎ (ids ≢ [])
first_there (Some x) ids id e = inl refl
first_there None [] id e = absurd cc
first_there None (x ∷ ids) id e = inr (λ p. absurd cc)

first_missing : (o : Option ℕ) (ids : List ℕ) → slice_get (cond (is_some o) (start_id ∷ ids) ids) 0 ≡ None → ¬ (IsSome o ⊎ (ids ≢ []))
first_missing (Some x) ids e h = absurd cc
first_missing None [] e (inl h) = absurd cc
first_missing None [] e (inr h) = h refl
first_missing None (x ∷ ids) e h = absurd cc

pub none_unsupported : (m : ModuleValue) → slice_get (unsupported_ids m) 0 ≡ None → ¬ (HasUnsupported m)
none_unsupported m e = first_missing m.start m.ids e

-- why a module is refused, and what that is about

pub refusal_is : (required : List (List ℕ)) (m : ModuleValue) (r : AdapterRefusal) (f : GcFault) (place : Option TrimPlace) → r.fault ≡ f → r.place ≡ place
    → IsFaultOf required m f → IsExplainedIn required m f place → IsRefusalOf required m r
refusal_is required m r f place e p fault explained = (
  subst (IsFaultOf required m) (sym e) fault,
  subst (λ (z : GcFault). IsExplainedIn required m z r.place) (sym e) (subst (IsExplainedIn required m f) (sym p) explained),
)

pub memory_refusal : (required : List (List ℕ)) (m : ModuleValue) (r : AdapterRefusal) → IsMemoryRefusal r → IsRefusalOf required m r
memory_refusal required m r h = refusal_is required m r Memory None h.0 h.1 refl (λ p k. k)

missing_explained : (required : List (List ℕ)) (m : ModuleValue) (exports : List ExportValue) (f : GcFault) → IsMissingFault exports required f
    → IsExplainedIn required m f None
missing_explained required m exports f (inl e) = λ p k. subst (λ (z : GcFault). IsPlaceIn required m z p) e k
missing_explained required m exports f (inr h) = λ p k. subst (λ (z : GcFault). IsPlaceIn required m z p) h.1 k

pub missing_refusal : (required : List (List ℕ)) (m : ModuleValue) (exports : List ExportValue) (f : GcFault) (r : AdapterRefusal) → exports ≡ m.exports
    → IsMissingFault exports required f → r.fault ≡ f → r.place ≡ None → IsRefusalOf required m r
missing_refusal required m exports f r same h e p =
    refusal_is required m r f None e p (missing_fault required m exports f same h) (missing_explained required m exports f h)

pub section_refusal : (required : List (List ℕ)) (m : ModuleValue) (id : ℕ) (r : AdapterRefusal) → missing_name m.exports required ≡ None
    → slice_get (unsupported_ids m) 0 ≡ Some id → r.fault ≡ UnsupportedSection → r.place ≡ Some (Section id) → IsRefusalOf required m r
section_refusal required m id r none there e p =
    refusal_is required m r UnsupportedSection (Some (Section id)) e p (none, first_there m.start m.ids id there) (none, there)

-- the body at which a search stopped, if what it reaches is live

module _ (a : Module) (required : List (List ℕ)) (roots : List ItemIndex)
    (live : (x : ItemIndex) → IsReachedFrom (refs_in (decode (module_value a))) roots x → IsLive required (module_value a) x)
    (supported : IsSupported required (module_value a)) where
  body_refusal : (n : ℕ) (r : AdapterRefusal) → IsRefusedFrom (decoded_module a) roots n → IsBodyRefusal (decoded_module a) n r
      → IsRefusalOf required (module_value a) r
  unfolding decoded_module
  body_refusal n r refused (inl h) = memory_refusal required (module_value a) r h
  body_refusal n r refused (inr h) =
      refusal_is required (module_value a) r LiveBody (Some (Body n h.0)) h.1 h.2
      (supported, ((Funcs, n), live (Funcs, n) refused.0, refused.1))
      (record { supported = supported; reached = live (Funcs, n) refused.0; refused = refused.1; operator = h.3 })

  pub stop_refusal : (s : Stop) (r : AdapterRefusal) → IsStop (decoded_module a) roots s → IsStopRefusal (decoded_module a) s r
      → IsRefusalOf required (module_value a) r
  stop_refusal s r (inl e) h = memory_refusal required (module_value a) r (subst (λ (z : Stop). IsStopRefusal (decoded_module a) z r) e h)
  stop_refusal s r (inr stop) h =
      body_refusal stop.0 r stop.2 (subst (λ (z : Stop). IsStopRefusal (decoded_module a) z r) stop.1 h)

-- places of the module that bytes spell

not_unread : (bytes : List ℕ) (m : ModuleValue) → SpellsModule bytes m → (r : ReadFault) (p : TrimPlace) → ¬ (IsUnreadPlace bytes r p)
not_unread bytes m s r (Bytes q) h = h.0.0 m s
not_unread bytes m s r (Section id) h = h
not_unread bytes m s r (Body n k) h = h

pub explained : (w : TrimInput) (m : ModuleValue) → SpellsModule w.bytes m → (f : GcFault) (answer : Option TrimPlace) → IsExplainedIn w.required m f answer
    → IsExplained w f answer
explained w m s (Read r) None none = λ p h. not_unread w.bytes m s r p h
explained w m s (Read r) (Some p) place = absurd place
explained w m s f None none = λ p h. none p (subst (λ (z : ModuleValue). IsPlaceIn w.required z f p) (modules_one w.bytes h.0 m h.1 s) h.2)
explained w m s f (Some p) place = (m, s, place)

-- bytes that are no module

pub unread_fault : (w : TrimInput) (f : ReadFault) → (f ≢ read_memory → SpellsNothing SpellsModule w.bytes) → ((f ≡ Component) ↔ IsComponent w.bytes)
    → IsFault w (of_read f)
unread_fault w read_memory nothing component = inl refl
unread_fault w f nothing component = inr ((nothing (λ e. absurd cc), (λ e. absurd cc), component), not_read w)

pub unread_explained : (w : TrimInput) (f : ReadFault) (place : Option ReadPlace) → (f ≢ read_memory → SpellsNothing SpellsModule w.bytes)
    → ((f ≡ Component) ↔ IsComponent w.bytes) → IsPlaced w.bytes f place → IsExplained w (of_read f) (option_map Bytes place)
unread_explained w read_memory None nothing component placed = λ p h. h.2
unread_explained w read_memory (Some p) nothing component placed = absurd (placed.0 refl)
unread_explained w f None nothing component placed = absurd cc
unread_explained w f (Some p) nothing component placed = ((nothing placed.0, placed.0, component), placed.1, placed.2)

-- faults of what comes after liveness

late_explained : (w : TrimInput) (f : GcFault) → 5 ≤ order_of f → IsExplained w f None
late_explained w (Read r) h = absurd (omega arith)
late_explained w UnsupportedSection h = absurd (omega arith)
late_explained w LiveBody h = absurd (omega arith)
late_explained w f h = λ p k. k.2

pub later_explained : (s : SettingsView) (w : TrimInput) (m : DecodedModule) (exports : List ExportValue) (live : ItemIndex → Bool) (f : GcFault)
    → (f ≡ Memory) ⊎ IsLaterFault s m exports live f → IsExplained w f None
later_explained s w m exports live f (inl e) = subst (λ (z : GcFault). IsExplained w z None) (sym e) (λ p k. k.2)
later_explained s w m exports live f (inr h) = late_explained w f (later_large s m exports live f h.0)

-- a place is one in a module that is refused with this fault

module _ (required : List (List ℕ)) (m : ModuleValue) where
  section_fault : (p : TrimPlace) → IsSectionPlace required m p → IsFaultOf required m UnsupportedSection
  section_fault (Section id) h = (h.0, first_there m.start m.ids id h.1)
  section_fault (Body n k) h = absurd h
  section_fault (Bytes p) h = absurd h

  body_fault : (p : TrimPlace) → IsBodyPlace required m p → IsFaultOf required m LiveBody
  body_fault (Body n k) h = (h.supported, ((Funcs, n), h.reached, h.refused))
  body_fault (Section id) h = absurd h
  body_fault (Bytes p) h = absurd h

  place_in_refused : (f : GcFault) (p : TrimPlace) → IsPlaceIn required m f p → IsFaultOf required m f
  place_in_refused UnsupportedSection p h = section_fault p h
  place_in_refused LiveBody p h = body_fault p h
  place_in_refused f p h = absurd h

unread_of_place : (bytes : List ℕ) (r : ReadFault) (p : TrimPlace) → IsUnreadPlace bytes r p → IsUnread bytes r
unread_of_place bytes r (Bytes q) h = h.0
unread_of_place bytes r (Section id) h = absurd h
unread_of_place bytes r (Body n k) h = absurd h

pub place_of_fault : (w : TrimInput) (f : GcFault) (p : TrimPlace) → IsPlace w f p → IsFault w f
place_of_fault w (Read r) p h = inr (unread_of_place w.bytes r p h, not_read w)
place_of_fault w f p h = fault_of w h.0 h.1 f (place_in_refused w.required h.0 f p h.2)
