-- What is missing among the exports of a module: the first that something does not hold of.
use Rattle.std.proofs.Common.{◌≡◌, ◌≢◌, ◌≤◌, ◌+◌, ℕ, Bool, true, false, cond, arith, List, [], ◌∷◌, ◌++◌, map, All, IsTrue, MatchOption, Option, Some, None, IfOk, Result, Ok, Err, String, refl, sym, ap, subst, ◌∙◌, append_assoc, append-nil, inl, inr}
use Rattle.std.specs.Borrow.{Bor}
use Rattle.std.specs.Map.{lookup}
use Rattle.std.specs.Option.{option_to_list}
use Rattle.wc_names.proofs.InterfaceLemmas.{same_key}
use Rattle.semver.specs.Identifiers.{parts_text}
use Rattle.std.specs.declared.alloc.Global.{Global}
use Rattle.std.proofs.lemmas.List.{map-append}
use Rattle.std.proofs.lemmas.List.Elements.{All-append, All-cons, All-head, All-nil, All-tail, filter_map-append}
use Rattle.wc_read.specs.declared.types.FuncType.{FuncType}
use Rattle.wc_read.specs.Types.{FuncTypeValue, func_type_value}
use Rattle.wc_resolve.specs.declared.ids.InterfaceId.{InterfaceId}
use Rattle.wc_resolve.specs.declared.worlds.WorldItem.{WorldItem}
use Rattle.wc_resolve.specs.declared.worlds.WorldKey.{WorldKey}
use Rattle.wc_resolve.specs.Views.{ItemView, KeyView, key_view, world_entry}
use Rattle.wc_resolve.specs.WellFormed.{IsWellFormed}
use Rattle.wc_resolve.proofs.WellFormedLemmas.{export_keys_have_texts, export_keys_in}
use Rattle.wc_resolve.specs.Kinds.{ResolveView}
use Rattle.wc_adapters.specs.Entries.{Entries}
use Rattle.wc_names.specs.declared.exports.Export.{Export}
use Rattle.wc_names.specs.Exports.{CoreExport}
use Rattle.wc_names.specs.Imports.{NameScope}
use Rattle.wc_names.specs.Keys.{item_under, key_eq}
use Rattle.wc_names.specs.ExportViews.{ExportView}
use Rattle.wc_validate.specs.declared.fault.ValidateFault.{ValidateFault}
use Rattle.wc_validate.specs.declared.fault.ValidateFault.TheVariants.{Memory, MissingCallback, SeveralMemoryExports}
use Rattle.wc_validate.specs.declared.explain.keys.LackingKey.{LackingKey}
use Rattle.wc_validate.specs.declared.names.Names.{Names}
use Rattle.wc_validate.specs.declared.place.Place.{Place}
use Rattle.wc_validate.specs.declared.place.Subject.{Subject}
use Rattle.wc_validate.specs.declared.requirements.RequiredExports.{RequiredExports}
use Rattle.wc_validate.specs.Exports.Map.{ExportRecord, export_entry, is_memory}
use Rattle.wc_validate.specs.Imports.Map.{required_entry}
use Rattle.wc_validate.specs.Explain.{IsCallbackPlace, IsFirstFailing, IsFirstLacking, IsFirstUnexported, IsFunctionLack, IsFunctionPlace, IsKeyPlace, IsLack, IsMemoryPlace, IsMissingPlace, IsSecondMemory, PlaceView, an_export, SubjectView, difference_of, missing_export, place_view}
use Rattle.wc_validate.specs.Private.Explain.{IsCallbackPlaced, IsFunctionLackAt, IsKeyStop, IsLackAt, IsLackNamed, IsLackOf, IsMemoryPlaced, IsRefusedForCallbacks, IsRefusedForMemories, IsSecondNamed, IsUncalled, IsUnexported}
use Rattle.wc_validate.specs.NameScope.{HasItsWorld}
use Rattle.wc_validate.specs.Private.Requirements.{HasKeysNamed}
use Rattle.wc_validate.specs.Private.ExportedFunctions.{IsExportIndexOf}
use Rattle.wc_validate.specs.Requirements.{AreMet, IsFirstUnmet, IsMet, IsShortfall, IsUnmetFault, Requirement, callback_name, callbacks, exported_type, is_called_back, key_requirement, key_requirements, memory_count, one_memory, type_requirement, typed_function, world_function}
use Rattle.wc_validate.specs.Refused.{IsMemoryRefusal, IsPlaceOrNone, IsRefusedAt, RefusedModule}
use Rattle.wc_validate.proofs.ContainedLemmas.{some_same}
use Rattle.wc_validate.proofs.RefusedLemmas.{memory_at, refused_as}
use Rattle.wc_validate.proofs.RequirementLemmas.{first_right, keys_next, met_append, unmet_left, unmet_right}

-- a list that is gone through as long as something holds
pub record Passed {X : Type 0} (P : X → Type 0) (all rest : List X) : Type 0 where
  pub before : List X
  pub cut : all ≡ before ++ rest
  pub hold : All P before

pub passed_start : {X : Type 0} (P : X → Type 0) (all rest : List X) → rest ≡ all → Passed P all rest
passed_start P all rest is = record { before = []; cut = sym is; hold = All-nil P }

pub passed_next : {X : Type 0} (P : X → Type 0) (all left rest : List X) (x : X) → Passed P all left → left ≡ x ∷ rest → P x → Passed P all rest
passed_next P all left rest x p is here = record {
  before = p.before ++ x ∷ [];
  cut = p.cut ∙ (ap (λ z. p.before ++ z) is ∙ sym (append_assoc p.before (x ∷ []) rest));
  hold = All-append P p.before (x ∷ []) p.hold (All-cons P x [] here (All-nil P));
}

pub passed_first : {X : Type 0} (P : X → Type 0) (all left rest : List X) (x : X) → Passed P all left → left ≡ x ∷ rest → ¬ P x → IsFirstFailing P all x
passed_first P all left rest x p is not_here = record {
  before = p.before;
  after = rest;
  cut = p.cut ∙ ap (λ z. p.before ++ z) is;
  hold = p.hold;
  fails = not_here;
}

pub passed_end : {X : Type 0} (P : X → Type 0) (all left : List X) → Passed P all left → left ≡ [] → All P all
passed_end P all left p is =
    let whole : all ≡ p.before = p.cut ∙ (ap (λ z. p.before ++ z) is ∙ append-nil p.before) in
    subst (All P) (sym whole) p.hold

-- something of a list that does not hold
pub all_rest : {X : Type 0} (P : X → Type 0) (xs ys : List X) → All P (xs ++ ys) → All P ys
all_rest P [] ys h = h
all_rest P (a ∷ xs) ys h = all_rest P xs ys (All-tail P a (xs ++ ys) h)

pub not_all : {X : Type 0} (P : X → Type 0) (xs : List X) (x : X) → IsFirstFailing P xs x → All P xs → ⊥
not_all P xs x p h = p.fails (All-head P x p.after (all_rest P p.before (x ∷ p.after) (subst (All P) p.cut h)))

-- the fault of the first requirement that is not met
module _ (r : ResolveView) (xs : List CoreExport) (recorded : ExportRecord) (f : ValidateFault) where
  pub skip_met : (ms ns : List Requirement) → AreMet r xs recorded ms → IsFirstUnmet r xs recorded (ms ++ ns) f → IsFirstUnmet r xs recorded ns f
  skip_met [] ns met h = h
  skip_met (m ∷ ms) ns met (inl h) = absurd (h.0 met.0)
  skip_met (m ∷ ms) ns met (inr h) = skip_met ms ns met.1 h.1

  pub no_unmet : (ms : List Requirement) → AreMet r xs recorded ms → ¬ IsFirstUnmet r xs recorded ms f
  no_unmet [] met h = h
  no_unmet (m ∷ ms) met (inl h) = h.0 met.0
  no_unmet (m ∷ ms) met (inr h) = no_unmet ms met.1 h.1

  pub short_of_first : (need : Requirement) (ns : List Requirement) → ¬ IsMet r xs recorded need → IsFirstUnmet r xs recorded (need ∷ ns) f
      → IsShortfall xs need f
  short_of_first need ns unmet (inl h) = h.1
  short_of_first need ns unmet (inr h) = absurd (unmet h.0)

-- keys that are gone through as long as their requirements are met
pub record KeysPassed (r : ResolveView) (xs : List CoreExport) (recorded : ExportRecord) (exports : Entries) (all rest : List KeyView) : Type 0 where
  pub before : List KeyView
  pub cut : all ≡ before ++ rest
  pub met : AreMet r xs recorded (key_requirements exports before)

module _ (r : ResolveView) (xs : List CoreExport) (recorded : ExportRecord) (exports : Entries) (all : List KeyView) where
  pub keys_start : (rest : List KeyView) → rest ≡ all → KeysPassed r xs recorded exports all rest
  keys_start rest is = record { before = []; cut = sym is; met = tt }

  requirements_more : (before : List KeyView) (key : KeyView)
      → key_requirements exports (before ++ key ∷ []) ≡ key_requirements exports before ++ option_to_list (key_requirement exports key)
  requirements_more before key =
      filter_map-append (key_requirement exports) before (key ∷ [])
      ∙ ap (λ z. key_requirements exports before ++ z)
      (keys_next exports (key ∷ []) [] key refl ∙ append-nil (option_to_list (key_requirement exports key)))

  pub keys_more : (left rest : List KeyView) (key : KeyView) → KeysPassed r xs recorded exports all left → left ≡ key ∷ rest
      → AreMet r xs recorded (option_to_list (key_requirement exports key)) → KeysPassed r xs recorded exports all rest
  keys_more left rest key p is here = record {
    before = p.before ++ key ∷ [];
    cut = p.cut ∙ (ap (λ z. p.before ++ z) is ∙ sym (append_assoc p.before (key ∷ []) rest));
    met = subst (AreMet r xs recorded) (sym (requirements_more p.before key))
        (met_append r xs recorded (key_requirements exports p.before) (option_to_list (key_requirement exports key)) p.met here);
  }

  pub keys_end : (left : List KeyView) → KeysPassed r xs recorded exports all left → left ≡ [] → AreMet r xs recorded (key_requirements exports all)
  keys_end left p is =
      let whole : all ≡ p.before = p.cut ∙ (ap (λ z. p.before ++ z) is ∙ append-nil p.before) in
      subst (λ z. AreMet r xs recorded (key_requirements exports z)) (sym whole) p.met

  lack_at : (left rest : List KeyView) (key : KeyView) (f : ValidateFault) (o : Option Requirement) → KeysPassed r xs recorded exports all left
      → left ≡ key ∷ rest → key_requirement exports key ≡ o → IsFirstUnmet r xs recorded (option_to_list o) f
      → IsFirstLacking r xs recorded exports all key f
  lack_at left rest key f None p is required h = absurd h
  lack_at left rest key f (Some need) p is required (inr h) = absurd h.1
  lack_at left rest key f (Some need) p is required (inl h) = record {
    before = p.before;
    after = rest;
    cut = p.cut ∙ ap (λ z. p.before ++ z) is;
    met = p.met;
    need = need;
    required = required;
    unmet = h.0;
    short = h.1;
  }

  pub keys_lack : (left rest : List KeyView) (key : KeyView) (f : ValidateFault) → KeysPassed r xs recorded exports all left → left ≡ key ∷ rest
      → IsUnmetFault r xs recorded (option_to_list (key_requirement exports key)) f → IsLackAt r xs recorded exports all key f
  keys_lack left rest key Memory p is h = tt
  keys_lack left rest key f p is h = lack_at left rest key f (key_requirement exports key) p is refl h

-- what is missing for a key
pub keys_cut : (exports : Entries) (keys before after : List KeyView) (key : KeyView) (need : Requirement) → keys ≡ before ++ key ∷ after
    → key_requirement exports key ≡ Some need
    → key_requirements exports keys ≡ key_requirements exports before ++ need ∷ key_requirements exports after
keys_cut exports keys before after key need cut required =
    ap (key_requirements exports) cut
    ∙ (filter_map-append (key_requirement exports) before (key ∷ after)
    ∙ ap (λ z. key_requirements exports before ++ z)
    (keys_next exports (key ∷ after) after key refl ∙ ap (λ o. option_to_list o ++ key_requirements exports after) required))

-- the fault of a key, among those of all keys; and that of a required function
module _ (r : ResolveView) (xs : List CoreExport) (recorded : ExportRecord) where
  pub key_unmet : (exports : Entries) (keys : List KeyView) (f : ValidateFault) (key : KeyView) → IsFirstLacking r xs recorded exports keys key f
      → IsFirstUnmet r xs recorded (key_requirements exports keys) f
  key_unmet exports keys f key p =
      let rest = key_requirements exports p.after in
      let cut = keys_cut exports keys p.before p.after key p.need p.cut p.required in
      subst (λ z. IsFirstUnmet r xs recorded z f) (sym cut)
      (first_right r xs recorded (key_requirements exports p.before) (p.need ∷ rest) f p.met (inl (p.unmet, p.short)))

  pub lack_unmet : (exports : Entries) (keys : List KeyView) (f : ValidateFault) (key : KeyView) → IsLackAt r xs recorded exports keys key f
      → IsUnmetFault r xs recorded (key_requirements exports keys) f
  lack_unmet exports keys Memory key h = tt
  lack_unmet exports keys f key h = key_unmet exports keys f key h

  pub function_unmet : (functions : List (List ℕ × FuncTypeValue)) (f : ValidateFault) (x : List ℕ × FuncTypeValue)
      → IsFirstUnexported r xs recorded functions x f → IsFirstUnmet r xs recorded (map type_requirement functions) f
  function_unmet functions f x p =
      let rest = map type_requirement p.after in
      let cut : map type_requirement functions ≡ map type_requirement p.before ++ type_requirement x ∷ rest =
      ap (map type_requirement) p.cut ∙ map-append type_requirement p.before (x ∷ p.after) in
      subst (λ z. IsFirstUnmet r xs recorded z f) (sym cut)
      (first_right r xs recorded (map type_requirement p.before) (type_requirement x ∷ rest) f p.met (inl (p.unmet, p.short)))

  pub unexported_unmet : (functions : List (List ℕ × FuncTypeValue)) (f : ValidateFault) (x : List ℕ × FuncTypeValue)
      → IsFunctionLackAt r xs recorded functions x f → IsUnmetFault r xs recorded (map type_requirement functions) f
  unexported_unmet functions Memory x h = tt
  unexported_unmet functions f x h = function_unmet functions f x h

-- a module that is refused for a key, or for a required function
module _ (r : ResolveView) (xs : List CoreExport) (recorded : ExportRecord) where
  pub key_refused : (exports : Entries) (keys : List KeyView) (key : KeyView) (f : ValidateFault) (x : RefusedModule) → x.fault ≡ f
      → IsLackAt r xs recorded exports keys key f → IsPlaceOrNone (IsKeyPlace r xs recorded exports keys) f x.place
      → IsUnmetFault r xs recorded (key_requirements exports keys) x.fault × IsRefusedAt (IsKeyPlace r xs recorded exports keys) x
  key_refused exports keys key f x is lack placed = (
    subst (IsUnmetFault r xs recorded (key_requirements exports keys)) (sym is) (lack_unmet r xs recorded exports keys f key lack),
    subst (λ z. IsPlaceOrNone (IsKeyPlace r xs recorded exports keys) z x.place) (sym is) placed,
  )

  pub function_refused : (functions : List (List ℕ × FuncTypeValue)) (own : List ℕ × FuncTypeValue) (f : ValidateFault) (x : RefusedModule) → x.fault ≡ f
      → IsFunctionLackAt r xs recorded functions own f → IsPlaceOrNone (IsFunctionPlace r xs recorded functions) f x.place
      → IsUnmetFault r xs recorded (map type_requirement functions) x.fault × IsRefusedAt (IsFunctionPlace r xs recorded functions) x
  function_refused functions own f x is lack placed = (
    subst (IsUnmetFault r xs recorded (map type_requirement functions)) (sym is) (unexported_unmet r xs recorded functions f own lack),
    subst (λ z. IsPlaceOrNone (IsFunctionPlace r xs recorded functions) z x.place) (sym is) placed,
  )

  pub keys_failed : (exports : Entries) (keys : List KeyView) (x : RefusedModule) → IsMemoryRefusal x
      → IsUnmetFault r xs recorded (key_requirements exports keys) x.fault × IsRefusedAt (IsKeyPlace r xs recorded exports keys) x
  keys_failed exports keys x h = (
    subst (IsUnmetFault r xs recorded (key_requirements exports keys)) (sym h.0) tt,
    memory_at (IsKeyPlace r xs recorded exports keys) x h,
  )

  pub functions_failed : (functions : List (List ℕ × FuncTypeValue)) (x : RefusedModule) → IsMemoryRefusal x
      → IsUnmetFault r xs recorded (map type_requirement functions) x.fault × IsRefusedAt (IsFunctionPlace r xs recorded functions) x
  functions_failed functions x h = (
    subst (IsUnmetFault r xs recorded (map type_requirement functions)) (sym h.0) tt,
    memory_at (IsFunctionPlace r xs recorded functions) x h,
  )

-- what holds of the keys of entries holds of one that is found
key_step : (P : KeyView → Type 0) (key : KeyView) (e : KeyView × ItemView) (es : Entries) (item : ItemView) (b : Bool) → key_eq key e.0 ≡ b → P e.0
    → (lookup (key_eq key) es ≡ Some item → P key) → cond b (Some e.1) (lookup (key_eq key) es) ≡ Some item → P key
key_step P key e es item true test here rest is = subst P (sym (same_key key e.0 test)) here
key_step P key e es item false test here rest is = rest is

pub holds_of_key : (P : KeyView → Type 0) (key : KeyView) (es : Entries) (item : ItemView) → All (λ (x : KeyView × ItemView). P x.0) es
    → Some item ≡ item_under es key → P key
holds_of_key P key es item all is = found es all (sym is) where
  found : (es : Entries) → All (λ (x : KeyView × ItemView). P x.0) es → lookup (key_eq key) es ≡ Some item → P key
  found [] all is = absurd (let bad : ⊥ = cc is in bad)
  found (e ∷ es) all is =
      key_step P key e es item (key_eq key e.0) refl (All-head (λ (x : KeyView × ItemView). P x.0) e es all)
      (found es (All-tail (λ (x : KeyView × ItemView). P x.0) e es all)) is

-- what the world of a scope exports has keys with texts
pub world_keys : (s : NameScope) → IsWellFormed s.resolve → HasItsWorld s → HasKeysNamed s
world_keys s formed world = λ k d small. (
  export_keys_in s.resolve formed world.0 s.world world.1 k d small,
  export_keys_have_texts s.resolve formed world.0 s.world world.1 parts_text k d small,
)

pub named_lack : {F : Type 0} (r : ResolveView) (functions : List (Option InterfaceId × String Global)) (exports : List (WorldKey × WorldItem)) (key : WorldKey)
    (need : Requirement) (result : Result (Option Subject) F) → key_requirement (map world_entry exports) (key_view key) ≡ Some need
    → IfOk result (IsLackOf r functions (key_view key) need) → IfOk result (IsLackNamed r functions exports key)
named_lack r functions exports key need (Ok answer) required h = λ other is.
    subst (λ z. IsLackOf r functions (key_view key) z answer) (some_same (sym required ∙ is)) h
named_lack r functions exports key need (Err e) required h = tt

pub named_world : (r : ResolveView) (recorded : ExportRecord) (exports : Entries) (key : KeyView) (name own : List ℕ) (need : Requirement)
    → key_requirement exports key ≡ Some (world_function own) → name ≡ own → key_requirement exports key ≡ Some need
    → IsLack r recorded key need (missing_export name)
named_world r recorded exports key name own need required called is =
    subst (λ z. IsLack r recorded key z (missing_export name)) (some_same (sym required ∙ is)) (ap missing_export called)

pub key_placed : (r : ResolveView) (xs : List CoreExport) (recorded : ExportRecord) (exports : Entries) (keys : List KeyView) (key : KeyView)
    (f : ValidateFault) (subject : SubjectView) → IsLackAt r xs recorded exports keys key f → f ≢ Memory
    → ((need : Requirement) → key_requirement exports key ≡ Some need → IsLack r recorded key need subject)
    → IsKeyPlace r xs recorded exports keys f (record { subject = subject; types = None })
key_placed r xs recorded exports keys key Memory subject h real lack = absurd (real refl)
key_placed r xs recorded exports keys key f subject h real lack = record { key = key; first = h; lack = lack h.need h.required; types = refl }

-- something is missing for a key at which validation stops
lacks : (r : ResolveView) (xs : List CoreExport) (recorded : ExportRecord) (exports : Entries) (keys : List KeyView) (key : KeyView) (f : ValidateFault)
    → IsLackAt r xs recorded exports keys key f → f ≢ Memory
    → ((need : Requirement) → key_requirement exports key ≡ Some need → IsMet r xs recorded need) → ⊥
lacks r xs recorded exports keys key Memory h real met = real refl
lacks r xs recorded exports keys key f h real met = h.unmet (met h.need h.required)

pub key_lacks : (n : Names) (functions : List (Option InterfaceId × String Global)) (x : LackingKey) → IsKeyStop n functions x → x.fault ≢ Memory
    → IsLackNamed n.resolve.now functions n.world.now.exports.entries x.key.now None → ⊥
key_lacks n functions x stop real named =
    lacks n.resolve.now stop.0 stop.1 (map world_entry n.world.now.exports.entries) stop.2 (key_view x.key.now) x.fault stop.4 real
    (λ need is. named need is stop.1 stop.3 stop.0)

-- the types of a place
pub difference_is : (a b : FuncType) (wanted found : FuncTypeValue) → func_type_value a ≡ wanted → func_type_value b ≡ found
    → Some (difference_of (func_type_value a) (func_type_value b)) ≡ Some (difference_of wanted found)
difference_is a b wanted found p q = λ i. Some (difference_of (p i) (q i))

-- functions that are gone through as long as they are exported as they are required
pub record FunctionsPassed (r : ResolveView) (xs : List CoreExport) (recorded : ExportRecord) (all rest : List (List ℕ × FuncTypeValue)) : Type 0 where
  pub before : List (List ℕ × FuncTypeValue)
  pub cut : all ≡ before ++ rest
  pub met : AreMet r xs recorded (map type_requirement before)

module _ (r : ResolveView) (xs : List CoreExport) (recorded : ExportRecord) (all : List (List ℕ × FuncTypeValue)) where
  pub functions_start : (rest : List (List ℕ × FuncTypeValue)) → rest ≡ all → FunctionsPassed r xs recorded all rest
  functions_start rest is = record { before = []; cut = sym is; met = tt }

  pub functions_more : (left rest : List (List ℕ × FuncTypeValue)) (own name : List ℕ) (ty : FuncTypeValue) → FunctionsPassed r xs recorded all left
      → left ≡ (own, ty) ∷ rest → name ≡ own → IsMet r xs recorded (typed_function name ty) → FunctionsPassed r xs recorded all rest
  functions_more left rest own name ty p is called here = record {
    before = p.before ++ (own, ty) ∷ [];
    cut = p.cut ∙ (ap (λ z. p.before ++ z) is ∙ sym (append_assoc p.before ((own, ty) ∷ []) rest));
    met = subst (AreMet r xs recorded) (sym (map-append type_requirement p.before ((own, ty) ∷ [])))
        (met_append r xs recorded (map type_requirement p.before) (typed_function own ty ∷ []) p.met
        (subst (λ z. IsMet r xs recorded (typed_function z ty)) called here, tt));
  }

  pub functions_end : (left : List (List ℕ × FuncTypeValue)) → FunctionsPassed r xs recorded all left → left ≡ []
      → AreMet r xs recorded (map type_requirement all)
  functions_end left p is =
      let whole : all ≡ p.before = p.cut ∙ (ap (λ z. p.before ++ z) is ∙ append-nil p.before) in
      subst (λ z. AreMet r xs recorded (map type_requirement z)) (sym whole) p.met

  pub functions_cut : (before after : List (List ℕ × FuncTypeValue)) (x : List ℕ × FuncTypeValue) → all ≡ before ++ x ∷ after
      → map type_requirement all ≡ map type_requirement before ++ type_requirement x ∷ map type_requirement after
  functions_cut before after x cut = ap (map type_requirement) cut ∙ map-append type_requirement before (x ∷ after)

  lack_here : (left rest : List (List ℕ × FuncTypeValue)) (name : List ℕ) (ty : FuncTypeValue) (f : ValidateFault) → FunctionsPassed r xs recorded all left
      → left ≡ (name, ty) ∷ rest → IsFirstUnmet r xs recorded (typed_function name ty ∷ []) f → IsFirstUnexported r xs recorded all (name, ty) f
  lack_here left rest name ty f p is (inr h) = absurd h.1
  lack_here left rest name ty f p is (inl h) = record {
    before = p.before;
    after = rest;
    cut = p.cut ∙ ap (λ z. p.before ++ z) is;
    met = p.met;
    unmet = h.0;
    short = h.1;
  }

  lack_by : (left rest : List (List ℕ × FuncTypeValue)) (name : List ℕ) (ty : FuncTypeValue) (f : ValidateFault) → FunctionsPassed r xs recorded all left
      → left ≡ (name, ty) ∷ rest → IsUnmetFault r xs recorded (typed_function name ty ∷ []) f → IsFunctionLackAt r xs recorded all (name, ty) f
  lack_by left rest name ty Memory p is h = tt
  lack_by left rest name ty f p is h = lack_here left rest name ty f p is h

  pub functions_lack : (left rest : List (List ℕ × FuncTypeValue)) (own name : List ℕ) (ty : FuncTypeValue) (f : ValidateFault)
      → FunctionsPassed r xs recorded all left → left ≡ (own, ty) ∷ rest → name ≡ own → IsUnmetFault r xs recorded (typed_function name ty ∷ []) f
      → IsFunctionLackAt r xs recorded all (name, ty) f
  functions_lack left rest own name ty f p is called h = lack_by left rest name ty f p (is ∙ ap (λ z. (z, ty) ∷ rest) (sym called)) h

  pub function_here : (index : List (Bor (List ℕ) × Bor FuncType)) (name : List ℕ) (ty : FuncType) (f : ValidateFault) (p : Place) → IsExportIndexOf index xs
      → IsFunctionLackAt r xs recorded all (name, func_type_value ty) f → f ≢ Memory → IsUnexported index name ty p
      → IsFunctionPlace r xs recorded all f (place_view p)
  function_here index name ty Memory p same first real h = absurd (real refl)
  function_here index name ty f p same first real h = record { required = (name, func_type_value ty); first = first; lack = h xs same }

-- what is said of a required function, by the type with which one of its name is exported
module _ (xs : List CoreExport) (name : List ℕ) (ty : FuncTypeValue) (p : PlaceView) where
  pub lack_missing : exported_type xs name ≡ None → p.subject ≡ missing_export name → p.types ≡ None → IsFunctionLack xs (name, ty) p
  lack_missing is subject types =
      subst (λ o. MatchOption o ((p.subject ≡ missing_export name) × (p.types ≡ None))
      (λ found. (p.subject ≡ an_export name) × (p.types ≡ Some (difference_of ty found)))) (sym is) (subject, types)

  pub lack_retyped : (found : FuncTypeValue) → exported_type xs name ≡ Some found → p.subject ≡ an_export name → p.types ≡ Some (difference_of ty found)
      → IsFunctionLack xs (name, ty) p
  lack_retyped found is subject types =
      subst (λ o. MatchOption o ((p.subject ≡ missing_export name) × (p.types ≡ None))
      (λ found. (p.subject ≡ an_export name) × (p.types ≡ Some (difference_of ty found)))) (sym is) (subject, types)

-- memories that are gone through
swapped : (a b : Bool) (n : ℕ) → cond a (cond b (n + 1) n + 1) (cond b (n + 1) n) ≡ cond b (cond a (n + 1) n + 1) (cond a (n + 1) n)
swapped true true n = refl
swapped true false n = refl
swapped false true n = refl
swapped false false n = refl

count_more : (xs : ExportRecord) (x : List ℕ × ExportView)
    → memory_count (xs ++ x ∷ []) ≡ cond (is_memory x.1) (memory_count xs + 1) (memory_count xs)
count_more [] x = refl
count_more (y ∷ ys) x = ap (λ n. cond (is_memory y.1) (n + 1) n) (count_more ys x) ∙ swapped (is_memory y.1) (is_memory x.1) (memory_count ys)

pub record MemoriesPassed (found : Bool) (all rest : ExportRecord) : Type 0 where
  pub before : ExportRecord
  pub cut : all ≡ before ++ rest
  pub count : memory_count before ≡ cond found 1 0

pub second_start : (all rest : ExportRecord) → rest ≡ all → MemoriesPassed false all rest
second_start all rest is = record { before = []; cut = sym is; count = refl }

second_next : (found now : Bool) (all left rest : ExportRecord) (x : List ℕ × ExportView) → (p : MemoriesPassed found all left) → left ≡ x ∷ rest
    → cond (is_memory x.1) (memory_count p.before + 1) (memory_count p.before) ≡ cond now 1 0 → MemoriesPassed now all rest
second_next found now all left rest x p is count = record {
  before = p.before ++ x ∷ [];
  cut = p.cut ∙ (ap (λ z. p.before ++ z) is ∙ sym (append_assoc p.before (x ∷ []) rest));
  count = count_more p.before x ∙ count;
}

pub second_pass : (found : Bool) (all left rest : ExportRecord) (x : List ℕ × ExportView) → MemoriesPassed found all left → left ≡ x ∷ rest
    → is_memory x.1 ≡ false → MemoriesPassed found all rest
second_pass found all left rest x p is none =
    second_next found found all left rest x p is (ap (λ b. cond b (memory_count p.before + 1) (memory_count p.before)) none ∙ p.count)

pub second_first : (all left rest : ExportRecord) (x : List ℕ × ExportView) → MemoriesPassed false all left → left ≡ x ∷ rest → is_memory x.1 ≡ true
    → MemoriesPassed true all rest
second_first all left rest x p is one =
    second_next false true all left rest x p is
    (ap (λ b. cond b (memory_count p.before + 1) (memory_count p.before)) one ∙ ap (λ n. n + 1) p.count)

pub second_found : (all left rest : ExportRecord) (x : List ℕ × ExportView) → MemoriesPassed true all left → left ≡ x ∷ rest → is_memory x.1 ≡ true
    → IsSecondMemory all x
second_found all left rest x p is one =
    record { before = p.before; after = rest; cut = p.cut ∙ ap (λ z. p.before ++ z) is; one = p.count; memory = one }

pub second_end : (found : Bool) (all left : ExportRecord) → MemoriesPassed found all left → left ≡ [] → memory_count all ≤ 1
second_end found all left p is =
    let whole : all ≡ p.before = p.cut ∙ (ap (λ z. p.before ++ z) is ∙ append-nil p.before) in
    at_most found (memory_count all) (ap memory_count whole ∙ p.count) where
      at_most : (b : Bool) (n : ℕ) → n ≡ cond b 1 0 → n ≤ 1
      at_most true n e = omega (arith, e)
      at_most false n e = omega (arith, e)

-- two memories
count_past : (b : Bool) (n k l : ℕ) → n ≡ k + l → cond b (n + 1) n ≡ cond b (k + 1) k + l
count_past true n k l e = omega (arith, e)
count_past false n k l e = e

count_sum : (xs ys : ExportRecord) → memory_count (xs ++ ys) ≡ memory_count xs + memory_count ys
count_sum [] ys = omega arith
count_sum (a ∷ xs) ys = count_past (is_memory a.1) (memory_count (xs ++ ys)) (memory_count xs) (memory_count ys) (count_sum xs ys)

pub two_memories : (recorded : ExportRecord) (x : List ℕ × ExportView) → IsSecondMemory recorded x → memory_count recorded ≤ 1 → ⊥
two_memories recorded x p few =
    let more : memory_count (x ∷ p.after) ≡ memory_count p.after + 1 = ap (λ b. cond b (memory_count p.after + 1) (memory_count p.after)) p.memory in
    let sum : memory_count recorded ≡ memory_count p.before + memory_count (x ∷ p.after) = ap memory_count p.cut ∙ count_sum p.before (x ∷ p.after) in
    absurd (omega (arith, few, sum, p.one, more))

-- a module that is refused for its second memory, or for a callback that is missing
pub memories_refused : (es : List (String Global × Export)) (name : Bor (List ℕ)) (x : RefusedModule) → IsSecondNamed es name
    → x.fault ≡ SeveralMemoryExports → IsMemoryPlaced name.now x.place → IsRefusedForMemories es x
memories_refused es name x h is placed = inr (is, (h.0, h.2), at x.place placed) where
  at : (o : Option Place) → IsMemoryPlaced name.now o → IsPlaceOrNone (IsMemoryPlace (map export_entry es)) x.fault o
  at None k = absurd k
  at (Some p) k = record { is_several = is; export = h.0; second = h.2; subject = k.0 ∙ ap an_export (sym h.1); types = k.1 }

pub callbacks_refused : (es : List (String Global × Export)) (name : Bor (List ℕ)) (x : RefusedModule) → IsUncalled es name
    → x.fault ≡ MissingCallback → IsCallbackPlaced name.now x.place → IsRefusedForCallbacks es x
callbacks_refused es name x h is placed = inr (is, (h.0, h.2), λ one. at one x.place placed) where
  at : memory_count (map export_entry es) ≤ 1 → (o : Option Place) → IsCallbackPlaced name.now o
      → IsPlaceOrNone (IsCallbackPlace (map export_entry es)) x.fault o
  at one None k = absurd k
  at one (Some p) k = record {
    is_callback = is;
    one_memory = one;
    export = h.0;
    first = h.2;
    subject = k.0 ∙ ap (λ z. missing_export (callback_name z)) (sym h.1);
    types = k.1;
  }

-- what is missing, among all that is required
module _ (n : Names) (q : RequiredExports) (xs : List CoreExport) (es : List (String Global × Export)) (x : RefusedModule) where
  abbrev of_keys : List Requirement
  of_keys = key_requirements (map world_entry n.world.now.exports.entries) (map key_view q.keys.now.keys)

  abbrev of_functions : List Requirement
  of_functions = map type_requirement (map required_entry q.functions.now.entries)

  abbrev IsUnmetHere : Type 0
  IsUnmetHere = IsUnmetFault n.resolve.now xs (map export_entry es) (one_memory ∷ callbacks ∷ (of_keys ++ of_functions)) x.fault

  abbrev AreAlone : Type 0
  AreAlone = AreMet n.resolve.now xs (map export_entry es) (one_memory ∷ callbacks ∷ [])

  abbrev IsMissingHere : ValidateFault → PlaceView → Type 0
  IsMissingHere f p =
      IsMissingPlace n.resolve.now xs (map export_entry es) (map world_entry n.world.now.exports.entries) (map key_view q.keys.now.keys)
      (map required_entry q.functions.now.entries) f p

  unmet_as : (f : ValidateFault) → x.fault ≡ f
      → IsUnmetFault n.resolve.now xs (map export_entry es) (one_memory ∷ callbacks ∷ (of_keys ++ of_functions)) f → IsUnmetHere
  unmet_as f is h = subst (IsUnmetFault n.resolve.now xs (map export_entry es) (one_memory ∷ callbacks ∷ (of_keys ++ of_functions))) (sym is) h

  pub failed_unmet : IsMemoryRefusal x → IsUnmetHere
  failed_unmet h = unmet_as Memory h.0 tt

  pub memories_unmet : IsRefusedForMemories es x → IsUnmetHere
  memories_unmet (inl h) = failed_unmet h
  memories_unmet (inr h) = unmet_as SeveralMemoryExports h.0 (inl (two_memories (map export_entry es) h.1.0 h.1.1, tt))

  pub memories_place : IsRefusedForMemories es x → IsRefusedAt IsMissingHere x
  memories_place (inl h) = memory_at IsMissingHere x h
  memories_place (inr h) = refused_as (IsMemoryPlace (map export_entry es)) IsMissingHere x (λ f p k. inl k) h.2

  pub callbacks_unmet : memory_count (map export_entry es) ≤ 1 → IsRefusedForCallbacks es x → IsUnmetHere
  callbacks_unmet one (inl h) = failed_unmet h
  callbacks_unmet one (inr h) =
      unmet_as MissingCallback h.0 (inr (
        one,
        inl (not_all (λ (y : List ℕ × ExportView). IsTrue (is_called_back (map export_entry es) y)) (map export_entry es) h.1.0 h.1.1, tt),
      ))

  pub callbacks_place : memory_count (map export_entry es) ≤ 1 → IsRefusedForCallbacks es x → IsRefusedAt IsMissingHere x
  callbacks_place one (inl h) = memory_at IsMissingHere x h
  callbacks_place one (inr h) = refused_as (IsCallbackPlace (map export_entry es)) IsMissingHere x (λ f p k. inr (inl k)) (h.2 one)

  pub keys_unmet : AreAlone
      → IsUnmetFault n.resolve.now xs (map export_entry es) of_keys x.fault
      × IsRefusedAt (IsKeyPlace n.resolve.now xs (map export_entry es) (map world_entry n.world.now.exports.entries) (map key_view q.keys.now.keys)) x
      → IsUnmetHere
  keys_unmet alone h =
      unmet_right n.resolve.now xs (map export_entry es) (one_memory ∷ callbacks ∷ []) (of_keys ++ of_functions) x.fault alone
      (unmet_left n.resolve.now xs (map export_entry es) of_keys of_functions x.fault h.0)

  pub keys_place : AreAlone
      → IsUnmetFault n.resolve.now xs (map export_entry es) of_keys x.fault
      × IsRefusedAt (IsKeyPlace n.resolve.now xs (map export_entry es) (map world_entry n.world.now.exports.entries) (map key_view q.keys.now.keys)) x
      → IsRefusedAt IsMissingHere x
  keys_place alone h =
      refused_as (IsKeyPlace n.resolve.now xs (map export_entry es) (map world_entry n.world.now.exports.entries) (map key_view q.keys.now.keys))
      IsMissingHere x (λ f p k. inr (inr (alone, inl k))) h.1

  pub functions_unmet : AreAlone → AreMet n.resolve.now xs (map export_entry es) of_keys
      → IsUnmetFault n.resolve.now xs (map export_entry es) of_functions x.fault → IsUnmetHere
  functions_unmet alone keys h =
      unmet_right n.resolve.now xs (map export_entry es) (one_memory ∷ callbacks ∷ []) (of_keys ++ of_functions) x.fault alone
      (unmet_right n.resolve.now xs (map export_entry es) of_keys of_functions x.fault keys h)

  pub functions_place : AreAlone → AreMet n.resolve.now xs (map export_entry es) of_keys
      → IsRefusedAt (IsFunctionPlace n.resolve.now xs (map export_entry es) (map required_entry q.functions.now.entries)) x
      → IsRefusedAt IsMissingHere x
  functions_place alone keys h =
      refused_as (IsFunctionPlace n.resolve.now xs (map export_entry es) (map required_entry q.functions.now.entries)) IsMissingHere x
      (λ f p k. inr (inr (alone, inr (keys, k)))) h
