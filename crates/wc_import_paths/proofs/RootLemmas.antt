-- Exports by their names, and names that are not exported.
use Rattle.std.proofs.Common.{◌≡◌, ℕ, ◌+◌, ◌<◌, Bool, true, false, not, cond, List, [], ◌∷◌, ◌++◌, length, map, take, get_or, Option, Some, None, Result, Ok, Err, IfOk, IfErr, Global, refl, sym, ◌∙◌, ap, subst, inl, inr, arith}
use Rattle.std.proofs.lemmas.Bool.{cases_Bool}
use Rattle.std.proofs.lemmas.List.{map-append, take_more}
use Rattle.std.proofs.lemmas.List.Concat.{flat_map-append}
use Rattle.std.proofs.lemmas.List.Elements.{recursion_from_All}
use Rattle.std.specs.Borrow.{Bor}
use Rattle.std.specs.declared.vec.Vec.{Vec}
use Rattle.std.specs.List.{AllByRecursion, flat_map}
use Rattle.std.specs.Map.{lookup}
use Rattle.std.specs.Option.{option_map, option_to_list}
use Rattle.std.specs.Str.{bytes_eq}
use Rattle.wc_read.specs.Exports.{ExportValue, export_value}
use Rattle.wc_read.specs.declared.exports.Export.{Export}
use Rattle.wc_gc.specs.Exports.{AreNamed, IsMissingFault, by_name, export_entries, is_exported, missing_name}
use Rattle.wc_gc.specs.declared.fault.GcFault.{GcFault}
use Rattle.wc_gc.specs.declared.fault.GcFault.TheVariants.{Memory, MissingExport}
use Rattle.wc_why.specs.Texts.{text_of}
use Rattle.wc_import_paths.specs.Roots.{export_named, exports_for, exports_named}
use Rattle.wc_import_paths.specs.Private.Roots.{IsMissing}
use Rattle.wc_gc.proofs.ExportLemmas.{entries_by_name, named_by_name}
use Rattle.wc_import_paths.proofs.SearchLemmas.{found_here, none_more}

abbrev Pair : Type 0
Pair = Bor (List ℕ) × Export

-- a look-up by name
found_view : (test : Bor (List ℕ) → Bool) (name : List ℕ) (es : List Pair) → ((k : Bor (List ℕ)) → test k ≡ bytes_eq name k.now)
    → AllByRecursion (λ (e : Pair). e.0.now ≡ e.1.name.now) es → option_map export_value (lookup test es) ≡ export_named (export_entries es) name
found_view test name [] h n = refl
found_view test name (e ∷ es) h n =
    step (test e.0) (lookup test es)
    ∙ (ap (λ (b : Bool). cond b (Some (export_value e.1)) (option_map export_value (lookup test es))) (h e.0 ∙ ap (bytes_eq name) n.0)
    ∙ ap (λ o. cond (bytes_eq name e.1.name.now) (Some (export_value e.1)) o) (found_view test name es h n.1))
  where
    step : (b : Bool) (o : Option Export) → option_map export_value (cond b (Some e.1) o) ≡ cond b (Some (export_value e.1)) (option_map export_value o)
    step true o = refl
    step false o = refl

pub looked_up : (test : Bor (List ℕ) → Bool) (name : List ℕ) (es : List Pair) → ((k : Bor (List ℕ)) → test k ≡ bytes_eq name k.now) → AreNamed es
    → (o : Option Export) → o ≡ lookup test es → option_map export_value o ≡ export_named (export_entries es) name
looked_up test name es h named o e =
    ap (option_map export_value) e ∙ found_view test name es h (recursion_from_All (λ (e : Pair). e.0.now ≡ e.1.name.now) es named)

-- an export is found where the name is exported
pub there : (es : List ExportValue) (name : List ℕ) (x : ExportValue) → export_named es name ≡ Some x → is_exported es name ≡ true
there [] name x e = absurd (let both : None ≡ Some x = e in cc)
there (y ∷ es) name x e = elim (cases_Bool (bytes_eq name y.name)) [
  | inl is ↦ rw is refl
  | inr other ↦ rw other (there es name x (rw other at e))
]

pub not_there : (es : List ExportValue) (name : List ℕ) → export_named es name ≡ None → is_exported es name ≡ false
not_there [] name e = refl
not_there (y ∷ es) name e = elim (cases_Bool (bytes_eq name y.name)) [
  | inl is ↦ absurd (let both : Some y ≡ None = rw is at e in cc)
  | inr other ↦ rw other (not_there es name (rw other at e))
]

-- one more name, whose export is there
module _ (es : List ExportValue) (names : List (Bor (List ℕ))) (k : ℕ) (d : Bor (List ℕ)) (lt : k < length names) where
  pub found_more : (found : List Export) (x : Export) → map export_value found ≡ exports_named es (map text_of (take k names))
      → Some (export_value x) ≡ export_named es (get_or names k d).now
      → map export_value (found ++ x ∷ []) ≡ exports_named es (map text_of (take (k + 1) names))
  found_more found x known is =
      let more = ap (map text_of) (take_more names k d lt) ∙ map-append text_of (take k names) (get_or names k d ∷ []) in
      let last : flat_map (λ name. option_to_list (export_named es name)) ((get_or names k d).now ∷ []) ≡ export_value x ∷ [] = rw (sym is) refl in
      map-append export_value found (x ∷ [])
      ∙ (ap (λ z. z ++ export_value x ∷ []) known
      ∙ (ap (λ z. exports_named es (map text_of (take k names)) ++ z) (sym last)
      ∙ (sym (flat_map-append (λ name. option_to_list (export_named es name)) (map text_of (take k names)) ((get_or names k d).now ∷ []))
      ∙ ap (exports_named es) (sym more))))

  pub still_there : (x : Export) → missing_name es (map text_of (take k names)) ≡ None → Some (export_value x) ≡ export_named es (get_or names k d).now
      → missing_name es (map text_of (take (k + 1) names)) ≡ None
  still_there x none is =
      none_more text_of (λ name. not (is_exported es name)) names k d lt none (ap not (there es (get_or names k d).now (export_value x) (sym is)))

  pub is_missing : missing_name es (map text_of (take k names)) ≡ None → None ≡ export_named es (get_or names k d).now
      → missing_name es (map text_of names) ≡ Some (get_or names k d).now
  is_missing none is = found_here text_of (λ name. not (is_exported es name)) names k d lt none (ap not (not_there es (get_or names k d).now (sym is)))

-- the fault for it
pub missing_fault : (es : List ExportValue) (names : List (List ℕ)) (name : List ℕ) (f : GcFault) → missing_name es names ≡ Some name → IsMissing name f
    → IsMissingFault es names f
missing_fault es names name Memory e h = inl refl
missing_fault es names name (MissingExport n) e h = inr (n, refl, e ∙ ap Some (sym h))
missing_fault es names name f e h = absurd h

-- some names are asked for
pub for_some : (es : List ExportValue) (names : List (Bor (List ℕ))) → 0 < length names → exports_for (map text_of names) es ≡ exports_named es (map text_of names)
for_some es [] lt = absurd (omega arith)
for_some es (n ∷ names) lt = refl

pub for_none : (es : List ExportValue) (names : List (Bor (List ℕ))) → length names ≡ 0 → exports_for (map text_of names) es ≡ es
for_none es [] e = refl
for_none es (n ∷ names) e = absurd (omega (arith, e))

pub none_missing : (es : List ExportValue) (names : List (Bor (List ℕ))) → length names ≡ 0 → missing_name es (map text_of names) ≡ None
none_missing es [] e = refl
none_missing es (n ∷ names) e = absurd (omega (arith, e))

-- what was found by the map of all exports
module _ (es : List Export) (entries : List Pair) (names : List (Bor (List ℕ))) (by : entries ≡ map by_name es) where
  same_entries : export_entries entries ≡ map export_value es
  same_entries = ap export_entries by ∙ entries_by_name es

  pub all_named : AreNamed entries
  all_named = subst AreNamed (sym by) (named_by_name es)

  pub all_found : {E : Type 0} (r : Result (Vec Export Global) E) → 0 < length names
      → IfOk r (λ v. map export_value v.items ≡ exports_named (export_entries entries) (map text_of names))
      → IfOk r (λ v. map export_value v.items ≡ exports_for (map text_of names) (map export_value es))
  all_found (Ok v) lt h = h ∙ (ap (λ z. exports_named z (map text_of names)) same_entries ∙ sym (for_some (map export_value es) names lt))
  all_found (Err e) lt h = tt

  pub among_found : {E : Type 0} (r : Result (Vec Export Global) E) → IfOk r (λ v. map export_value v.items ≡ exports_named (export_entries entries) (map text_of names))
      → IfOk r (λ v. map export_value v.items ≡ exports_named (map export_value es) (map text_of names))
  among_found (Ok v) h = h ∙ ap (λ z. exports_named z (map text_of names)) same_entries
  among_found (Err e) h = tt

  pub all_there : missing_name (export_entries entries) (map text_of names) ≡ None → missing_name (map export_value es) (map text_of names) ≡ None
  all_there = subst (λ z. missing_name z (map text_of names) ≡ None) same_entries

  pub all_missing : {T : Type 0} (r : Result T GcFault) → IfErr r (IsMissingFault (export_entries entries) (map text_of names))
      → IfErr r (IsMissingFault (map export_value es) (map text_of names))
  all_missing (Ok v) h = tt
  all_missing (Err f) h = subst (λ z. IsMissingFault z (map text_of names) f) same_entries h
