-- The table of flat types, made along an order in which each type is after those that it refers to.
use Rattle.std.proofs.Common.{◌≡◌, ℕ, ◌<◌, ◌≤◌, ◌+◌, List, [], ◌∷◌, ◌++◌, length, take, set, get_or, replicate, Vec, sym, ap, ◌∙◌, subst, length-set}
use Rattle.std.specs.List.{Contains}
use Rattle.std.specs.declared.alloc.Global.{Global}
use Rattle.std.proofs.lemmas.Grind.{replicate_next}
use Rattle.std.proofs.lemmas.List.{length-replicate, map-append, map-set}
use Rattle.wc_resolve.specs.declared.flat.WasmType.{WasmType}
use Rattle.wc_resolve.specs.Flat.{AreFlattened, flat_entry, flat_of, flat_rule, flat_types_kept, lists}
use Rattle.wc_resolve.specs.TypeRules.{Follows}
use Rattle.wc_resolve.specs.Validate.{IsOrder}
use Rattle.wc_resolve.specs.Views.{TypeView}
use Rattle.wc_resolve.specs.Kinds.{children, kind_at}
use Rattle.wc_resolve.proofs.FrontAgreementLemmas.{AgreeAtFront, agree_cut}
use Rattle.wc_resolve.proofs.FlatteningAgreementLemmas.{agree_rule, flat_looks_down}
use Rattle.wc_resolve.proofs.TypeRuleLemmas.{value_by_rule_follows}
use Rattle.wc_resolve.proofs.TableEntryLemmas.{AreEntries, table_start, table_step, table_end}

pub flats_follow : (types : List TypeView) (order : List ℕ) → IsOrder types order → Follows flat_rule types (flat_of types)
flats_follow types order o = value_by_rule_follows flat_rule [] types order o (flat_looks_down types)

-- the flat types of the type at an index, as many as are kept
abbrev pub IsFlattening : List TypeView → ℕ → List WasmType → Type 0
IsFlattening types x flat = flat ≡ take flat_types_kept (flat_of types x)

-- the flat types of all types that are in the list
pub record FlatsOf (types : List TypeView) (flats : List (List WasmType)) (listed : List ℕ) : Type 0 where
  pub same_length : length flats ≡ length types
  pub each : AreEntries (IsFlattening types) [] flats listed

pub flats_start : (types : List TypeView) (n : ℕ) (flats : List (List WasmType)) → flats ≡ replicate n [] → n ≡ length types → FlatsOf types flats []
flats_start types n flats made e = record {
  same_length = ap (λ z. length z) made ∙ length-replicate n [] ∙ e;
  each = table_start (IsFlattening types) [] flats;
}

flattening_right : (types : List TypeView) (order : List ℕ) (flats : List (List WasmType)) (x : ℕ) (flat : List WasmType) → IsOrder types order → x < length types
    → flat ≡ take flat_types_kept (flat_rule (flat_entry flats) x (kind_at types x)) → ((c : ℕ) → Contains (children types x) c → flat_entry flats c ≡ take flat_types_kept (flat_of types c)) → IsFlattening types x flat
flattening_right types order flats x flat o small made below =
    let agree : AgreeAtFront flat_types_kept (flat_rule (flat_entry flats) x (kind_at types x)) (flat_rule (flat_of types) x (kind_at types x)) =
    agree_rule flat_types_kept (flat_entry flats) (flat_of types) types x (λ c h. ap (λ z. take flat_types_kept z) (below c h) ∙ agree_cut flat_types_kept (flat_of types c)) in
    made ∙ agree ∙ ap (λ z. take flat_types_kept z) (sym (flats_follow types order o x small))

pub flats_step : (types : List TypeView) (order : List ℕ) (flats : List (List WasmType)) (i x : ℕ) (flat : List WasmType) → IsOrder types order → i < length order
    → x ≡ get_or order i 0 → x < length types → flat ≡ take flat_types_kept (flat_rule (flat_entry flats) x (kind_at types x)) → FlatsOf types flats (take i order)
    → FlatsOf types (set flats x flat) (take (i + 1) order)
flats_step types order flats i x flat o small x_at bound made m =
    let below : (c : ℕ) → Contains (children types x) c → flat_entry flats c ≡ take flat_types_kept (flat_of types c) =
    λ c h. m.each.each c (o.first i c small (subst (λ (z : ℕ). Contains (children types z) c) x_at h)) in
    let within : x < length flats = rw m.same_length bound in
    record {
      same_length = length-set flats x flat ∙ m.same_length;
      each = table_step (IsFlattening types) [] flats order i x flat small x_at within (flattening_right types order flats x flat o bound made below) m.each;
    }

pub flats_end : (types : List TypeView) (order : List ℕ) (flats : List (List WasmType)) (i : ℕ) → IsOrder types order → length order ≤ i → FlatsOf types flats (take i order)
    → AreFlattened types flats
flats_end types order flats i o past m = record { same_length = m.same_length; each = λ x h. table_end (IsFlattening types) [] flats order i past m.each x (o.all x h) }

pub lists-set : (vectors : List (Vec WasmType Global)) (x : ℕ) (v : Vec WasmType Global) → lists (set vectors x v) ≡ set (lists vectors) x v.items
lists-set vectors x v = map-set (λ (w : Vec WasmType Global). w.items) vectors x v

pub lists_push : (vectors new : List (Vec WasmType Global)) (v : Vec WasmType Global) (n : ℕ) → lists vectors ≡ replicate n [] → v.items ≡ [] → new ≡ vectors ++ v ∷ []
    → lists new ≡ replicate (n + 1) []
lists_push vectors new v n was empty put =
    ap lists put ∙ map-append (λ (w : Vec WasmType Global). w.items) vectors (v ∷ []) ∙ ap (λ z. z ++ v.items ∷ []) was ∙ ap (λ (z : List WasmType). replicate n [] ++ z ∷ []) empty ∙ sym (replicate_next n [])
