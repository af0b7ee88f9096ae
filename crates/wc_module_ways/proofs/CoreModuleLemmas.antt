-- The core modules of a component's file, as they are read.
use Rattle.std.proofs.Common.{◌≡◌, ℕ, ◌+◌, ◌<◌, Bool, true, false, cond, List, [], ◌∷◌, ◌++◌, length, map, filter, take, get_or, Option, Some, refl, sym, ◌∙◌, ap, append-nil, append_assoc, subst, inl, inr}
use Rattle.std.proofs.lemmas.List.{map-append}
use Rattle.std.proofs.lemmas.List.Elements.{filter-append}
use Rattle.std.proofs.lemmas.Option.{get_or_from_slice_get, slice_get_within}
use Rattle.std.specs.Borrow.{Bor}
use Rattle.std.specs.List.{list_any, slice_get}
use Rattle.wc_gc.specs.declared.fault.GcFault.{GcFault}
use Rattle.wc_gc.specs.declared.trim_place.TrimPlace.{TrimPlace}
use Rattle.wc_import_paths.proofs.PickedLemmas.{taken_more}
use Rattle.wc_module_ways.specs.AdapterNames.{HasNames, is_name}
use Rattle.wc_module_ways.specs.Adapters.{Given}
use Rattle.wc_module_ways.specs.CoreModules.{CoreGiven, core_given, is_library_kind, is_named, names_given}
use Rattle.wc_module_ways.specs.Refusals.{IsCoreFault, IsCoreRefusal, IsCoreRefused, IsOfCore, moved}
use Rattle.wc_module_ways.specs.declared.core_module.CoreInput.{CoreInput}
use Rattle.wc_module_ways.specs.declared.refusals.ModulesRefusal.{ModulesRefusal}
use Rattle.wc_module_ways.proofs.ModuleLemmas.{name_put}

-- ---- refusals

pub core_refused : (g : CoreGiven) (f : GcFault) (place : Option TrimPlace) (r : ModulesRefusal) → IsOfCore g.index f (moved g.offset place) r
    → IsCoreFault (is_library_kind g.kind) g.bytes f place → IsCoreRefused g r
core_refused g f place r of h = (of.0, of.1, place, subst (λ z. IsCoreFault (is_library_kind g.kind) g.bytes z place) (sym of.2) h, of.3)

pub one_core_refused : (given : List CoreGiven) (g : CoreGiven) (k : ℕ) (r : ModulesRefusal) → slice_get given k ≡ Some g → IsCoreRefused g r
    → IsCoreRefusal given r
one_core_refused given g k r at h = inr (g, (k, slice_get_within given k g at, get_or_from_slice_get given k g g at), h)

-- ---- the names from which others import

-- one more, by whether others import from it

pub name_taken : (given : List Given) (g : CoreGiven) (x : Bor (List ℕ)) (old new : List (Bor (List ℕ))) → is_named g.kind ≡ true → x.now ≡ g.name
    → ((q : Bor (List ℕ)) → list_any (is_name q) new ≡ cond (is_name x q) true (list_any (is_name q) old)) → HasNames given old
    → HasNames (given ++ names_given (g ∷ [])) new
name_taken given g x old new on same put h =
    subst (λ b. HasNames (given ++ map (λ (y : CoreGiven). (y.name, y.bytes)) (cond b (g ∷ []) [])) new) (sym on)
    (name_put given (g.name, g.bytes) x old new same put h)

pub name_left : (given : List Given) (g : CoreGiven) (old : List (Bor (List ℕ))) → is_named g.kind ≡ false → HasNames given old
    → HasNames (given ++ names_given (g ∷ [])) old
name_left given g old off h =
    subst (λ b. HasNames (given ++ map (λ (y : CoreGiven). (y.name, y.bytes)) (cond b (g ∷ []) [])) old) (sym off)
    (subst (λ z. HasNames z old) (sym (append-nil given)) h)

names_joined : (xs ys : List CoreGiven) → names_given (xs ++ ys) ≡ names_given xs ++ names_given ys
names_joined xs ys =
    let p = (λ (g : CoreGiven). is_named g.kind) in
    let f : CoreGiven → Given = λ g. (g.name, g.bytes) in
    ap (map f) (filter-append p xs ys) ∙ map-append f (filter p xs) (filter p ys)

pub core_names_next : (given : List Given) (core : List CoreInput) (k : ℕ) (d : CoreInput) (old new : List (Bor (List ℕ))) → k < length core
    → ((z : List Given) → HasNames z old → HasNames (z ++ names_given (core_given (get_or core k d) ∷ [])) new)
    → HasNames (given ++ names_given (map core_given (take k core))) old → HasNames (given ++ names_given (map core_given (take (k + 1) core))) new
core_names_next given core k d old new lt put h =
    let before = map core_given (take k core) in
    let x = core_given (get_or core k d) in
    subst (λ z. HasNames z new)
    (append_assoc given (names_given before) (names_given (x ∷ [])) ∙ ap (λ z. given ++ z) (sym (ap names_given (taken_more core_given core k d lt) ∙ names_joined before (x ∷ []))))
    (put (given ++ names_given before) h)
