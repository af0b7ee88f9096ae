-- The first names of interfaces that the world imports.
use Rattle.std.proofs.Common.{◌≡◌, ◌&&◌, ◌||◌, ℕ, Bool, true, false, cond, List, [], ◌∷◌, ◌++◌, map, nat_eq, slice_get, Option, Some, None, option_map, String, string_bytes, string_eq, true≢false, refl, sym, ◌∙◌, ap}
use Rattle.std.specs.Prelude.{unwrap_or}
use Rattle.std.specs.List.{AllByRecursion, IsDistinct, cons_option, filter_map, find, list_any}
use Rattle.std.specs.Map.{keys_of}
use Rattle.std.specs.Option.{option_and_then, option_eq, option_map_or, option_or}
use Rattle.std.specs.Str.{bytes_eq}
use Rattle.std.specs.declared.alloc.Global.{Global}
use Rattle.std.proofs.lemmas.List.Folds.{find-append}
use Rattle.std.proofs.lemmas.Map.Keys.{IsDistinct-head, IsDistinct-tail}
use Rattle.wc_resolve.proofs.KeyLemmas.{nat_from}
use Rattle.wc_validate.proofs.InstanceLemmas.{other, self}
use Rattle.wc_world.specs.Views.{ComponentWorldView, ImportMapView, ImportedView}
use Rattle.wc_world.specs.WorldViews.{imported_entry}
use Rattle.wc_world.specs.declared.imported.ImportedInterface.{ImportedInterface}
use Rattle.wc_ways.specs.Asked.{asked_name, is_asked}
use Rattle.wc_ways.specs.Imports.{first_name, has_name, leader}
use Rattle.wc_ways.specs.Tags.{all_key}

abbrev pub NamedImport : Type 0
NamedImport = Option (List ℕ) × ImportedView

-- ---- each name is there once

abbrev pub Apart : ImportMapView → Type 0
Apart all = (front rest : ImportMapView) (x : NamedImport) (name : List ℕ) → front ++ x ∷ rest ≡ all → x.0 ≡ Some name → list_any (has_name name) front ≡ false

abbrev RawImport : Type 0
RawImport = Option (String Global) × ImportedInterface

differs : (k z : Option (String Global)) (name : List ℕ) → option_eq string_eq k z ≡ false → option_map string_bytes z ≡ Some name
    → option_map_or (bytes_eq name) (option_map string_bytes k) false ≡ false
differs None z name h is = refl
differs (Some s) None name h is = absurd (let bad : None ≡ Some name = is in cc)
differs (Some s) (Some t) name h is =
    let same : string_bytes t ≡ name = (let f : Some (string_bytes t) ≡ Some name = is in cc) in
    ap (λ (n : List ℕ). bytes_eq n (string_bytes s)) (sym same) ∙ other (string_bytes s) (string_bytes t) h

later : (k : Option (String Global)) (es : List RawImport) → AllByRecursion (λ y. option_eq string_eq k y ≡ false) (keys_of es) → (front rest : ImportMapView) (x : NamedImport) (name : List ℕ)
    → front ++ x ∷ rest ≡ map imported_entry es → x.0 ≡ Some name → option_map_or (bytes_eq name) (option_map string_bytes k) false ≡ false
later k [] h [] rest x name e is = absurd (let bad : x ∷ rest ≡ [] = e in cc)
later k [] h (y ∷ front) rest x name e is = absurd (let bad : y ∷ (front ++ x ∷ rest) ≡ [] = e in cc)
later k (z ∷ es) h [] rest x name e is =
    let here : x ≡ imported_entry z = (let f : x ∷ rest ≡ imported_entry z ∷ map imported_entry es = e in cc) in
    differs k z.0 name h.0 (ap (λ (v : NamedImport). v.0) (sym here) ∙ is)
later k (z ∷ es) h (y ∷ front) rest x name e is =
    let left : front ++ x ∷ rest ≡ map imported_entry es = (let f : y ∷ (front ++ x ∷ rest) ≡ imported_entry z ∷ map imported_entry es = e in cc) in
    later k es h.1 front rest x name left is

pub names_apart : (es : List RawImport) → IsDistinct (option_eq string_eq) (keys_of es) → Apart (map imported_entry es)
names_apart es d [] rest x name e is = refl
names_apart [] d (y ∷ front) rest x name e is = absurd (let bad : y ∷ (front ++ x ∷ rest) ≡ [] = e in cc)
names_apart (z ∷ es) d (y ∷ front) rest x name e is =
    let here : y ≡ imported_entry z = (let f : y ∷ (front ++ x ∷ rest) ≡ imported_entry z ∷ map imported_entry es = e in cc) in
    let left : front ++ x ∷ rest ≡ map imported_entry es = (let f : y ∷ (front ++ x ∷ rest) ≡ imported_entry z ∷ map imported_entry es = e in cc) in
    let one : has_name name y ≡ false = ap (has_name name) here ∙ later z.0 es (IsDistinct-head (option_eq string_eq) z.0 (keys_of es) d) front rest x name left is in
    let others : list_any (has_name name) front ≡ false = names_apart es (IsDistinct-tail (option_eq string_eq) z.0 (keys_of es) d) front rest x name left is in
    λ i. one i || others i

-- ---- the import of a name

miss_step : {X : Type 0} (b c : Bool) (x : X) (o : Option X) → (b || c) ≡ false → (c ≡ false → o ≡ None) → cond b (Some x) o ≡ None
miss_step true c x o h f = absurd (true≢false h)
miss_step false c x o h f = f h

missed : {X : Type 0} (t : X → Bool) (xs : List X) → list_any t xs ≡ false → find t xs ≡ None
missed t [] h = refl
missed t (x ∷ xs) h = miss_step (t x) (list_any t xs) x (find t xs) h (missed t xs)

abbrev pub leader_by : ComponentWorldView → List ℕ → Option ℕ → List ℕ
leader_by w name i = unwrap_or (option_and_then (first_name w) i) name

abbrev interface_in : Option NamedImport → Option ℕ
interface_in o = option_and_then (λ (y : NamedImport). y.1.interface) o

module _ (w : ComponentWorldView) where
  -- a name that the world doesn't import
  pub leader_none : (name : List ℕ) → list_any (has_name name) w.import_map ≡ false → leader w name ≡ name
  leader_none name none = ap (λ o. leader_by w name (interface_in o)) (missed (has_name name) w.import_map none)

  module _ (apart : Apart w.import_map) where
    found_at : (front rest : ImportMapView) (x : NamedImport) (name : List ℕ) → front ++ x ∷ rest ≡ w.import_map → x.0 ≡ Some name → find (has_name name) w.import_map ≡ Some x
    found_at front rest x name e is =
        let here : has_name name x ≡ true = ap (λ o. option_map_or (bytes_eq name) o false) is ∙ self name in
        ap (find (has_name name)) (sym e) ∙ (find-append (has_name name) front (x ∷ rest)
        ∙ (ap (λ o. option_or o (find (has_name name) (x ∷ rest))) (missed (has_name name) front (apart front rest x name e is))
        ∙ ap (λ b. cond b (Some x) (find (has_name name) rest)) here))

    pub leader_at : (front rest : ImportMapView) (x : NamedImport) (name : List ℕ) → front ++ x ∷ rest ≡ w.import_map → x.0 ≡ Some name → leader w name ≡ leader_by w name x.1.interface
    leader_at front rest x name e is = ap (λ o. leader_by w name (interface_in o)) (found_at front rest x name e is)

-- ---- the first of an interface's names leads itself

abbrev First : {X Y : Type 0} → (X → Option Y) → List X → Y → Type 0
First {X} f xs y = (front rest : List X) × (x : X) × (front ++ x ∷ rest ≡ xs) × (f x ≡ Some y)

first_from : {X Y : Type 0} (f : X → Option Y) (xs : List X) (y : Y) → slice_get (filter_map f xs) 0 ≡ Some y → First f xs y
first_from f [] y e = absurd (let bad : None ≡ Some y = e in cc)
first_from {X} {Y} f (x ∷ xs) y e = by (f x) refl (first_from f xs y) e
  where
    by : (o : Option Y) → f x ≡ o → (slice_get (filter_map f xs) 0 ≡ Some y → First f xs y) → slice_get (cons_option o (filter_map f xs)) 0 ≡ Some y → First f (x ∷ xs) y
    by (Some z) is more at = ([], xs, x, refl, is ∙ at)
    by None is more at = let (front, rest, first, split, gives) = more at in (x ∷ front, rest, first, ap (λ (l : List X). x ∷ l) split, gives)

chosen : (b c : Bool) (m n : List ℕ) → cond (b && c) (Some m) None ≡ Some n → (Some m ≡ Some n) × (b ≡ true)
chosen true true m n e = (e, refl)
chosen true false m n e = absurd (let bad : None ≡ Some n = e in cc)
chosen false c m n e = absurd (let bad : None ≡ Some n = e in cc)

under : (i : ℕ) (o : Option ℕ) → option_map_or (nat_eq i) o false ≡ true → o ≡ Some i
under i None e = absurd (true≢false (sym e))
under i (Some j) e = ap Some (sym (nat_from i j e))

asked_at : (i : ℕ) (x : NamedImport) (n : List ℕ) → asked_name all_key i x ≡ Some n → (x.0 ≡ Some n) × (x.1.interface ≡ Some i)
asked_at i (None, v) n e = absurd (let bad : None ≡ Some n = e in cc)
asked_at i (Some m, v) n e =
    let parts = chosen (option_map_or (nat_eq i) v.interface false) (is_asked all_key m m) m n e in (parts.0, under i v.interface parts.1)

pub leader_first : (w : ComponentWorldView) → Apart w.import_map → (i : ℕ) (first : List ℕ) → first_name w i ≡ Some first → leader w first ≡ first
leader_first w apart i first e =
    let (front, rest, x, split, asked) = first_from (asked_name all_key i) w.import_map first e in
    let at = asked_at i x first asked in
    leader_at w apart front rest x first split at.0 ∙ (ap (leader_by w first) at.1 ∙ ap (λ o. unwrap_or o first) e)
