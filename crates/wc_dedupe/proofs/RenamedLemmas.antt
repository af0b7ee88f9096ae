-- Lists of names, with one more at the end.
use Rattle.std.proofs.Common.{◌≡◌, ◌+◌, ℕ, zero, suc, ◌<◌, ◌≤◌, true, false, cond, List, [], ◌∷◌, ◌++◌, length, map, Option, Some, None, codes, refl, sym, ap, subst, ◌∙◌, append_assoc, append-nil, arith, length-append, take, get_or}
use Rattle.std.specs.Fmt.{decimal}
use Rattle.std.specs.List.{slice_get}
use Rattle.std.specs.Str.{bytes_eq}
use Rattle.std.proofs.lemmas.Bool.{false_from_ne_true}
use Rattle.std.proofs.lemmas.Slice.Eq.{bytes_eq-Decides}
use Rattle.wc_read.specs.Imports.{ImportValue, import_value, import_values}
use Rattle.wc_read.specs.declared.types.Import.{Import}
use Rattle.std.proofs.lemmas.List.{length-map, length-take-le, map-append, take_more}
use Rattle.wc_dedupe.specs.Renaming.{ImportName, RenameView, name_with_number, NamesOne, Renamed, renames_of, renamed_name, renamed_names, renamed_import, renamed_imports, originals}

-- a number makes a name longer
pub bytes_eq-name_with_number : (s : List ℕ) (n : ℕ) → bytes_eq s (name_with_number s n) ≡ false
bytes_eq-name_with_number s n = false_from_ne_true _ (λ e. let same = (bytes_eq-Decides s (name_with_number s n)).0 e in longer same)
  where
    longer : s ≡ name_with_number s n → ⊥
    longer same = omega (arith, ap length same ∙ length-append s (codes " [v" ++ (decimal n ++ codes "]")), length-append (codes " [v") (decimal n ++ codes "]"), length-append (decimal n) (codes "]"))

-- one more name after a renaming
pub Renamed-push : (given ss ns : List ImportName) (s n : ImportName) → Renamed given ss ns → NamesOne (given ++ ns) s n → Renamed given (ss ++ s ∷ []) (ns ++ n ∷ [])
Renamed-push given [] [] s n r one = (subst (λ (g : List ImportName). NamesOne g s n) (append-nil given) one, refl)
Renamed-push given [] (x ∷ ns) s n r one = cc
Renamed-push given (t ∷ ss) [] s n r one = absurd r
Renamed-push given (t ∷ ss) (x ∷ ns) s n r one =
    (r.0, Renamed-push (given ++ x ∷ []) ss ns s n r.1 (subst (λ (g : List ImportName). NamesOne g s n) (sym (append_assoc given (x ∷ []) ns)) one))

pub length-renamed : (given ss ns : List ImportName) → Renamed given ss ns → length ns ≡ length ss
length-renamed given [] ns r = ap length r
length-renamed given (s ∷ ss) [] r = absurd r
length-renamed given (s ∷ ss) (n ∷ ns) r = ap suc (length-renamed (given ++ n ∷ []) ss ns r.1)

pub renames_of_push : (ss ns : List ImportName) (s n : ImportName) → length ns ≡ length ss
    → renames_of (ss ++ s ∷ []) (ns ++ n ∷ []) ≡ renames_of ss ns ++ cond (bytes_eq s.name n.name) [] ((record { module_name = s.module_name; original = s.name; name = n.name }) ∷ [])
renames_of_push [] [] s n e = refl
renames_of_push [] (x ∷ ns) s n e = absurd (omega arith)
renames_of_push (t ∷ ss) [] s n e = absurd (omega arith)
renames_of_push (t ∷ ss) (x ∷ ns) s n e =
    rw (renames_of_push ss ns s n (omega arith))
    (elim (bytes_eq t.name x.name) as (λ b. cond b (renames_of ss ns ++ last) (first ∷ (renames_of ss ns ++ last)) ≡ cond b (renames_of ss ns) (first ∷ renames_of ss ns) ++ last)
    [ true ↦ refl | false ↦ refl ])
  where
    first : RenameView
    first = record { module_name = t.module_name; original = t.name; name = x.name }

    last : List RenameView
    last = cond (bytes_eq s.name n.name) [] ((record { module_name = s.module_name; original = s.name; name = n.name }) ∷ [])

-- each index is below n
abbrev pub Within : List (Option ℕ) → ℕ → Type 0
Within [] n = Unit {0}
Within (None ∷ ps) n = Within ps n
Within (Some k ∷ ps) n = (k < n) × Within ps n

pub Within-more : (ps : List (Option ℕ)) (m n : ℕ) → m ≤ n → Within ps m → Within ps n
Within-more [] m n h w = tt
Within-more (None ∷ ps) m n h w = Within-more ps m n h w
Within-more (Some k ∷ ps) m n h w = (omega (arith, w.0), Within-more ps m n h w.1)

pub Within-push_none : (ps : List (Option ℕ)) (n : ℕ) → Within ps n → Within (ps ++ None ∷ []) n
Within-push_none [] n w = tt
Within-push_none (None ∷ ps) n w = Within-push_none ps n w
Within-push_none (Some k ∷ ps) n w = (w.0, Within-push_none ps n w.1)

pub Within-push : (ps : List (Option ℕ)) (k n : ℕ) → k < n → Within ps n → Within (ps ++ Some k ∷ []) n
Within-push [] k n h w = (h, tt)
Within-push (None ∷ ps) k n h w = Within-push ps k n h w
Within-push (Some j ∷ ps) k n h w = (w.0, Within-push ps k n h w.1)

slice_get-append : {X : Type 0} (xs ys : List X) (k : ℕ) → k < length xs → slice_get (xs ++ ys) k ≡ slice_get xs k
slice_get-append [] ys k h = absurd (omega arith)
slice_get-append (x ∷ xs) ys zero h = refl
slice_get-append (x ∷ xs) ys (suc k) h = slice_get-append xs ys k (omega arith)

pub slice_get_end : {X : Type 0} (xs : List X) (y : X) → slice_get (xs ++ y ∷ []) (length xs) ≡ Some y
slice_get_end [] y = refl
slice_get_end (x ∷ xs) y = slice_get_end xs y

-- a rename at the end changes no name whose index is before it
pub renamed_names_more : (rs : List RenameView) (r : RenameView) (ss : List ImportName) (ps : List (Option ℕ)) → Within ps (length rs) → renamed_names (rs ++ r ∷ []) ss ps ≡ renamed_names rs ss ps
renamed_names_more rs r [] ps w = refl
renamed_names_more rs r (s ∷ ss) [] w = refl
renamed_names_more rs r (s ∷ ss) (None ∷ ps) w = ap (λ ns. (record { module_name = s.module_name; name = s.name }) ∷ ns) (renamed_names_more rs r ss ps w)
renamed_names_more rs r (s ∷ ss) (Some k ∷ ps) w = rw (slice_get-append rs (r ∷ []) k w.0, renamed_names_more rs r ss ps w.1) refl

pub renamed_names_push : (rs : List RenameView) (ss : List ImportName) (ps : List (Option ℕ)) (s : ImportName) (p : Option ℕ) → length ps ≡ length ss
    → renamed_names rs (ss ++ s ∷ []) (ps ++ p ∷ []) ≡ renamed_names rs ss ps ++ (record { module_name = s.module_name; name = renamed_name rs s.name p }) ∷ []
renamed_names_push rs [] [] s p e = refl
renamed_names_push rs [] (q ∷ ps) s p e = absurd (omega arith)
renamed_names_push rs (t ∷ ss) [] s p e = absurd (omega arith)
renamed_names_push rs (t ∷ ss) (q ∷ ps) s p e = ap (λ ns. (record { module_name = t.module_name; name = renamed_name rs t.name q }) ∷ ns) (renamed_names_push rs ss ps s p (omega arith))

pub renamed_imports_push : (rs : List RenameView) (is : List ImportValue) (ps : List (Option ℕ)) (i : ImportValue) (p : Option ℕ) → length ps ≡ length is
    → renamed_imports rs (is ++ i ∷ []) (ps ++ p ∷ []) ≡ renamed_imports rs is ps ++ renamed_import rs i p ∷ []
renamed_imports_push rs [] [] i p e = refl
renamed_imports_push rs [] (q ∷ ps) i p e = absurd (omega arith)
renamed_imports_push rs (j ∷ is) [] i p e = absurd (omega arith)
renamed_imports_push rs (j ∷ is) (q ∷ ps) i p e = ap (λ xs. renamed_import rs j q ∷ xs) (renamed_imports_push rs is ps i p (omega arith))

-- the loop's step: the import at i is next
pub renamed_imports_more : (rs : List RenameView) (is : List Import) (ps : List (Option ℕ)) (i : ℕ) (d : Import) (e : Option ℕ) → i < length is → length ps ≡ length is
    → renamed_imports rs (import_values (take (i + 1) is)) (take (i + 1) ps) ≡ renamed_imports rs (import_values (take i is)) (take i ps) ++ renamed_import rs (import_value (get_or is i d)) (get_or ps i e) ∷ []
renamed_imports_more rs is ps i d e h same =
    let there : i < length ps = omega arith in
    let as_long : length (take i ps) ≡ length (map import_value (take i is)) = omega (arith, length-take-le i ps (omega arith), length-take-le i is (omega arith), length-map (take i is) import_value) in
    rw (take_more is i d h, take_more ps i e there, map-append import_value (take i is) (get_or is i d ∷ []))
    (renamed_imports_push rs (map import_value (take i is)) (take i ps) (import_value (get_or is i d)) (get_or ps i e) as_long)

-- the names of imports under their new names
pub originals-renamed_imports : (rs : List RenameView) (is : List ImportValue) (ps : List (Option ℕ)) → originals (renamed_imports rs is ps) ≡ renamed_names rs (originals is) ps
originals-renamed_imports rs [] ps = refl
originals-renamed_imports rs (i ∷ is) [] = refl
originals-renamed_imports rs (i ∷ is) (p ∷ ps) = ap (λ xs. (record { module_name = i.module_name; name = renamed_name rs i.name p }) ∷ xs) (originals-renamed_imports rs is ps)
