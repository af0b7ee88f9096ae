-- An adapter to which nothing is added, and of which no imported realloc is reached, is edited to itself.
use Rattle.std.proofs.Common.{◌≡◌, ℕ, ◌+◌, List, [], ◌∷◌, ◌++◌, length, map, refl, sym, ◌∙◌, ap, false, ◌&&◌, None, Some, append-nil, arith, suc}
use Rattle.std.specs.List.{enumerate_from, slice_get}
use Rattle.std.specs.Option.{option_map_or}
use Rattle.std.proofs.lemmas.Option.{slice_get_within}
use Rattle.wc_read.specs.Types.{FuncTypeValue}
use Rattle.wc_read.specs.declared.operators.Space.TheVariants.{Funcs}
use Rattle.wc_read.specs.Decoded.{DecodedModule, FuncCode}
use Rattle.wc_gc.specs.Edit.{edit, edited_by, edited_func, edited_funcs, is_exported_func}
use Rattle.wc_gc.specs.Found.{FoundView, found_in, is_realloc, is_realloc_at}
use Rattle.wc_gc.specs.TraceLaws.{AddsNothing}
use Rattle.wc_gc.specs.Unfolding.{edited_module}
use Rattle.wc_gc.specs.UntouchedLaws.{EditsNothing, Original, edited}
use Rattle.wc_gc.specs.declared.parts.Parts.{Parts}
use Rattle.wc_gc.proofs.TwiceImageLemmas.{def_same, no_parts, parts_none}
use Rattle.wc_gc.proofs.TwiceListLemmas.{none_found}
use Rattle.wc_gc.proofs.UntouchedLemmas.{func_with}

-- items with their indices, where each item stays
items_stay : {A : Type 0} (f : ℕ × A → A) (xs : List A) (k : ℕ) → ((i : ℕ) (x : A) → slice_get xs i ≡ Some x → f (k + i, x) ≡ x)
    → map f (enumerate_from k xs) ≡ xs
items_stay f [] k same = refl
items_stay f (x ∷ xs) k same =
    ap (λ y. y ∷ map f (enumerate_from (k + 1) xs)) (ap (λ n. f (n, x)) (let e : k ≡ k + 0 = omega arith in e) ∙ same 0 x refl)
    ∙ ap (λ ys. x ∷ ys) (items_stay f xs (k + 1) (λ i y at. ap (λ n. f (n, y)) (let e : k + 1 + i ≡ k + suc i = omega arith in e) ∙ same (suc i) y at))

module _ (a : Original) (none : AddsNothing a.settings (found_in a.value a.live)) where
  abbrev olds : List FuncCode
  olds = a.value.funcs

  abbrev found : FoundView
  found = found_in a.value a.live

  no_realloc : (n : ℕ) (f : FuncCode) → slice_get olds n ≡ Some f → (a.live (Funcs, n) && is_realloc f.def) ≡ false
  unfolding found_in
  no_realloc n f at =
      sym (ap (λ o. a.live (Funcs, n) && option_map_or (λ (g : FuncCode). is_realloc g.def) o false) at)
      ∙ none_found (λ i. a.live (Funcs, i) && is_realloc_at a.value i) (length olds) n none.reallocs (slice_get_within olds n f at)

  one_same : (n : ℕ) (f : FuncCode) → slice_get olds n ≡ Some f
      → edited_func (length olds) a.settings no_parts found (a.live (Funcs, n)) (is_exported_func a.exports n) f ≡ f
  one_same n f at =
      ap (func_with f) (def_same (length olds) a.settings found (a.live (Funcs, n)) (is_exported_func a.exports n) f.def (no_realloc n f at))

  funcs_same : edited_funcs a.exports a.live a.settings no_parts found olds ≡ olds
  funcs_same =
      items_stay (λ x. edited_func (length olds) a.settings no_parts found (a.live (Funcs, x.0)) (is_exported_func a.exports x.0) x.1) olds 0
      (λ n f at. let e : 0 + n ≡ n = omega arith in
      ap (λ (k : ℕ). edited_func (length olds) a.settings no_parts found (a.live (Funcs, k)) (is_exported_func a.exports k) f) e ∙ one_same n f at)

  abbrev with_items : List FuncTypeValue → List FuncCode → DecodedModule
  with_items types funcs = record a.value { types = types; funcs = funcs; exports = a.exports; start = None }

  original_kept : edited a ≡ record a.value { exports = a.exports; start = None }
  unfolding edit
  original_kept =
      ap (λ (p : Parts). edited_module (edited_by a.settings a.value a.exports a.live p found)) (parts_none a.settings found none)
      ∙ (ap (λ ts. with_items ts (edited_funcs a.exports a.live a.settings no_parts found olds ++ [])) (append-nil a.value.types)
      ∙ ap (with_items a.value.types) (append-nil (edited_funcs a.exports a.live a.settings no_parts found olds) ∙ funcs_same))

pub edits_nothing : EditsNothing
edits_nothing a none = original_kept a none
