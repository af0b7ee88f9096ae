-- Lists of two, of three and of more, and the commands that they spell.
use Rattle.std.proofs.Common.{◌≡◌, ◌≢◌, ℕ, ◌<◌, ◌≤◌, Bool, false, List, [], ◌∷◌, length, get_or, take, drop, codes, ◌-◌, Option, Some, None, Result, Ok, Err}
use Rattle.std.proofs.Common.{inl, inr, refl, sym, ◌∙◌, ap, arith}
use Rattle.std.specs.Str.{bytes_eq}
use Rattle.std.proofs.lemmas.List.{take_all}
use Rattle.std.proofs.lemmas.Bool.{true≢false}
use Rattle.std.proofs.lemmas.Option.{same_Some}
use Rattle.std.specs.Prelude.{IfOk, IfErr, IsErr}
use Rattle.wctrim_command.specs.declared.command.Command.{Command}
use Rattle.wctrim_command.specs.Command.{CommandView, command_view, dedupe, scan, trim, IsCommandLine, IsExecutable, IsPageOption, AreExports}
use Rattle.wctrim_command.specs.Private.TrimArguments.{trim_parts, IsTrimOf, TrimParts}
use Rattle.wctrim_command.proofs.TrimArgumentsLemmas.{trim_valid, trim_complete}

-- a list of two, by what was read of it
pub two_items : {X : Type 0} (xs : List X) (a b : X) → 2 ≤ length xs → length xs < 3 → a ≡ get_or xs 0 a → b ≡ get_or xs 1 b → xs ≡ a ∷ b ∷ []
two_items [] a b low high ha hb = absurd (omega arith)
two_items (x ∷ []) a b low high ha hb = absurd (omega arith)
two_items (x ∷ y ∷ []) a b low high ha hb = cc
two_items (x ∷ y ∷ z ∷ xs) a b low high ha hb = absurd (omega arith)

-- a list of three, by what was read of it
pub three_items : {X : Type 0} (xs : List X) (a b c : X) → 3 ≤ length xs → length xs < 4 → a ≡ get_or xs 0 a → b ≡ get_or xs 1 b → c ≡ get_or xs 2 c
    → xs ≡ a ∷ b ∷ c ∷ []
three_items [] a b c low high ha hb hc = absurd (omega arith)
three_items (x ∷ []) a b c low high ha hb hc = absurd (omega arith)
three_items (x ∷ y ∷ []) a b c low high ha hb hc = absurd (omega arith)
three_items (x ∷ y ∷ z ∷ []) a b c low high ha hb hc = cc
three_items (x ∷ y ∷ z ∷ w ∷ xs) a b c low high ha hb hc = absurd (omega arith)

-- a list of three and more, by what was read of it
pub more_items : {X : Type 0} (xs : List X) (a b c : X) → 3 ≤ length xs → a ≡ get_or xs 0 a → b ≡ get_or xs 1 b → c ≡ get_or xs 2 c
    → xs ≡ a ∷ b ∷ c ∷ take (length xs - 3) (drop 3 xs)
more_items [] a b c low ha hb hc = absurd (omega arith)
more_items (x ∷ []) a b c low ha hb hc = absurd (omega arith)
more_items (x ∷ y ∷ []) a b c low ha hb hc = absurd (omega arith)
more_items (x ∷ y ∷ z ∷ xs) a b c low ha hb hc =
    let all : take (length (x ∷ y ∷ z ∷ xs) - 3) xs ≡ xs = take_all (length (x ∷ y ∷ z ∷ xs) - 3) xs (omega arith) in
    cc

-- whether the first of the arguments is this argument
abbrev is_first : List ℕ → List (List ℕ) → Bool
is_first argument [] = false
is_first argument (x ∷ xs) = bytes_eq x argument

abbrev trim_line_of : List ℕ → List ℕ → List (List ℕ) → List (List ℕ)
trim_line_of source target after_paths = codes "trim" ∷ source ∷ target ∷ after_paths

line_of_parts : (source target : List ℕ) (after_paths : List (List ℕ)) (parts : Option TrimParts) (c : CommandView) → trim_parts after_paths ≡ parts
    → IsTrimOf source target parts c → IsCommandLine (trim_line_of source target after_paths) c
line_of_parts source target after_paths parts c at h =
    rw h.4 (after_paths, refl, trim_valid after_paths h.0 h.1 h.2 (at ∙ h.3))

-- the parts of the arguments after the paths, of any trim that they spell
parts_of_line : (source target : List ℕ) (after_paths : List (List ℕ)) (d : CommandView) → IsCommandLine (trim_line_of source target after_paths) d
    → IsTrimOf source target (trim_parts after_paths) d
parts_of_line source target after_paths (dedupe s t) e = absurd (true≢false (ap (is_first (codes "trim")) e))
parts_of_line source target after_paths (scan s) e = absurd (true≢false (ap (is_first (codes "trim")) e))
parts_of_line source target after_paths (trim s t realloc page_size_log2 exports) (others, e, line) =
    let same : after_paths ≡ others = cc in
    let from : source ≡ s = cc in
    let to : target ≡ t = cc in
    (realloc, page_size_log2, exports, ap trim_parts same ∙ trim_complete others realloc page_size_log2 exports line, λ i. trim (sym from i) (sym to i) realloc page_size_log2 exports)

same_trim : (source target : List ℕ) (a b : TrimParts) → a ≡ b → trim source target a.0 a.1 a.2 ≡ trim source target b.0 b.1 b.2
same_trim source target a b e = ap (λ (t : TrimParts). trim source target t.0 t.1 t.2) e

one_trim : (source target : List ℕ) (parts : Option TrimParts) (c d : CommandView) → IsTrimOf source target parts c → IsTrimOf source target parts d → d ≡ c
one_trim source target parts c d h k = k.4
    ∙ (same_trim source target (k.0, k.1, k.2) (h.0, h.1, h.2) (same_Some {A = TrimParts} (k.0, k.1, k.2) (h.0, h.1, h.2) (sym k.3 ∙ h.3)) ∙ sym h.4)

exports_some : (exports : List (List ℕ)) → AreExports exports → exports ≢ []
exports_some [] h = absurd h
exports_some (first ∷ others) h = λ e. absurd cc

small_page : (page_size_log2 : ℕ) (after_paths : List (List ℕ)) → IsPageOption page_size_log2 after_paths → page_size_log2 ≤ 16
small_page page_size_log2 after_paths (inl h) = omega (arith, h.0)
small_page page_size_log2 after_paths (inr (inl h)) = omega (arith, h.0)
small_page page_size_log2 after_paths (inr (inr h)) = omega (arith, h.0)

executable : (arguments : List (List ℕ)) (c : CommandView) → IsCommandLine arguments c → IsExecutable c
executable arguments (dedupe s t) e = tt
executable arguments (scan s) e = tt
executable arguments (trim s t realloc page_size_log2 exports) (after_paths, e, line) = (exports_some exports line.are_exports, small_page page_size_log2 line.paged line.is_page)

-- what the arguments of a trim are, where its parts were found

pub trim_line : {E : Type 0} (source target : List ℕ) (after_paths arguments : List (List ℕ)) (r : Result Command E)
    → arguments ≡ trim_line_of source target after_paths → IfOk r (λ c. IsTrimOf source target (trim_parts after_paths) (command_view c))
    → IfOk r (λ c. IsCommandLine arguments (command_view c))
trim_line source target after_paths arguments (Ok c) is h = rw is (line_of_parts source target after_paths (trim_parts after_paths) (command_view c) refl h)
trim_line source target after_paths arguments (Err e) is h = tt

pub trim_unique : {E : Type 0} (source target : List ℕ) (after_paths arguments : List (List ℕ)) (r : Result Command E)
    → arguments ≡ trim_line_of source target after_paths → IfOk r (λ c. IsTrimOf source target (trim_parts after_paths) (command_view c))
    → IfOk r (λ c. (d : CommandView) → IsCommandLine arguments d → d ≡ command_view c)
trim_unique source target after_paths arguments (Ok c) is h =
    rw is (λ d line. one_trim source target (trim_parts after_paths) (command_view c) d h (parts_of_line source target after_paths d line))
trim_unique source target after_paths arguments (Err e) is h = tt

pub trim_executable : {E : Type 0} (source target : List ℕ) (after_paths : List (List ℕ)) (r : Result Command E)
    → IfOk r (λ c. IsTrimOf source target (trim_parts after_paths) (command_view c)) → IfOk r (λ c. IsExecutable (command_view c))
trim_executable source target after_paths (Ok c) h = executable (trim_line_of source target after_paths) (command_view c)
    (line_of_parts source target after_paths (trim_parts after_paths) (command_view c) refl h)
trim_executable source target after_paths (Err e) h = tt

no_trim : (source target : List ℕ) (after_paths : List (List ℕ)) → trim_parts after_paths ≡ None → (d : CommandView)
    → ¬ (IsCommandLine (trim_line_of source target after_paths) d)
no_trim source target after_paths none d line =
    let found = parts_of_line source target after_paths d line in
    let both : None ≡ Some (found.0, found.1, found.2) = sym none ∙ found.3 in
    absurd cc

pub trim_usage : {E : Type 0} (source target : List ℕ) (after_paths arguments : List (List ℕ)) (r : Result Command E)
    → arguments ≡ trim_line_of source target after_paths → (IsErr r → trim_parts after_paths ≡ None)
    → IfErr r (λ e. (d : CommandView) → ¬ (IsCommandLine arguments d))
trim_usage source target after_paths arguments (Ok c) is h = tt
trim_usage source target after_paths arguments (Err e) is h = rw is (no_trim source target after_paths (h refl))
