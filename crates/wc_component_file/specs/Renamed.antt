-- Names of imports that a linker repeats, and therefore renames: `a`, `a [v2]`, `a [v3]`.
use Rattle.std.specs.Prelude.{◌≡◌, ℕ, suc, ◌-◌, Bool, true, not, ◌&&◌, ◌==◌, List, [], ◌∷◌, ◌++◌, length, take, drop, Option, Some, None, cond, codes}
use Rattle.std.specs.Char.{is_ascii_digit}
use Rattle.std.specs.List.{list_all}
use Rattle.std.specs.Option.{option_map}
use Rattle.std.specs.Str.{bytes_eq}
use Rattle.wc_texts.specs.Finds.{Finds}

-- decimal digits, at least one
unfoldable pub is_number : List ℕ → Bool
is_number text = not (length text == 0) && list_all is_ascii_digit text

-- `N]`
unfoldable pub is_numbered : List ℕ → Bool
is_numbered text = bytes_eq (drop (length text - 1) text) (codes "]") && is_number (take (length text - 1) text)

-- ` [vN]`
unfoldable pub is_mark : List ℕ → Bool
is_mark text = bytes_eq (take 3 text) (codes " [v") && is_numbered (drop 3 text)

-- where the mark begins with which a text ends
abbrev pub mark_start : List ℕ → Option ℕ
mark_start [] = None
mark_start (c ∷ cs) = cond (is_mark (c ∷ cs)) (Some 0) (option_map suc (mark_start cs))

-- the name before that mark
unfoldable pub original_import_name : List ℕ → Option (List ℕ)
original_import_name name = option_map (λ k. take k name) (mark_start name)

-- a name is another one with a mark after it
pub record IsRenamed (name original : List ℕ) : Type 0 where
  pub digits : List ℕ
  pub cut : name ≡ original ++ (codes " [v" ++ (digits ++ codes "]"))
  pub decimal : is_number digits ≡ true

-- so a name has an original name exactly where it was renamed
abbrev pub HaveOriginals : Type 0
HaveOriginals = (name : List ℕ) → Finds (original_import_name name) (IsRenamed name)
