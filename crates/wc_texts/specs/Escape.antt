-- Texts in which characters that end a line, act on a terminal, turn the direction of text or can't be seen are escaped.
use Rattle.std.specs.Prelude.{ℕ, Bool, true, false, not, ◌==◌, ◌&&◌, List, ◌∷◌, [], ◌++◌, cond, codes}
use Rattle.std.specs.Char.{encode_utf8}
use Rattle.std.specs.Fmt.{digits}
use Rattle.std.specs.List.{flat_map}
use Rattle.std.specs.Str.{chars}
use Rattle.ucd_category.specs.GeneralCategory.{general_category}
use Rattle.ucd_category.specs.declared.GeneralCategory.{GeneralCategory}
use Rattle.ucd_category.specs.declared.GeneralCategory.TheVariants.{SpaceSeparator, LineSeparator, ParagraphSeparator, Control, Format, Surrogate, PrivateUse, Unassigned}

-- `\u{..}`, with hexadecimal digits
abbrev pub code_text : ℕ → List ℕ
code_text c = codes "\\u{" ++ (digits 16 false c ++ codes "}")

-- the general categories Zs, Zl, Zp, Cc, Cf, Cs, Co and Cn
abbrev pub is_escaped_category : GeneralCategory → Bool
is_escaped_category SpaceSeparator = true
is_escaped_category LineSeparator = true
is_escaped_category ParagraphSeparator = true
is_escaped_category Control = true
is_escaped_category Format = true
is_escaped_category Surrogate = true
is_escaped_category PrivateUse = true
is_escaped_category Unassigned = true
is_escaped_category c = false

-- a character of one of these, but the blank
abbrev pub is_escaped_char : ℕ → Bool
is_escaped_char c = not (c == 32) && is_escaped_category (general_category c)

abbrev pub escaped_char : ℕ → List ℕ
escaped_char c =
    cond (c == 92) (codes "\\\\")
    (cond (c == 10) (codes "\\n")
    (cond (c == 13) (codes "\\r")
    (cond (c == 9) (codes "\\t")
    (cond (c == 0) (codes "\\0")
    (cond (is_escaped_char c) (code_text c) (encode_utf8 c))))))

unfoldable pub escaped : List ℕ → List ℕ
escaped text = flat_map escaped_char (chars text)

-- the same, and a double quote after a backslash
abbrev pub quoted_char : ℕ → List ℕ
quoted_char c = cond (c == 34) (codes "\\\"") (escaped_char c)

-- the text between double quotes
unfoldable pub quoted : List ℕ → List ℕ
quoted text = 34 ∷ (flat_map quoted_char (chars text) ++ 34 ∷ [])
