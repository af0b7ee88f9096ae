-- Texts from outside, as words of a line, and between the quotes of a graph.
use Rattle.std.specs.Prelude.{ℕ, ◌==◌, List, ◌++◌, cond, codes}
use Rattle.std.specs.Char.{encode_utf8}
use Rattle.std.specs.List.{flat_map}
use Rattle.std.specs.Str.{chars}
use Rattle.wc_texts.specs.Escape.{escaped}

-- a blank as `\u{20}`
abbrev pub word_char : ℕ → List ℕ
word_char c = cond (c == 32) (codes "\\u{20}") (encode_utf8 c)

-- a text, escaped, without blanks: so it ends at the next blank
unfoldable pub word : List ℕ → List ℕ
word text = flat_map word_char (chars (escaped text))

abbrev pub two_words : List ℕ → List ℕ → List ℕ
two_words first second = word first ++ (codes " " ++ word second)

-- what Graphviz reads between quotes as this character: it takes a backslash for the begin of an escape sequence, a quote for
-- the end, and an ampersand for the begin of an entity
abbrev pub graph_char : ℕ → List ℕ
graph_char c =
    cond (c == 92) (codes "\\\\")
    (cond (c == 34) (codes "\\\"")
    (cond (c == 38) (codes "&amp;") (encode_utf8 c)))

unfoldable pub graph_text : List ℕ → List ℕ
graph_text text = flat_map graph_char (chars text)
