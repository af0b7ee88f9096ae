-- What a text that is not JSON looks like.
use Rattle.std.specs.Prelude.{ℕ, Bool, ◌||◌, ◌==◌, List, [], ◌∷◌, cond, codes, Option, Some, None}
use Rattle.std.specs.List.{list_all, starts_with}
use Rattle.std.specs.Option.{option_map_or}
use Rattle.json.specs.Word.{is_space}
use Rattle.wc_json.specs.declared.likeness.Likeness.{Likeness}
use Rattle.wc_json.specs.declared.likeness.Likeness.TheVariants.{WebAssembly, ByteOrderMark, Empty, Wit}
use Rattle.wc_json.specs.declared.likeness.Gap.{Gap}
use Rattle.wc_json.specs.declared.likeness.Gap.TheVariants.{Between, Slash, Line, Block, Star, Stray}
use Rattle.wc_json.specs.declared.likeness.Kind.{Kind}
use Rattle.wc_json.specs.declared.likeness.Kind.TheVariants.{Blank, LineEnd, Slash as SlashByte, Asterisk, Other}

abbrev pub begins_with : List ℕ → List ℕ → Bool
begins_with prefix text = starts_with (λ a b. a == b) text prefix

abbrev pub kind_of : ℕ → Kind
kind_of c = cond (c == 10) LineEnd (cond (is_space c) Blank (cond (c == 47) SlashByte (cond (c == 42) Asterisk Other)))

-- where the next byte is among blanks and comments, `//` to the end of the line or `/*` to `*/`; None where a byte is in
-- none. Nothing is left after a slash that begins no comment
abbrev pub gap_after : Gap → Kind → Option Gap
gap_after Between Blank = Some Between
gap_after Between LineEnd = Some Between
gap_after Between SlashByte = Some Slash
gap_after Between kind = None
gap_after Slash SlashByte = Some Line
gap_after Slash Asterisk = Some Block
gap_after Slash kind = Some Stray
gap_after Line LineEnd = Some Between
gap_after Line kind = Some Line
gap_after Block Asterisk = Some Star
gap_after Block kind = Some Block
gap_after Star SlashByte = Some Between
gap_after Star Asterisk = Some Star
gap_after Star kind = Some Block
gap_after Stray kind = Some Stray

-- what is left of a text after blanks and comments
unfoldable pub left : Gap → List ℕ → List ℕ
left gap [] = []
left gap (c ∷ rest) = option_map_or (λ next. left next rest) (gap_after gap (kind_of c)) (c ∷ rest)

-- a word with which WIT begins
abbrev pub begins_with_wit : List ℕ → Bool
begins_with_wit text =
    begins_with (codes "package") text || begins_with (codes "world") text || begins_with (codes "interface") text

abbrev pub looks_like : List ℕ → Option Likeness
looks_like text =
    cond (begins_with (0 ∷ codes "asm") text) (Some WebAssembly)
    (cond (begins_with (239 ∷ 187 ∷ 191 ∷ []) text) (Some ByteOrderMark)
    (cond (list_all is_space text) (Some Empty) (cond (begins_with_wit (left Between text)) (Some Wit) None)))
