-- Where a text is not JSON: the lexeme that a JSON text can't have there.
use Rattle.std.specs.Prelude.{ℕ, suc, Bool, true, false, not, ◌&&◌, ◌==◌, nat_lt, List, [], ◌∷◌, length, get_or, drop, cond, Option, Some, None}
use Rattle.std.specs.Option.{option_map_or}
use Rattle.json.specs.Ascii as ascii
use Rattle.json.specs.Json.{max_depth}
use Rattle.json.specs.Token.{Token}
use Rattle.json.specs.Lex.{class, tokens}
use Rattle.json.specs.Lex as lex
use Rattle.wc_json.specs.declared.json_place.Class.{Class}
use Rattle.wc_json.specs.declared.json_place.Class.TheVariants.{Quote, Backslash, Operator, Space, Other}
use Rattle.wc_json.specs.declared.json_place.Last.{Last}
use Rattle.wc_json.specs.declared.json_place.Last.TheVariants.{Begin, Key, Value}
use Rattle.wc_json.specs.declared.json_place.Mode.{Mode}
use Rattle.wc_json.specs.declared.json_place.Mode.TheVariants.{Between, InWord, InString, InEscape}
use Rattle.wc_json.specs.declared.json_place.Read.{Read}

abbrev pub class_of : lex.Class → Class
class_of lex.quote = Quote
class_of lex.backslash = Backslash
class_of lex.operator = Operator
class_of lex.space = Space
class_of lex.other = Other

-- a lexeme begins at a byte of a class: at none in a string, and in a word at an operator alone
abbrev pub begins : Mode → Class → Bool
begins Between Quote = true
begins Between Backslash = true
begins Between Operator = true
begins Between Space = false
begins Between Other = true
begins InWord Quote = false
begins InWord Backslash = false
begins InWord Operator = true
begins InWord Space = false
begins InWord Other = false
begins InString c = false
begins InEscape c = false

-- where the next byte is
abbrev pub passed : Mode → Class → Mode
passed Between Quote = InString
passed Between Backslash = InWord
passed Between Operator = Between
passed Between Space = Between
passed Between Other = InWord
passed InWord Quote = InWord
passed InWord Backslash = InWord
passed InWord Operator = Between
passed InWord Space = Between
passed InWord Other = InWord
passed InString Quote = Between
passed InString Backslash = InEscape
passed InString Operator = InString
passed InString Space = InString
passed InString Other = InString
passed InEscape c = InString

abbrev pub start_here : Bool → ℕ → List ℕ → List ℕ
start_here true at more = at ∷ more
start_here false at more = more

-- the bytes at which lexemes begin: brackets, commas, colons, strings and words
unfoldable pub starts : Mode → ℕ → List ℕ → List ℕ
starts mode at [] = []
starts mode at (x ∷ xs) = start_here (begins mode (class_of (class x))) at (starts (passed mode (class_of (class x))) (suc at) xs)

-- what was read: the last token; and of what is open, from the innermost on, whether it is an object
pub record ReadView : Type 0 where
  pub last : Last
  pub opened : List Bool

abbrev pub read_view : Read → ReadView
read_view r = record { last = r.last; opened = r.opened.items }

abbrev pub first_read : ReadView
first_read = record { last = Begin; opened = [] }

abbrev pub is_begin : Last → Bool
is_begin Begin = true
is_begin Key = false
is_begin Value = false

abbrev pub is_key : Last → Bool
is_key Begin = false
is_key Key = true
is_key Value = false

abbrev pub innermost : List Bool → Option Bool
innermost [] = None
innermost (o ∷ rest) = Some o

-- a value may come: a first one; an item of an array; in an object after a key
abbrev pub may_come : Last → Option Bool → Bool
may_come last None = is_begin last
may_come last (Some false) = true
may_come last (Some true) = is_key last

abbrev pub takes_value : ReadView → Bool
takes_value r = may_come r.last (innermost r.opened)

-- what was read with one more value, key, opening bracket or closing bracket, where this may come
abbrev pub valued : ReadView → Option ReadView
valued r = cond (takes_value r) (Some (record { last = Value; opened = r.opened })) None

abbrev pub keying : Last → List Bool → Option ReadView
keying last [] = None
keying last (false ∷ rest) = None
keying Begin (true ∷ rest) = Some (record { last = Key; opened = true ∷ rest })
keying Key (true ∷ rest) = None
keying Value (true ∷ rest) = Some (record { last = Key; opened = true ∷ rest })

abbrev pub keyed : ReadView → Option ReadView
keyed r = keying r.last r.opened

abbrev pub opening : Bool → ReadView → Option ReadView
opening is_object r = cond (takes_value r && nat_lt (length r.opened) max_depth) (Some (record { last = Begin; opened = is_object ∷ r.opened })) None

abbrev pub same : Bool → Bool → Bool
same true b = b
same false b = not b

abbrev pub closing : Bool → Last → List Bool → Option ReadView
closing is_object last [] = None
closing is_object last (o ∷ rest) = cond (not (is_key last) && same o is_object) (Some (record { last = Value; opened = rest })) None

-- what was read with one more token; nothing where no JSON text has it there
abbrev pub take_token : ReadView → Token → Option ReadView
take_token r Token.begin_object = opening true r
take_token r Token.end_object = closing true r.last r.opened
take_token r Token.begin_array = opening false r
take_token r Token.end_array = closing false r.last r.opened
take_token r (Token.key s) = keyed r
take_token r (Token.string s) = valued r
take_token r (Token.number s) = valued r
take_token r (Token.boolean b) = valued r
take_token r Token.null = valued r
take_token r Token.bad = None

-- how many lexemes a token has after the last one: itself, a comma between values, and the colon of a key
abbrev pub with_comma : Last → ℕ → ℕ
with_comma Begin count = count
with_comma Key count = count
with_comma Value count = suc count

abbrev pub lexemes : Last → Token → ℕ
lexemes last Token.begin_object = with_comma last 1
lexemes last Token.end_object = 1
lexemes last Token.begin_array = with_comma last 1
lexemes last Token.end_array = 1
lexemes last (Token.key s) = with_comma last 2
lexemes last (Token.string s) = with_comma last 1
lexemes last (Token.number s) = with_comma last 1
lexemes last (Token.boolean b) = with_comma last 1
lexemes last Token.null = with_comma last 1
lexemes last Token.bad = with_comma last 1

-- a value ended in an array or an object, where a comma may come
abbrev pub ended_in : Last → Option Bool → Bool
ended_in Begin o = false
ended_in Key o = false
ended_in Value None = false
ended_in Value (Some o) = true

abbrev pub is_inside : ReadView → Bool
is_inside r = ended_in r.last (innermost r.opened)

abbrev pub is_comma_at : List ℕ → ℕ → Bool
is_comma_at text at = get_or text at ascii.space == ascii.comma

-- the next lexeme, or that after a comma which may come; the end of the text where there is none
abbrev pub place : List ℕ → List ℕ → Bool → ℕ
place text left inside = cond (inside && is_comma_at text (get_or left 0 (length text))) (get_or left 1 (length text)) (get_or left 0 (length text))

-- the place of the first token that no JSON text has there; `left`: where the lexemes begin that are left
abbrev pub stop : List ℕ → ReadView → List ℕ → List Token → ℕ
stop text r left [] = place text left (is_inside r)
stop text r left (t ∷ ts) = option_map_or (λ next. stop text next (drop (lexemes r.last t) left) ts) (take_token r t) (place text left (is_inside r))

abbrev pub json_end : List ℕ → ℕ
json_end text = stop text first_read (starts Between 0 text) (tokens text)
