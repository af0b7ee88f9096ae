-- Names of functions as their author wrote them: a name that Rust mangled is read. Texts are lists of characters here.
use Rattle.std.specs.Prelude.{◌≡◌, ℕ, zero, suc, ◌+◌, ◌-◌, ◌*◌, nat_eq, nat_lt, Bool, false, ◌&&◌, ◌||◌, cond, List, [], ◌∷◌, ◌++◌, codes, drop, length, map, take, Option, Some, None}
use Rattle.std.specs.Borrow.{Bor}
use Rattle.std.specs.Char.{digit_value, encode_utf8, is_ascii, is_ascii_digit, is_ascii_graphic, is_ascii_hexdigit, is_control}
use Rattle.std.specs.Int.{is_in_range}
use Rattle.std.specs.List.{flat_map, list_all, slice_get}
use Rattle.std.specs.Option.{option_map, option_map_or}
use Rattle.std.specs.Str.{chars}
use Rattle.std.specs.declared.alloc.Global.{Global}
use Rattle.std.specs.declared.vec.Vec.{Vec}
use Rattle.wc_texts.specs.Prefixes.{rest_after}
use Rattle.wc_why.specs.Texts.{text_of}

-- the number of a number's digits and those that follow; and what is after them
abbrev pub number_at : ℕ → List ℕ → ℕ × List ℕ
number_at n [] = (n, [])
number_at n (c ∷ cs) = cond (is_ascii_digit c) (number_at (n * 10 + (c - 48)) cs) (n, c ∷ cs)

-- the part that a text begins with, after its length, which is not 0; and what is after it

abbrev pub part_after : ℕ × List ℕ → Option (List ℕ × List ℕ)
part_after n = cond (nat_eq n.0 0 || nat_lt (length n.1) n.0) None (Some (take n.0 n.1, drop n.0 n.1))

abbrev pub first_part : List ℕ → Option (List ℕ × List ℕ)
first_part cs = part_after (number_at 0 cs)

-- the parts of a text, each after its length, up to an `E`, and what is after that. None where the text is otherwise. It has no more
-- parts than characters

abbrev pub is_end : List ℕ → Bool
is_end [] = false
is_end (c ∷ cs) = nat_eq c 69

abbrev pub Parts : Type 0
Parts = List (List ℕ) × List ℕ

abbrev pub with_part : (List ℕ → Option Parts) → Option (List ℕ × List ℕ) → Option Parts
with_part parts None = None
with_part parts (Some p) = option_map (λ (r : Parts). (p.0 ∷ r.0, r.1)) (parts p.1)

abbrev pub parts_in : ℕ → List ℕ → Option Parts
parts_in zero cs = cond (is_end cs) (Some ([], drop 1 cs)) None
parts_in (suc n) cs = cond (is_end cs) (Some ([], drop 1 cs)) (with_part (parts_in n) (first_part cs))

abbrev pub parts_of : List ℕ → Option Parts
parts_of cs = parts_in (length cs) cs

-- a mangled name is `_ZN`, and its parts; its characters are ASCII
abbrev pub prefixed_parts : List ℕ → Option Parts
prefixed_parts name = option_map_or parts_of (rest_after (codes "_ZN") name) None

abbrev pub mangled_parts : List ℕ → Option Parts
mangled_parts name = cond (list_all is_ascii name) (prefixed_parts name) None

-- a hash: `h` and 16 hexadecimal digits

abbrev pub are_hash_digits : List ℕ → Bool
are_hash_digits cs = nat_eq (length cs) 16 && list_all is_ascii_hexdigit cs

abbrev pub is_hash : List ℕ → Bool
is_hash part = option_map_or are_hash_digits (rest_after (codes "h") part) false

-- parts without a last one that is a hash, unless it is the only one

abbrev pub without_last_hash : List (List ℕ) → List (List ℕ)
without_last_hash parts =
    option_map_or (λ (last : List ℕ). cond (is_hash last) (take (length parts - 1) parts) parts) (slice_get parts (length parts - 1)) parts

abbrev pub without_hash : List (List ℕ) → List (List ℕ)
without_hash parts = cond (nat_lt (length parts) 2) parts (without_last_hash parts)

-- what is shown of the text after the `E`: nothing of what LLVM adds, `.llvm.` and digits; another text that begins with a point.
-- None where the name is not one of Rust

abbrev pub is_llvm_digit : ℕ → Bool
is_llvm_digit c = is_ascii_digit c || is_in_range 64 70 c

abbrev pub is_llvm : List ℕ → Bool
is_llvm cs = option_map_or (list_all is_llvm_digit) (rest_after (codes ".llvm.") cs) false

abbrev pub is_pointed : List ℕ → Bool
is_pointed [] = false
is_pointed (c ∷ cs) = nat_eq c 46 && list_all is_ascii_graphic (c ∷ cs)

abbrev pub suffix : List ℕ → Option (List ℕ)
suffix cs = cond (nat_eq (length cs) 0 || is_llvm cs) (Some []) (cond (is_pointed cs) (Some cs) None)

-- the character that a text begins with, and what is after it: after `$` a short name and `$`, or `u`, the digits of its code, and `$`

abbrev pub Symbol : Type 0
Symbol = ℕ × List ℕ

abbrev pub symbol_by : List ℕ → ℕ → List ℕ → Option Symbol
symbol_by prefix c cs = option_map (λ (rest : List ℕ). (c, rest)) (rest_after prefix cs)

abbrev pub or_else : Option Symbol → Option Symbol → Option Symbol
or_else None other = other
or_else (Some found) other = Some found

abbrev pub bracket_at : List ℕ → Option Symbol
bracket_at cs =
    or_else (symbol_by (codes "LT$") 60 cs) (or_else (symbol_by (codes "GT$") 62 cs) (or_else (symbol_by (codes "LP$") 40 cs)
    (symbol_by (codes "RP$") 41 cs)))

abbrev pub sign_at : List ℕ → Option Symbol
sign_at cs =
    or_else (symbol_by (codes "RF$") 38 cs) (or_else (symbol_by (codes "BP$") 42 cs) (or_else (symbol_by (codes "SP$") 64 cs)
    (symbol_by (codes "C$") 44 cs)))

-- the code of a character by lower-case hexadecimal digits

abbrev pub is_code_digit : ℕ → Bool
is_code_digit c = is_ascii_digit c || is_in_range 97 102 c

abbrev pub with_code_digit : ℕ → ℕ → Option ℕ
with_code_digit n c = cond (is_code_digit c && nat_lt (n * 16 + digit_value c) 0x11_0000) (Some (n * 16 + digit_value c)) None

abbrev pub code_from : ℕ → List ℕ → Option Symbol
code_from n [] = None
code_from n (c ∷ cs) =
    cond (nat_eq c 36) (Some (n, cs)) (option_map_or (λ (next : ℕ). code_from next cs) (with_code_digit n c) None)

-- a code that is a character's, and none of a control
abbrev pub character : Symbol → Option Symbol
character s = cond (nat_lt s.0 0xD800 || nat_lt 0xDFFF s.0) (cond (is_control s.0) None (Some s)) None

abbrev pub coded_at : List ℕ → Option Symbol
coded_at cs = option_map_or (λ (rest : List ℕ). option_map_or character (code_from 0 rest) None) (rest_after (codes "u") cs) None

abbrev pub symbol_at : List ℕ → Option Symbol
symbol_at cs = or_else (bracket_at cs) (or_else (sign_at cs) (coded_at cs))

-- a part is read piece by piece: what the first is, and what is after it. `..` is `::`; `$` begins a symbol, and where it begins none, the
-- rest stays as it is; another character stays

abbrev pub Piece : Type 0
Piece = List ℕ × List ℕ

abbrev pub point_piece : List ℕ → Piece
point_piece cs = option_map_or (λ (rest : List ℕ). (codes "::", rest)) (rest_after (codes ".") cs) (codes ".", cs)

abbrev pub symbol_piece : List ℕ → Piece
symbol_piece cs = option_map_or (λ (s : Symbol). (s.0 ∷ [], s.1)) (symbol_at cs) (36 ∷ cs, [])

abbrev pub piece_by : ℕ → List ℕ → Piece
piece_by c cs = cond (nat_eq c 46) (point_piece cs) (cond (nat_eq c 36) (symbol_piece cs) (c ∷ [], cs))

abbrev pub first_piece : List ℕ → Piece
first_piece [] = ([], [])
first_piece (c ∷ cs) = piece_by c cs

abbrev pub pieces_in : ℕ → List ℕ → List ℕ
pieces_in zero cs = []
pieces_in (suc n) cs = (first_piece cs).0 ++ pieces_in n (first_piece cs).1

-- a piece was put after a text, and this is left
abbrev pub IsPut : List ℕ → List ℕ → Piece → List ℕ → Type 0
IsPut old new piece rest = (new ≡ old ++ piece.0) × (rest ≡ piece.1)

-- an `_` before a first `$` goes
abbrev pub without_underscore : List ℕ → List ℕ
without_underscore part = option_map_or (λ (rest : List ℕ). 36 ∷ rest) (rest_after (codes "_$") part) part

abbrev pub part_text : List ℕ → List ℕ
part_text part = pieces_in (length (without_underscore part)) (without_underscore part)

-- parts, with `::` between them

abbrev pub later_parts : List (List ℕ) → List ℕ
later_parts parts = flat_map (λ (p : List ℕ). codes "::" ++ part_text p) parts

abbrev pub joined_parts : List (List ℕ) → List ℕ
joined_parts [] = []
joined_parts (p ∷ ps) = part_text p ++ later_parts ps

-- the last two of these parts
abbrev pub last_two : List (List ℕ) → List (List ℕ)
last_two parts = drop (length parts - 2) parts

-- all parts, or the last two, and what is shown after them; a name that has no part, or another text after the parts, stays as it is
abbrev pub shown_parts : Bool → List (List ℕ) → List (List ℕ)
shown_parts short parts = cond short (last_two (without_hash parts)) (without_hash parts)

abbrev pub with_suffix : Bool → List ℕ → Parts → List ℕ
with_suffix short name m = option_map_or (λ (s : List ℕ). joined_parts (shown_parts short m.0) ++ s) (suffix m.1) name

abbrev pub read_parts : Bool → List ℕ → Parts → List ℕ
read_parts short name m = cond (nat_eq (length m.0) 0) name (with_suffix short name m)

abbrev pub plain : Bool → List ℕ → List ℕ
plain short name = option_map_or (read_parts short name) (mangled_parts name) name

-- a name, read
abbrev pub rust_name : List ℕ → List ℕ
rust_name name = flat_map encode_utf8 (plain false (chars name))

-- parts and symbols, as texts

abbrev pub part_view : Option (Bor (List ℕ) × Bor (List ℕ)) → Option (List ℕ × List ℕ)
part_view part = option_map (λ (p : Bor (List ℕ) × Bor (List ℕ)). (p.0.now, p.1.now)) part

abbrev pub parts_view : Option (Vec (Bor (List ℕ)) Global × Bor (List ℕ)) → Option Parts
parts_view parts = option_map (λ (p : Vec (Bor (List ℕ)) Global × Bor (List ℕ)). (map text_of p.0.items, p.1.now)) parts

abbrev pub symbol_view : Option (ℕ × Bor (List ℕ)) → Option Symbol
symbol_view symbol = option_map (λ (s : ℕ × Bor (List ℕ)). (s.0, s.1.now)) symbol

abbrev pub rest_view : Option (Bor (List ℕ)) → Option (List ℕ)
rest_view rest = option_map text_of rest
