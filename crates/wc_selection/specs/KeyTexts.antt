-- Texts in sets and maps, in which the texts of keys are looked up. No contract of a public function cites these.
use Rattle.std.specs.Prelude.{◌≡◌, ◌⊎◌, ◌<◌, ℕ, zero, suc, Bool, true, false, not, ◌&&◌, List, map, Option, Some, None, unwrap_or, if◌then◌else◌}
use Rattle.std.specs.Borrow.{Bor}
use Rattle.std.specs.Map.{lookup}
use Rattle.std.specs.Str.{bytes_eq}
use Rattle.wc_selection.specs.KeyNames.{count_unversioned, unversioned}
use Rattle.wc_selection.specs.Keys.{NamedKey, texts_of}
use Rattle.wc_maps.specs.Texts.{is_in}
use Rattle.wc_selection.specs.declared.fault.RequestFault.{RequestFault}
use Rattle.wc_selection.specs.declared.fault.RequestFault.TheVariants.{UnknownKey, SeveralKeys, RepeatedKey}

-- the fault of a text by which no key is given, of exports with these keys by their own texts
abbrev pub IsUnknownKey : List NamedKey → List ℕ → RequestFault → Type 0
IsUnknownKey own text (UnknownKey key) = (key.now ≡ text) × (is_in (texts_of own) text ≡ false) × (count_unversioned own text ≡ 0)
IsUnknownKey own text (SeveralKeys key) = (key.now ≡ text) × (is_in (texts_of own) text ≡ false) × (1 < count_unversioned own text)
IsUnknownKey own text (RepeatedKey key) = (key.now ≡ text) × ((is_in (texts_of own) text ≡ true) ⊎ (count_unversioned own text ≡ 1))
IsUnknownKey own text f = ⊥

-- texts without versions, each with whether it is that of one key alone
abbrev pub ShortTexts : Type 0
ShortTexts = List (Bor (List ℕ) × Bool)

abbrev pub found_short : ShortTexts → List ℕ → Option Bool
found_short short text = lookup (λ k. bytes_eq text k.now) short

abbrev pub is_single : ShortTexts → List ℕ → Bool
is_single short text = unwrap_or (found_short short text) false

-- of a number of keys: whether it is one, if there are some
abbrev pub single : ℕ → Option Bool
single zero = None
single (suc zero) = Some true
single (suc (suc n)) = Some false

-- these are the texts of keys without their versions
abbrev pub HasSingles : List NamedKey → ShortTexts → Type 0
HasSingles keys short = (t : List ℕ) → found_short short t ≡ single (count_unversioned keys t)

-- the text by which a key is given
abbrev pub text_found : List (List ℕ) → List (List ℕ) → ShortTexts → NamedKey → List ℕ
text_found given own short k =
    if (is_in given (unversioned k) && not (is_in given k.1)) && (is_single short (unversioned k) && not (is_in own (unversioned k))) then unversioned k else k.1

abbrev pub keys_found : List (List ℕ) → List (List ℕ) → ShortTexts → List NamedKey → List NamedKey
keys_found given own short keys = map (λ (k : NamedKey). (k.0, text_found given own short k)) keys
