-- Texts of which names are put together.
use Rattle.std.specs.Prelude.{◌≡◌, ◌≢◌, ◌⊎◌, ℕ, ◌<◌, ◌^◌, List, [], ◌∷◌, ◌++◌, length, replicate, slice_index, codes}
use Rattle.std.specs.Fmt.{decimal}
use Rattle.wc_read.specs.declared.types.ValType.{ValType}
use Rattle.wc_texts.specs.Characters.{digit_zero}

-- no byte of the text is this one
abbrev pub Lacks : ℕ → List ℕ → Type 0
Lacks c text = (i : ℕ) → i < length text → slice_index text i ≢ c

-- the text is another one, this byte for the first time, and a third one
abbrev pub IsSplitAtFirst : ℕ → List ℕ → List ℕ → List ℕ → Type 0
IsSplitAtFirst c text first second = (text ≡ first ++ (c ∷ second)) × Lacks c first

-- the text is one of a list
abbrev pub IsOneOf : List (List ℕ) → List ℕ → Type 0
IsOneOf [] text = ⊥
IsOneOf (t ∷ []) text = text ≡ t
IsOneOf (t ∷ u ∷ ts) text = (text ≡ t) ⊎ IsOneOf (u ∷ ts) text

-- a number of 32 bits in decimal, after any number of zeros, and before these one plus or none
pub record SpellsNumber (n : ℕ) (text : List ℕ) : Type 0 where
  pub plus : List ℕ
  pub zeros : ℕ
  pub one_or_none : IsOneOf ([] ∷ codes "+" ∷ []) plus
  pub fits : n < 2 ^ 32
  pub is_text : text ≡ plus ++ (replicate zeros digit_zero ++ decimal n)

-- a type and a number: this type, and the number that a text is after a prefix
abbrev pub HasSlot : ValType → List ℕ → List ℕ → ValType × ℕ → Type 0
HasSlot ty text prefix found = (found.0 ≡ ty) × (rest : List ℕ) × (text ≡ prefix ++ rest) × SpellsNumber found.1 rest

-- a text is no number after a prefix
abbrev pub HasNoSlot : List ℕ → List ℕ → Type 0
HasNoSlot text prefix = (rest : List ℕ) (n : ℕ) → text ≡ prefix ++ rest → ¬ SpellsNumber n rest

-- the names of a thing: a text; a text, one of several and another text; or these with a number before the last text
pub data Spelling : Type 0 where
  exactly : List ℕ → Spelling
  choice : List ℕ → List (List ℕ) → List ℕ → Spelling
  slot : List ℕ → List (List ℕ) → ℕ → List ℕ → Spelling

abbrev pub IsChoice : List ℕ → List (List ℕ) → List ℕ → List ℕ → Type 0
IsChoice first middles last name = (middle : List ℕ) × IsOneOf middles middle × (name ≡ first ++ (middle ++ last))

abbrev pub IsSlot : List ℕ → List (List ℕ) → ℕ → List ℕ → List ℕ → Type 0
IsSlot first middles n last name = (middle number : List ℕ) × IsOneOf middles middle × SpellsNumber n number × (name ≡ first ++ (middle ++ (number ++ last)))

abbrev pub Spells : Spelling → List ℕ → Type 0
Spells (exactly t) name = name ≡ t
Spells (choice first middles last) name = IsChoice first middles last name
Spells (slot first middles n last) name = IsSlot first middles n last name
