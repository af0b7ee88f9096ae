-- How many bytes the text of a number or of other immediates has.
use Rattle.std.specs.Prelude.{◌≡◌, ◌⊎◌, ℕ, List, ◌∷◌, ◌++◌, length, Bool, true, Option, Some, None, ◌<◌, ◌≤◌, ◌^◌, ◌*◌, ◌-◌, ℤ, pos, negsuc}
use Rattle.std.specs.List.{flat_map}
use Rattle.wc_read.specs.Text.{number_text}
use Rattle.wc_read.specs.Operators.{WithLabels}
use Rattle.wc_read.specs.OperatorText.{immediates_text, mem_arg_text}
use Rattle.wc_read.specs.Reading.Reader.{Read, items_at, number_at}
use Rattle.wc_read.specs.Reading.Instructions.{immediates_at, mem_arg_at}
use Rattle.wc_read.specs.declared.operators.Form.TheVariants.{Labels as form_labels}

-- bytes begin with the text of a value, of so many bytes, and this value is read
pub record IsTextSize {A : Type 0} (read : Read A) (text : A → List ℕ) (bytes : List ℕ) (size : ℕ) : Type 0 where
  pub value : A
  pub left : List ℕ
  pub read_is : read bytes ≡ Some (value, left)
  pub cut : bytes ≡ text value ++ left
  pub size_is : size ≡ length (text value)

-- the size of such a text, where there is an answer
abbrev pub SizesText : {A : Type 0} → Read A → (A → List ℕ) → List ℕ → Option ℕ → Type 0
SizesText read text bytes None = Unit {0}
SizesText read text bytes (Some size) = IsTextSize read text bytes size

-- the size of the text of a memory argument that names memory 0, where `memory` is so
abbrev pub SizesMemArg : Bool → List ℕ → Option ℕ → Type 0
SizesMemArg memory bytes None = Unit {0}
SizesMemArg memory bytes (Some size) = (s : IsTextSize mem_arg_at mem_arg_text bytes size) × (s.value.memory ≡ 0) × (memory ≡ true)

-- the size of the index of memory 0, where `memory` is so
abbrev pub SizesMemoryIndex : Bool → List ℕ → Option ℕ → Type 0
SizesMemoryIndex memory bytes None = Unit {0}
SizesMemoryIndex memory bytes (Some size) = (left : List ℕ) × (bytes ≡ 0 ∷ left) × (size ≡ 1) × (memory ≡ true)

-- bytes begin with the texts of so many numbers of 32 bits, and these numbers are read
pub record AreNumbers (count : ℕ) (bytes left : List ℕ) : Type 0 where
  pub numbers : List ℕ
  pub read_is : items_at (number_at 32) count bytes ≡ Some (numbers, left)
  pub cut : bytes ≡ flat_map number_text numbers ++ left
  pub count_is : count ≡ length numbers

-- bytes begin with the text of labels and one label after them, of so many bytes, and these are read
pub record IsLabelsSize (bytes : List ℕ) (size : ℕ) : Type 0 where
  pub labels : List ℕ
  pub others : ℕ
  pub left : List ℕ
  pub read_is : immediates_at form_labels bytes ≡ Some (WithLabels labels others, left)
  pub cut : bytes ≡ immediates_text (WithLabels labels others) ++ left
  pub size_is : size ≡ length (immediates_text (WithLabels labels others))

abbrev pub SizesLabels : List ℕ → Option ℕ → Type 0
SizesLabels bytes None = Unit {0}
SizesLabels bytes (Some size) = IsLabelsSize bytes size

-- no fewer bytes than so many, ten at most, spell the number
abbrev pub IsShortest : ℕ → ℕ → Type 0
IsShortest number size = 1 < size → (size ≤ 10) × (2 ^ (7 * (size - 1)) ≤ number)

-- fewer bytes than so many, or than ten, spell the number
abbrev pub IsLonger : ℕ → ℕ → Type 0
IsLonger number size = (1 < size) × ((10 < size) ⊎ (number < 2 ^ (7 * (size - 1))))

-- the number, or -1 less the number where that is negative: the bits of its text besides the sign
abbrev pub without_sign : ℤ → ℕ
without_sign (pos n) = n
without_sign (negsuc m) = m

-- no fewer bytes than so many, ten at most, spell the signed number
abbrev pub IsShortestSigned : ℤ → ℕ → Type 0
IsShortestSigned number size = 1 < size → (size ≤ 10) × (2 ^ (7 * (size - 1) - 1) ≤ without_sign number)
