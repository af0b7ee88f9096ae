-- The characters of names, and the track of a version.
use Rattle.std.specs.Prelude.{◌≡◌, ◌≢◌, ℕ, ◌⊎◌, zero, suc, List, [], ◌∷◌, ◌++◌, All, Option, option_copied}
use Rattle.std.specs.Borrow.{Bor}
use Rattle.std.specs.Fmt.{decimal}
use Rattle.wc_texts.specs.Finds.{Finds}
use Rattle.wc_texts.specs.Characters.{hyphen, full_stop, digit_zero, opening_bracket, closing_bracket, IsSmallLetter, IsCapitalLetter, IsDigit}

-- a small letter, a capital letter, a digit or a hyphen
abbrev pub IsNameCharacter : ℕ → Type 0
IsNameCharacter c = IsSmallLetter c ⊎ (IsCapitalLetter c ⊎ (IsDigit c ⊎ (c ≡ hyphen)))

-- a character of a name, a bracket or a full stop
abbrev pub IsFunctionCharacter : ℕ → Type 0
IsFunctionCharacter c = IsNameCharacter c ⊎ ((c ≡ opening_bracket) ⊎ ((c ≡ closing_bracket) ⊎ (c ≡ full_stop)))

unfoldable pub IsName : List ℕ → Type 0
IsName text = (text ≢ []) × All IsNameCharacter text

unfoldable pub IsFunctionName : List ℕ → Type 0
IsFunctionName text = (text ≢ []) × All IsFunctionCharacter text

-- what is left of a text that begins in this way; `None` where it does not
abbrev pub IsLeftAfter : List ℕ → (List ℕ → List ℕ) → Option (Bor (List ℕ)) → Type 0
IsLeftAfter text begin left =
    Finds (option_copied left) (λ rest. text ≡ begin rest)

-- a version without its build
abbrev pub full_version : ℕ → ℕ → ℕ → List ℕ → List ℕ
full_version major minor patch [] =
    decimal major ++ (full_stop ∷ (decimal minor ++ (full_stop ∷ decimal patch)))
full_version major minor patch (c ∷ pre) =
    decimal major ++ (full_stop ∷ (decimal minor ++ (full_stop ∷ (decimal patch ++ (hyphen ∷ c ∷ pre)))))

-- the track of a release
abbrev pub release_track : ℕ → ℕ → ℕ → List ℕ
release_track zero zero patch = full_version 0 0 patch []
release_track zero (suc minor) patch = digit_zero ∷ full_stop ∷ decimal (suc minor)
release_track (suc major) minor patch = decimal (suc major)

-- the track of a version's numbers, prerelease and build
abbrev pub track : ℕ × ℕ × ℕ × List ℕ × List ℕ → List ℕ
track (major, minor, patch, [], build) = release_track major minor patch
track (major, minor, patch, (c ∷ pre), build) = full_version major minor patch (c ∷ pre)
