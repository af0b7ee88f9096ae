-- The first roots of items, by numbers.
use Rattle.std.specs.Prelude.{◌≡◌, ◌≢◌, ℕ, ◌<◌, ◌≤◌, Bool, true, false, List, length, nat_lt, set, slice_index_or, MatchOption, Option, Some, None}
use Rattle.std.specs.List.{slice_get}
use Rattle.std.specs.Option.{option_map}
use Rattle.wc_why.specs.Lists.{IsFirstRoot}
use Rattle.wc_why.specs.Part.{BeginView, PartView}
use Rattle.wc_why.specs.Private.Numbers.{number_of, place_of, total}
use Rattle.wc_why.specs.declared.numbers.Numbers.{Numbers}

-- the first root with an item; none, where none has it
abbrev pub IsFirstOf : List BeginView → ℕ → Option ℕ → Type 0
IsFirstOf begins item first =
    MatchOption first ((j : ℕ) (c : BeginView) → slice_get begins j ≡ Some c → c.item ≢ item) (λ k. (b : BeginView) × IsFirstRoot begins item k b)

-- whether a root is of an earlier list than another one, or there is no other
abbrev pub list_at : List BeginView → ℕ → Option ℕ
list_at begins k = option_map (λ (b : BeginView). b.list) (slice_get begins k)

abbrev pub is_less : Option ℕ → Option ℕ → Bool
is_less None other = true
is_less (Some list) None = true
is_less (Some list) (Some other) = nat_lt list other

abbrev pub is_before : List BeginView → ℕ → Option ℕ → Bool
is_before begins k None = true
is_before begins k (Some other) = is_less (list_at begins k) (list_at begins other)

-- a root was noted at a number, if it is of an earlier list than the one there
pub record IsBeginNoted (begins : List BeginView) (k x : ℕ) (old new : List (Option ℕ)) : Type 0 where
  pub before : is_before begins k (slice_index_or old x None) ≡ true → new ≡ set old x (Some k)
  pub kept : is_before begins k (slice_index_or old x None) ≡ false → new ≡ old

-- the same, at the number of its item, if it has one
pub record IsRootNoted (n : Numbers) (y : ℕ × ℕ) (begins : List BeginView) (k : ℕ) (old new : List (Option ℕ)) : Type 0 where
  pub none : number_of n y ≡ None → new ≡ old
  pub some : (x : ℕ) → number_of n y ≡ Some x → IsBeginNoted begins k x old new

-- for the numbers of the items of a part
pub record AreFirstsOf (n : Numbers) (p : ℕ) (begins : List BeginView) (old new : List (Option ℕ)) : Type 0 where
  pub each : length new ≡ length old
  pub own : (x : ℕ) (first : Option ℕ) → (place_of n x).0 ≡ p → slice_get new x ≡ Some first → IsFirstOf begins (place_of n x).1 first
  pub others : (x : ℕ) → (place_of n x).0 ≢ p → slice_get new x ≡ slice_get old x

-- for all numbers, of the parts below a position; of the others there are none
pub record AreFirstsTo (parts : List PartView) (n : Numbers) (count : ℕ) (firsts : List (Option ℕ)) : Type 0 where
  pub each : length firsts ≡ total n
  pub at : (x : ℕ) (first : Option ℕ) (part : PartView) → (place_of n x).0 < count → slice_get parts (place_of n x).0 ≡ Some part → slice_get firsts x ≡ Some first
      → IsFirstOf part.begins (place_of n x).1 first
  pub none_yet : (x : ℕ) (first : Option ℕ) → count ≤ (place_of n x).0 → slice_get firsts x ≡ Some first → first ≡ None

abbrev pub AreFirsts : List PartView → Numbers → List (Option ℕ) → Type 0
AreFirsts parts n firsts = AreFirstsTo parts n (length parts) firsts
