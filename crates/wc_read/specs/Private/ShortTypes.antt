-- Types that are put into places of a list.
use Rattle.std.specs.Prelude.{◌≡◌, ℕ, ◌+◌, ◌<◌, ◌≤◌, List, length, slice_index_or, Some}
use Rattle.wc_read.specs.Reading.Reader.{vector_at}
use Rattle.wc_read.specs.Reading.Types.{val_type_at}
use Rattle.wc_read.specs.declared.types.ValType.{ValType}

-- values are in the places from one on, and those before it are as they were
pub record IsPut (from : ℕ) (values before after : List ValType) : Type 0 where
  pub places : length after ≡ length before
  pub kept : (k : ℕ) (d : ValType) → k < from → slice_index_or after k d ≡ slice_index_or before k d
  pub put : (k : ℕ) (d : ValType) → k < length values → slice_index_or after (from + k) d ≡ slice_index_or values k d

-- so many value types were read that bytes begin with, and put into places, of which there are four
pub record HasRead (from : ℕ) (bytes left : List ℕ) (before after : List ValType) (count : ℕ) : Type 0 where
  pub types : List ValType
  pub read : vector_at val_type_at bytes ≡ Some (types, left)
  pub many : count ≡ length types
  pub within : from + count ≤ 4
  pub placed : IsPut from types before after
