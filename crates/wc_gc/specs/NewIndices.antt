-- The new indices of live items, and of what is added.
use Rattle.std.specs.Prelude.{◌≡◌, ℕ, ◌+◌, ◌-◌, ◌<◌, ◌^◌, Bool, cond, nat_lt}
use Rattle.wc_read.specs.Renumbering.{Renumbering}
use Rattle.wc_read.specs.declared.operators.Space.TheVariants.{Types, Funcs, Tables, Memories, Globals}
use Rattle.wc_gc.specs.Counts.{count_below}
use Rattle.wc_read.specs.Decoded.{ItemIndex}
use Rattle.wc_gc.specs.Ranks.{rank_of, has_number}
use Rattle.wc_gc.specs.declared.new_indices.Counts.{Counts}
use Rattle.wc_gc.specs.declared.new_indices.NewIndices.{NewIndices}
use Rattle.wc_gc.specs.declared.new_indices.SpaceRanks.{SpaceRanks}

-- ranks are those of kept items, and of functions in two groups
pub record AreRanksOf (kept : ItemIndex → Bool) (is_import is_defined : ℕ → Bool) (r : SpaceRanks) : Type 0 where
  pub types : has_number r.types ≡ (λ n. kept (Types, n))
  pub imports : has_number r.imports ≡ is_import
  pub defined : has_number r.defined ≡ is_defined
  pub tables : has_number r.tables ≡ (λ n. kept (Tables, n))
  pub memories : has_number r.memories ≡ (λ n. kept (Memories, n))
  pub globals : has_number r.globals ≡ (λ n. kept (Globals, n))

-- what is live and what is added have indices of 32 bits
abbrev pub HasRoom : SpaceRanks → Counts → Type 0
HasRoom r c =
    (rank_of r.types c.types + c.added_types < 2 ^ 32)
    × (rank_of r.imports c.funcs + rank_of r.defined c.funcs + (c.added_imports + c.added_funcs) < 2 ^ 32)

-- live items and what is added have indices of 32 bits, by what is live
abbrev pub HasRoomFor : (ItemIndex → Bool) → (ℕ → Bool) → (ℕ → Bool) → Counts → Type 0
HasRoomFor kept is_import is_defined c =
    (count_below (λ n. kept (Types, n)) c.types + c.added_types < 2 ^ 32)
    × (count_below is_import c.funcs + count_below is_defined c.funcs + (c.added_imports + c.added_funcs) < 2 ^ 32)

abbrev pub new_type : NewIndices → ℕ → ℕ
new_type n x = cond (nat_lt x n.counts.types) (rank_of n.ranks.types x) (n.live_types + (x - n.counts.types))

abbrev pub new_old_func : NewIndices → ℕ → ℕ
new_old_func n x =
    cond (has_number n.ranks.imports x) (rank_of n.ranks.imports x) (n.live_imports + n.counts.added_imports + rank_of n.ranks.defined x)

abbrev pub new_added_func : NewIndices → ℕ → ℕ
new_added_func n k = cond (nat_lt k n.counts.added_imports) (n.live_imports + k) (n.live_imports + n.live_defined + k)

abbrev pub new_func_index : NewIndices → ℕ → ℕ
new_func_index n x = cond (nat_lt x n.counts.funcs) (new_old_func n x) (new_added_func n (x - n.counts.funcs))

-- the new index of each item
unfoldable pub new_of : NewIndices → Renumbering
new_of n Types x = new_type n x
new_of n Funcs x = new_func_index n x
new_of n Tables x = rank_of n.ranks.tables x
new_of n Memories x = rank_of n.ranks.memories x
new_of n Globals x = rank_of n.ranks.globals x
