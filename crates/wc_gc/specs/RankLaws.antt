-- The ranks of kept items and of what is added: what they leave of the order, and that no two items have the same.
use Rattle.std.specs.Prelude.{◌≡◌, ℕ, ◌+◌, ◌<◌, Bool, true, cond, nat_lt, length}
use Rattle.wc_read.specs.declared.operators.Space.{Space}
use Rattle.wc_read.specs.declared.operators.Space.TheVariants.{Types, Funcs, Tables, Memories, Globals}
use Rattle.wc_gc.specs.Edit.{EditedModule}
use Rattle.wc_gc.specs.EditedImage.{edited_rank, is_kept_import, is_kept_defined}

-- whether the image has an item: one that is kept, or one that is added
abbrev pub is_in_image : EditedModule → Space → ℕ → Bool
is_in_image e Types n =
    cond (nat_lt n (length e.value.types)) (e.kept (Types, n)) (nat_lt n (length e.value.types + length e.types))
is_in_image e Funcs n =
    cond (nat_lt n (length e.value.funcs)) (e.kept (Funcs, n))
    (nat_lt n (length e.value.funcs + (length e.imports + length e.funcs)))
is_in_image e Tables n = e.kept (Tables, n)
is_in_image e Memories n = e.kept (Memories, n)
is_in_image e Globals n = e.kept (Globals, n)

-- items of a set are in their old order under new indices
abbrev pub KeepsOrder : (ℕ → Bool) → (ℕ → ℕ) → Type 0
KeepsOrder has new = (a b : ℕ) → has a ≡ true → has b ≡ true → a < b → new a < new b

-- ranks leave each space in its order; of functions those that are imported, and those that are defined
pub record RanksKeepOrder (e : EditedModule) : Type 0 where
  pub types : KeepsOrder (is_in_image e Types) (edited_rank e Types)
  pub imports : KeepsOrder (is_kept_import e) (edited_rank e Funcs)
  pub defined : KeepsOrder (is_kept_defined e) (edited_rank e Funcs)
  pub tables : KeepsOrder (is_in_image e Tables) (edited_rank e Tables)
  pub memories : KeepsOrder (is_in_image e Memories) (edited_rank e Memories)
  pub globals : KeepsOrder (is_in_image e Globals) (edited_rank e Globals)

-- no two items of a space have the same rank
abbrev pub RanksDiffer : EditedModule → Type 0
RanksDiffer e = (space : Space) (a b : ℕ) → is_in_image e space a ≡ true → is_in_image e space b ≡ true →
    edited_rank e space a ≡ edited_rank e space b →
    a ≡ b
