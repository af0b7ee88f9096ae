-- The state of a search that goes round the items of a way.
use Rattle.std.specs.Prelude.{◌≡◌, ℕ, List, length, vec_len, Option}
use Rattle.wc_graph.specs.Private.Ways.{IsFront}
use Rattle.wc_graph.specs.Private.Search.{IsConsistent}
use Rattle.wc_graph.specs.declared.fronts.Front.{Front}

-- its parts are of one graph
pub record IsReady (f : Front) (size : ℕ) : Type 0 where
  pub consistent : IsConsistent f.search
  pub sized : vec_len f.search.seen ≡ size
  pub each : length f.positions.items ≡ size

-- it has found the roots and passed none
pub record BeginsFront (names : ℕ → List ℕ) (roots : List ℕ) (positions : List (Option ℕ)) (f : Front) : Type 0 where
  pub same : f.positions.items ≡ positions
  pub front : (way : List ℕ) → IsFront names roots way positions 0 f.search.order.items f.next f.last

-- it stops where it did, and whatever the roots and the way are, and so many of its items opened, what held still holds
pub record KeepsFront (names : ℕ → List ℕ) (old new : Front) : Type 0 where
  pub same : new.positions.items ≡ old.positions.items
  pub front : (roots way : List ℕ) (k : ℕ) → IsFront names roots way old.positions.items k old.search.order.items old.next old.last
      → IsFront names roots way old.positions.items k new.search.order.items new.next new.last
