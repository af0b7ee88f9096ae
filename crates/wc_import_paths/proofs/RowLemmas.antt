-- What the items of a module name, by its graph, and by its rows.
use Rattle.std.proofs.Common.{◌≡◌, ◌∙◌, ℕ, ◌<◌, List, [], ◌∷◌, ap, subst, sym}
use Rattle.std.specs.Prelude.{All, Contains}
use Rattle.std.proofs.lemmas.List.Elements.{All-contains}
use Rattle.wc_read.specs.Decoded.{decoded_module}
use Rattle.wc_read.specs.Modules.{module_value}
use Rattle.wc_read.specs.declared.core_module.Module.{Module}
use Rattle.wc_segments.specs.Segments.{segments_value}
use Rattle.wc_segments.specs.declared.segments.Segments.{Segments}
use Rattle.wc_graph.specs.Reached.{IsPath, IsReachedFrom}
use Rattle.wc_paths.specs.Counts.{counts_value}
use Rattle.wc_paths.specs.Graph.{graph_value}
use Rattle.wc_paths.specs.Items.{GraphValue, counts_of, graph_of, items_of}
use Rattle.wc_paths.specs.Numbers.{item_at, item_count, numbers_in}
use Rattle.wc_paths.specs.declared.graph.ModuleGraph.{ModuleGraph}
use Rattle.wc_paths.proofs.PathLemmas.{graph_is, numbers_below}
use Rattle.wc_why.specs.Rows.{AreRowsOf, row_in}
use Rattle.wc_why.specs.declared.rows.Rows.{Rows}
use Rattle.wc_import_paths.specs.Rows.{AreRowsFor, is_closed_at}
use Rattle.wc_import_paths.specs.declared.rows.ModuleRows.{ModuleRows}

-- the rows of a graph
module _ (m : Module) (s : Segments) (mg : ModuleGraph) (is : graph_value mg ≡ record { code = decoded_module m; segments = segments_value s }) where
  pub whole_graph : graph_value mg ≡ graph_of (module_value m) (segments_value s)
  whole_graph = is ∙ graph_is m s

  pub counts_are : counts_value mg.counts ≡ counts_of (graph_of (module_value m) (segments_value s))
  counts_are = subst (λ z. counts_value mg.counts ≡ counts_of z) whole_graph mg.counted

  pub rows_are : (r : Rows) → AreRowsOf mg.total (numbers_in (graph_value mg)) (is_closed_at (graph_value mg)) r.starts.items r.names.items r.closed.items
      → AreRowsOf (item_count (counts_of (graph_of (module_value m) (segments_value s)))) (numbers_in (graph_of (module_value m) (segments_value s)))
      (is_closed_at (graph_of (module_value m) (segments_value s))) r.starts.items r.names.items r.closed.items
  rows_are r h =
      subst (λ g. AreRowsOf (item_count (counts_of g)) (numbers_in g) (is_closed_at g) r.starts.items r.names.items r.closed.items) whole_graph
      (subst (λ n. AreRowsOf n (numbers_in (graph_value mg)) (is_closed_at (graph_value mg)) r.starts.items r.names.items r.closed.items)
      (mg.summed ∙ ap item_count mg.counted) h)

-- names that are the same below a number, and stay below it
module _ (names others : ℕ → List ℕ) (size : ℕ) (same : (n : ℕ) → n < size → names n ≡ others n)
    (below : (n : ℕ) → All (λ k. k < size) (others n)) where
  path_over : (x : ℕ) (path : List ℕ) (y : ℕ) → x < size → IsPath names x path y → IsPath others x path y
  path_over x [] y lt e = e
  path_over x (z ∷ zs) y lt (c, p) =
      let there = subst (λ l. Contains l z) (same x lt) c in
      (there, path_over z zs y (All-contains (λ k. k < size) (others x) z (below x) there) p)

  path_back : (x : ℕ) (path : List ℕ) (y : ℕ) → x < size → IsPath others x path y → IsPath names x path y
  path_back x [] y lt e = e
  path_back x (z ∷ zs) y lt (c, p) =
      (subst (λ l. Contains l z) (sym (same x lt)) c, path_back z zs y (All-contains (λ k. k < size) (others x) z (below x) c) p)

  path_end : (x : ℕ) (path : List ℕ) (y : ℕ) → x < size → IsPath others x path y → y < size
  path_end x [] y lt e = subst (λ k. k < size) e lt
  path_end x (z ∷ zs) y lt (c, p) = path_end z zs y (All-contains (λ k. k < size) (others x) z (below x) c) p

  module _ (roots : List ℕ) (within : All (λ k. k < size) roots) (y : ℕ) where
    pub reached_over : IsReachedFrom names roots y → IsReachedFrom others roots y
    reached_over (r, h, path, w) = (r, h, path, path_over r path y (All-contains (λ k. k < size) roots r within h) w)

    pub reached_back : IsReachedFrom others roots y → IsReachedFrom names roots y
    reached_back (r, h, path, w) = (r, h, path, path_back r path y (All-contains (λ k. k < size) roots r within h) w)

    pub reached_within : IsReachedFrom others roots y → y < size
    reached_within (r, h, path, w) = path_end r path y (All-contains (λ k. k < size) roots r within h) w

-- what an item names is there
pub named_below : (g : GraphValue) (n : ℕ) → All (λ k. k < item_count (counts_of g)) (numbers_in g n)
named_below g n = numbers_below (counts_of g) (items_of g (item_at (counts_of g) n))

-- what roots reach, by rows
module _ (g : GraphValue) (r : ModuleRows) (h : AreRowsFor g r) (roots : List ℕ) (within : All (λ k. k < item_count (counts_of g)) roots) (n : ℕ) where
  abbrev in_rows : ℕ → List ℕ
  in_rows = row_in r.rows.starts.items r.rows.names.items

  pub rows_over : IsReachedFrom in_rows roots n → IsReachedFrom (numbers_in g) roots n
  rows_over = reached_over in_rows (numbers_in g) (item_count (counts_of g)) h.are.named (named_below g) roots within n

  pub rows_back : IsReachedFrom (numbers_in g) roots n → IsReachedFrom in_rows roots n
  rows_back = reached_back in_rows (numbers_in g) (item_count (counts_of g)) h.are.named (named_below g) roots within n

  pub rows_within : IsReachedFrom (numbers_in g) roots n → n < item_count (counts_of g)
  rows_within = reached_within in_rows (numbers_in g) (item_count (counts_of g)) h.are.named (named_below g) roots within n
