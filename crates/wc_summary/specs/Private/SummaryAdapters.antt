-- What a module that is trimmed imports of interfaces, by their positions.
use Rattle.std.specs.Prelude.{◌≡◌, ℕ, ◌+◌, false, List, [], length, map, Option}
use Rattle.wc_read.specs.Modules.{ModuleValue}
use Rattle.wc_paths.specs.Items.{GraphValue, counts_of, graph_of}
use Rattle.wc_paths.specs.Numbers.{numbers_in}
use Rattle.wc_graph.specs.Alone.{AreAlone}
use Rattle.wc_graph.specs.Leads.{AreLeads}
use Rattle.wc_graph.specs.Positions.{sets_view}
use Rattle.wc_summary.specs.Leads.{own_bodies}
use Rattle.wc_summary.specs.Private.Leads.{source_in}
use Rattle.wc_summary.specs.Private.SummaryMain.{AreOwnersOf}
use Rattle.wc_summary.specs.Private.Tags.{ArePlacesCounted}
use Rattle.wc_summary.specs.declared.uses.Uses.{Uses}

-- the graph of a module without segments
abbrev pub graph_alone : ModuleValue → GraphValue
graph_alone m = graph_of m (record { elements = []; data_segments = [] })

-- what a module imports of so many interfaces, which are at these places for its imports, by the names of required exports
pub record AreUses (m : ModuleValue) (names : List (List ℕ)) (places : List (Option ℕ)) (count : ℕ) (u : Uses) : Type 0 where
  pub trimmed : u.is_library ≡ false
  pub counts : ArePlacesCounted places count u.counts.items
  pub sources : List (Option ℕ)
  pub are_sources : sources ≡ map (source_in (graph_alone m)) names
  pub owners : List (Option ℕ)
  pub are_owners : AreOwnersOf (counts_of (graph_alone m)) m.imports places owners
  pub led : AreLeads (numbers_in (graph_alone m)) sources owners count (sets_view u.led.items)
  pub alone : AreAlone (numbers_in (graph_alone m)) sources (map (λ (b : ℕ × ℕ). ((counts_of (graph_alone m)).types + b.0, b.1)) (own_bodies m.funcs))
      (sets_view u.led.items) u.alone.items

-- what is used of a graph: by the items of sources and of owners, by its bodies, and by how many imports are of each interface
pub record UsesGraph (g : GraphValue) (things : List (Option ℕ) × List (Option ℕ)) (bodies : List (ℕ × ℕ)) (counts : List ℕ) (u : Uses) : Type 0 where
  pub trimmed : u.is_library ≡ false
  pub counts_are : u.counts.items ≡ counts
  pub led : AreLeads (numbers_in g) things.0 things.1 (length counts) (sets_view u.led.items)
  pub alone : AreAlone (numbers_in g) things.0 bodies (sets_view u.led.items) u.alone.items
