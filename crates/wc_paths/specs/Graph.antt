-- A module with its segments, as a graph that is searched.
use Rattle.wc_read.specs.Decoded.{decoded_module}
use Rattle.wc_segments.specs.Segments.{segments_value}
use Rattle.wc_paths.specs.Items.{GraphValue}
use Rattle.wc_paths.specs.declared.graph.ModuleGraph.{ModuleGraph}

abbrev pub graph_value : ModuleGraph → GraphValue
graph_value g = record { code = decoded_module g.«module».now; segments = segments_value g.segments.now }
