-- Commands.
use Rattle.std.specs.Prelude.{ℕ, Bool, List, map, Option}
use Rattle.std.specs.Option.{option_map}
use Rattle.wc_maps.specs.Texts.{text_of, text_pair}
use Rattle.wcplan_inputs.specs.declared.arguments.Command.{Command}

-- a command, with its texts as bytes
pub record CommandView : Type 0 where
  pub worlds : List ℕ
  pub world : Option (List ℕ)
  pub main : List ℕ
  pub adapters : List (List ℕ × List ℕ)
  pub exports : List (List ℕ)
  pub adapter_exports : List (List ℕ × List ℕ)
  pub reject_legacy_names : Bool
  pub realloc_via_memory_grow : Bool
  pub task_hook : Option (List ℕ)
  pub json : Bool
  pub why : Option (List ℕ)
  pub dot : Bool
  pub imports : Bool
  pub out : Option (List ℕ)

abbrev pub command_view : Command → CommandView
command_view c = record {
  worlds = c.worlds.now;
  world = option_map text_of c.world;
  main = c.main.now;
  adapters = map text_pair c.adapters.items;
  exports = map text_of c.exports.items;
  adapter_exports = map text_pair c.adapter_exports.items;
  reject_legacy_names = c.reject_legacy_names;
  realloc_via_memory_grow = c.realloc_via_memory_grow;
  task_hook = option_map text_of c.task_hook;
  json = c.json;
  why = option_map text_of c.why;
  dot = c.dot;
  imports = c.imports;
  out = option_map text_of c.out;
}
