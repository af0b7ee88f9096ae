-- Commands.
use Rattle.std.specs.Prelude.{ℕ, Bool, List, map, Option}
use Rattle.std.specs.Option.{option_map}
use Rattle.wc_maps.specs.Texts.{text_pair}
use Rattle.wc_why.specs.Texts.{text_of}
use Rattle.wc_import_paths.specs.Patterns.{PatternView, pattern_view}
use Rattle.wcwhy.specs.declared.arguments.Command.{Command}

-- a command, with its texts as bytes
pub record CommandView : Type 0 where
  pub source : List ℕ
  pub adapters : List (List ℕ × List ℕ)
  pub adapter_exports : List (List ℕ × List ℕ)
  pub imports : List PatternView
  pub functions : List (List ℕ)
  pub dot : Bool
  pub json : Bool
  pub summary : Bool
  pub allow : Option (List ℕ)
  pub core : Option ℕ
  pub out : Option (List ℕ)
  pub exports : List (List ℕ)

abbrev pub command_view : Command → CommandView
command_view c = record {
  source = c.source.now;
  adapters = map text_pair c.adapters.items;
  adapter_exports = map text_pair c.adapter_exports.items;
  imports = map pattern_view c.imports.items;
  functions = map text_of c.functions.items;
  dot = c.dot;
  json = c.json;
  summary = c.summary;
  allow = option_map text_of c.allow;
  core = c.core;
  out = option_map text_of c.out;
  exports = map text_of c.exports.items;
}
