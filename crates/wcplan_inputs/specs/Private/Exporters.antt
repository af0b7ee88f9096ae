-- The functions of a key of a world's exports, with their texts as bytes.
use Rattle.std.specs.Prelude.{map, string_bytes}
use Rattle.std.specs.Option.{option_map}
use Rattle.wc_maps.specs.Texts.{text_of}
use Rattle.wcplan_inputs.specs.Exporters.{KeyFunctions}
use Rattle.wcplan_inputs.specs.declared.exporters.KeyFunctions.{KeyFunctions as Functions}

abbrev pub key_functions_view : Functions → KeyFunctions
key_functions_view k = record {
  interface = option_map text_of k.interface;
  canonical = option_map string_bytes k.canonical;
  functions = map text_of k.functions.items;
}
