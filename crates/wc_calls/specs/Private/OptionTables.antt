-- Words of contracts of private functions. No contract of a public function cites these, directly or through others.
-- What options a table has, and a message.
use Rattle.std.specs.Prelude.{ℕ, map, String, string_bytes}
use Rattle.std.specs.declared.alloc.Global.{Global}
use Rattle.wc_json.specs.Messages.{options_message_view}
use Rattle.wc_json.specs.declared.messages.OptionsMessage.{OptionsMessage}
use Rattle.wc_world.specs.Options.{OptionsOf}
use Rattle.wc_world.specs.declared.options.RequiredOptions.{RequiredOptions}
use Rattle.wc_calls.specs.ImportOptions.{NamedOptions, first_options, named_options}
use Rattle.wc_calls.specs.declared.import_options.OptionTable.{OptionTable}

abbrev pub bits_of : RequiredOptions → ℕ
bits_of o = o.0

abbrev pub table_entry : String Global × RequiredOptions → NamedOptions
table_entry e = (string_bytes e.0, bits_of e.1)

-- the options of a message, as an entry of the table is seen
abbrev pub message_entry : OptionsMessage → NamedOptions
message_entry m = named_options (options_message_view m)

abbrev pub table_options : OptionTable → OptionsOf
table_options t = first_options (map table_entry t.by_name.entries)
