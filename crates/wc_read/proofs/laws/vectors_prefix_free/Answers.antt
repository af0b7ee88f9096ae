use Rattle.wc_read.specs.Types.{SpellsValType}
use Rattle.wc_read.specs.Reading.Types.{val_type_at}
use Rattle.wc_read.specs.Reading.Reader.{number_at}
use Rattle.wc_read.specs.Reading.Imports.{import_at}
use Rattle.wc_read.specs.Reading.Limits.{table_at, memory_at}
use Rattle.wc_read.proofs.TypesLemmas.{val_type_meets}
use Rattle.wc_read.specs.Formats.{SpellsNumber}
use Rattle.wc_read.proofs.MeetsLemmas.{number_meets}
use Rattle.wc_read.specs.Contents.{SpellsFuncType, SpellsSizePrefixed}
use Rattle.wc_read.specs.Reading.Contents.{func_type_at, size_prefixed_at}
use Rattle.wc_read.specs.Reading.Exports.{export_at}
use Rattle.wc_read.proofs.ContentsLemmas.{func_type_meets, size_prefixed_meets}
use Rattle.wc_read.specs.Imports.{SpellsImport}
use Rattle.wc_read.proofs.ImportsLemmas.{import_meets}
use Rattle.wc_read.specs.Limits.{SpellsTable, SpellsMemory}
use Rattle.wc_read.proofs.LimitsLemmas.{table_meets, memory_meets}
use Rattle.wc_read.specs.Globals.{SpellsLocalGlobal}
use Rattle.wc_read.specs.Reading.Globals.{local_global_at}
use Rattle.wc_read.proofs.GlobalsLemmas.{local_global_meets}
use Rattle.wc_read.specs.Exports.{SpellsExport}
use Rattle.wc_read.proofs.ExportsLemmas.{export_meets}
use Rattle.wc_read.specs.Bodies.{SpellsLocals}
use Rattle.wc_read.specs.Reading.Bodies.{locals_at}
use Rattle.wc_read.proofs.BodiesLemmas.{locals_meet}
use Rattle.wc_read.specs.Names.{SpellsGlobalName}
use Rattle.wc_read.specs.Reading.Names.{global_name_at}
use Rattle.wc_read.proofs.NamesLemmas.{global_name_meets}
use Rattle.wc_read.specs.Producers.{SpellsField}
use Rattle.wc_read.specs.Reading.Producers.{field_at}
use Rattle.wc_read.proofs.ProducersLemmas.{field_meets}
use Rattle.wc_read.proofs.FormatLemmas.{vectors_prefix_free}
use Rattle.wc_read.proofs.laws.vectors_prefix_free.Goals as goal

pub returns-clause-value_types : goal.returns-clause-value_types
returns-clause-value_types c = vectors_prefix_free SpellsValType val_type_at val_type_meets

pub returns-clause-indices : goal.returns-clause-indices
returns-clause-indices c = vectors_prefix_free (SpellsNumber 32) (number_at 32) (number_meets 32)

pub returns-clause-function_types : goal.returns-clause-function_types
returns-clause-function_types c = vectors_prefix_free SpellsFuncType func_type_at func_type_meets

pub returns-clause-imports : goal.returns-clause-imports
returns-clause-imports c = vectors_prefix_free SpellsImport import_at import_meets

pub returns-clause-tables : goal.returns-clause-tables
returns-clause-tables c = vectors_prefix_free SpellsTable table_at table_meets

pub returns-clause-memories : goal.returns-clause-memories
returns-clause-memories c = vectors_prefix_free SpellsMemory memory_at memory_meets

pub returns-clause-globals : goal.returns-clause-globals
returns-clause-globals c = vectors_prefix_free SpellsLocalGlobal local_global_at local_global_meets

pub returns-clause-exports : goal.returns-clause-exports
returns-clause-exports c = vectors_prefix_free SpellsExport export_at export_meets

pub returns-clause-bodies : goal.returns-clause-bodies
returns-clause-bodies c = vectors_prefix_free SpellsSizePrefixed size_prefixed_at size_prefixed_meets

pub returns-clause-locals : goal.returns-clause-locals
returns-clause-locals c = vectors_prefix_free SpellsLocals locals_at locals_meet

pub returns-clause-global_names : goal.returns-clause-global_names
returns-clause-global_names c = vectors_prefix_free SpellsGlobalName global_name_at global_name_meets

pub returns-clause-producers : goal.returns-clause-producers
returns-clause-producers c = vectors_prefix_free SpellsField field_at field_meets
