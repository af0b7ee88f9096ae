-- Words of contracts of private functions. No contract of a public function cites these, directly or through others.
pub mod EncoderAnswers
pub mod AskedKeys
pub mod ModuleAnswers
pub mod OptionTables
pub mod PlannedAnswers
pub mod RecordAnswers
pub mod Refusals
pub mod RequiredFunctions
pub mod TrimArguments
pub mod WorldAnswers
