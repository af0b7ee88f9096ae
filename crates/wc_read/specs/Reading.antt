-- What readers do: reading functions, from bytes to what a reader makes of those at the front and the bytes that it
-- leaves, and other words of their contracts. A file is named after the source file of the readers. Of public functions
-- those of `Reader`, `Spelled`, `section_items` and `is_typed_init` cite these; what the others read is stated by the
-- relations of `specs/`.
pub mod Reader
pub mod Signed
pub mod Types
pub mod Limits
pub mod Imports
pub mod Framing
pub mod Exports
pub mod Contents
pub mod Order
pub mod Custom
pub mod Names
pub mod Producers
pub mod Instructions
pub mod Inits
pub mod Globals
pub mod InitTypes
pub mod Nesting
pub mod Frequent
pub mod Bodies
pub mod Validity
