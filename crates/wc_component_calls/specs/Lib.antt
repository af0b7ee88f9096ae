pub mod ComponentFault
pub mod FaultAnswers
pub mod ImportsCall
pub mod KnownImports
pub mod PathsCall
pub mod Places
pub mod Private
