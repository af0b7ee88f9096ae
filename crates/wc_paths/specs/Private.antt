pub mod Roots
pub mod CallLists
pub mod EqualTypes
pub mod Callers
pub mod BodyNames
