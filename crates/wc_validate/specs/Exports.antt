-- What the exports of a core module mean, and what is recorded of them.
pub mod Map
pub mod FirstExports
pub mod Iter
pub mod Contexts
pub mod Record
