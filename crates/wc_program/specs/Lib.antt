pub mod Files
pub mod Output
pub mod Screen
pub mod Program
