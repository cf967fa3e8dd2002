pub mod Apart
pub mod Cuts
pub mod Growing
pub mod Placed
pub mod Refusing
pub mod Standing
