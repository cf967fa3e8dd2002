pub mod Core
pub mod Laws
