pub mod Picked
pub mod Places
pub mod Mapped
pub mod Members
pub mod Options
pub mod Walking
pub mod Zips
