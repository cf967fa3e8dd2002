pub mod Progresses
pub mod Parted
