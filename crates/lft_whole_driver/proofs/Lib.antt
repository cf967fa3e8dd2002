mod Gathered
mod Joining
mod Sameness
mod Saying
