mod Firsts
mod Turned
mod Numbered
mod Saying
