mod Counts
mod Misses
mod Reading
