mod Above
mod Changing
mod ElementLemmas
mod Halving
mod Merging
mod Reading
mod Sorting
