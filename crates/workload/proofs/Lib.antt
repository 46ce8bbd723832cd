mod Parts
mod Steps
mod Sums
