mod Folds
mod Loops
mod Places
mod Examples
mod Sizes
