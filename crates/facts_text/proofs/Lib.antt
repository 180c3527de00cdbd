mod Folds
mod Places
mod Sizes
