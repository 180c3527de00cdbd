mod Pieces
mod Lengths
