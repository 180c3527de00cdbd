mod Blocks
mod StatementsSame
