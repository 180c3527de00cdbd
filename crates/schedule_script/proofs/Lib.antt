pub mod Forms
mod Depths
mod Loops
mod Relations
mod Parts
mod Following
mod IndexLaws
mod ArgumentLaws
mod StepLaws
mod ScriptLaws
mod Bytes
pub mod WholeLaws
