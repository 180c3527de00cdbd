mod BlockLaws
mod ListedLaws
mod RunLaws
mod StepLaws
