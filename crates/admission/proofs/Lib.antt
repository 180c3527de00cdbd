mod KeptLaws
mod ShapeLaws
