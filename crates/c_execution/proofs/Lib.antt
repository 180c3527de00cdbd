pub mod ExecLaws
pub mod SizeLaws
