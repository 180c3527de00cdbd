pub mod TensorLaws
