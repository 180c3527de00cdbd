pub mod WordTensors
