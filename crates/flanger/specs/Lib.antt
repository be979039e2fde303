pub mod Flanger
