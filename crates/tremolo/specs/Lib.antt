pub mod Tremolo
