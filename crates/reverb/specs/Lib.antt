pub mod Tunings
pub mod Freeverb
pub mod Tank
pub mod Reverb
