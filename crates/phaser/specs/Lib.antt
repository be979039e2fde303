pub mod Allpass
pub mod Phaser
