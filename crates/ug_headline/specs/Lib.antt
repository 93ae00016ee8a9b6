pub mod Rules
pub mod Devices
pub mod Headline
pub mod Seeing
pub mod Silence
pub mod Defaults
