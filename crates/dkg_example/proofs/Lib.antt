mod Due
mod Heard
mod Held
mod Opening
mod Recording
mod Short
