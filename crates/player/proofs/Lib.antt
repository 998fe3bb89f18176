-- Laws of the player: lanes, the window as what cells hold, the two walks, and the way from a capture's bytes to them.
mod Lanes
pub mod Window
mod Loops
mod Given
mod Trying
pub mod Running
pub mod Calling
