-- Laws of columns and cells, of the events from one on, and of kept pairs; and that a capture's cells are found so.
pub mod Columns
pub mod Storing
pub mod Events
pub mod Commands
pub mod Cut
pub mod Interrupting
pub mod Looking
mod Searching
pub mod Ahead
pub mod Sums
