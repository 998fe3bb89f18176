-- The summary of a part answers as the part does, and the summary of the next part is the next summary.
pub mod Laid
pub mod Tests
pub mod Clock
pub mod Sleeping
pub mod Bursts
pub mod LastWrite
pub mod Rules
pub mod Low
pub mod Cut
pub mod Next
pub mod Stays
pub mod Kept
pub mod Turn
