-- What it is to serve requests; and schedules of closed rows, as they were.
pub mod Serving
pub mod ClosedRows
