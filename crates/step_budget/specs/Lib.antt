pub mod Budget
pub mod Drawing
