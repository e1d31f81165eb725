mod Elements
mod PieceOrder
mod Marks
mod SparseLists
mod PieceNumbers
mod Passing
mod SiteList
mod OpenList
mod Numbered
mod PointStmts
mod Outcomes
mod PointPlaces
mod FewOpens
pub mod Limits
mod GatheredPoints
mod ChosenPlaces
mod Counts
pub mod Costs
pub mod Suiting
pub mod FittingStmts
pub mod Measurable
pub mod Starting
