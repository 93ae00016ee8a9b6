pub mod Members
pub mod Sorting
pub mod LivePlaces
pub mod Policies
