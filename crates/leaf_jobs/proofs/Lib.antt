mod Meets
mod Order
mod Fronts
mod FrontStatuses
mod Walks
mod Pairs
mod Whole
