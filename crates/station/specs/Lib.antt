pub mod Stations
pub mod Benches
pub mod StationLowest
