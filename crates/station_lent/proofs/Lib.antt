pub mod StationLaws
