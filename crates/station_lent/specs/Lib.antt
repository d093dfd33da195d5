pub mod StationBytes
