pub mod ReceiverLaws
pub mod ReadBack
pub mod RunLaws
pub mod Stretches
