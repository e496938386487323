pub mod FrameNotes
pub mod Frames
pub mod LayerFrames
pub mod Notes
pub mod Sets
pub mod Units
