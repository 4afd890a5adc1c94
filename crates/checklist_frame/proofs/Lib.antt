-- The laws of the frame and of the marks, of pages of which none is muted, and of what is read off a table's slots.
pub mod Unmuted
pub mod Frames
pub mod Slots
