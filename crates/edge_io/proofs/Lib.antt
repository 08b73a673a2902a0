pub mod Reading
pub mod SlotMaps
pub mod ShelfLaws
