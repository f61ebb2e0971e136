-- Laws of writing that the functions' proofs share.
pub mod PutLaws
pub mod RoomLaws
pub mod LinesLaws
pub mod SpacedLaws
pub mod OutputLaws
