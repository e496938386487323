-- The units that each codec sends.
pub mod Av1Units
pub mod BuiltInRuns
pub mod DescribedUnits
pub mod OnePacketUnits
pub mod PieceUnits
pub mod SameUnits
pub mod SendsUnits
pub mod StreamLemmas
pub mod StreamStart
pub mod UnitIds
pub mod UnitRows
pub mod UnitTimes
pub mod UnitValues
pub mod Vp8Units
pub mod Vp9Units
