pub mod EveryBoat
pub mod FaultFacts
pub mod LapFacts
pub mod OrderFacts
pub mod RoundingFacts
pub mod SheetFacts
pub mod TextFacts
