-- What the document says of one race: its groups with their places, and each boat's part in it.
pub use Rattle.regatta_scores.specs.Details.{PlacedGroup, placed_groups, twenty_percent_of}
pub use Rattle.regatta_scores.specs.Details.{number_came, base, status_code}
