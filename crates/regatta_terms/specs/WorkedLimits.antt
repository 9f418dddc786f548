-- The limits as numbers.
use Rattle.std.specs.Prelude.{◌≡◌, refl}
use Rattle.regatta_terms.specs.declared.limits.TheConstants.{MAX_BOATS, MAX_RACES, MAX_ENTRIES}
use Rattle.regatta_terms.specs.declared.limits.TheConstants.{MAX_PENALTIES, MAX_SCP_POINTS}
use Rattle.regatta_terms.specs.declared.limits.TheConstants.{MAX_LINE, MAX_SEATS}

pub boats_at_most : MAX_BOATS ≡ 500
boats_at_most = refl

pub races_at_most : MAX_RACES ≡ 40
races_at_most = refl

pub entries_at_most : MAX_ENTRIES ≡ 8192
entries_at_most = refl

pub penalties_at_most : MAX_PENALTIES ≡ 9
penalties_at_most = refl

pub points_of_a_scoring_penalty_at_most : MAX_SCP_POINTS ≡ 99
points_of_a_scoring_penalty_at_most = refl

pub bytes_of_a_line_at_most : MAX_LINE ≡ 80
bytes_of_a_line_at_most = refl

pub seats_at_most : MAX_SEATS ≡ 16
seats_at_most = refl
