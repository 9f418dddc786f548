use Rattle.std.proofs.Common.{◌≡◌, drop}
use Rattle.regatta_times.specs.Ratings.{handicap_for}
use Rattle.regatta_times.proofs.ratings.handicap_for.Given as goal

-- she isn't among the boats so far
abbrev pub invariant-loop-boat : goal.invariant-loop-boat
invariant-loop-boat l = handicap_for l.sail (drop l.boat-index l.ratings)
    ≡ handicap_for l.sail l.ratings
