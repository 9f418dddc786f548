-- The rows of the document.
use Rattle.std.specs.Prelude.{ℕ, List, ◌++◌, codes, decimal, Option, Some, None}
use Rattle.regatta_terms.specs.declared.command.Code.{Code}
use Rattle.regatta_terms.specs.declared.command.Redress as redress_type
use Rattle.regatta_terms.specs.declared.command.Redress.TheVariants.{Points, AllRaces, RacesBefore}
use Rattle.regatta_terms.specs.declared.rules.Absent.{Absent}
use Rattle.regatta_terms.specs.declared.rules.Absent.TheVariants.{A52, A53}
use Rattle.regatta_terms.specs.Codes.{code_text}
use Rattle.regatta_terms.specs.Entries.{points_text}
use Rattle.regatta_json.specs.Fields.{field, mark_value, number_value, quoted}
use Rattle.regatta_json.specs.Rows.{flag_text, values}
use Rattle.regatta_explain.specs.declared.parts.RulesPart.{RulesPart}
use Rattle.regatta_explain.specs.declared.parts.GroupPart.{GroupPart}
use Rattle.regatta_explain.specs.declared.parts.HeldPart.{HeldPart}
use Rattle.regatta_explain.specs.declared.parts.RacePart.{RacePart}
use Rattle.regatta_explain.specs.declared.parts.ScorePart.{ScorePart}
use Rattle.regatta_explain.specs.declared.parts.BoatPart.{BoatPart}
use Rattle.regatta_explain.specs.declared.parts.Compared.{Compared}
use Rattle.regatta_explain.specs.declared.parts.Separation.{Separation}
use Rattle.regatta_explain.specs.declared.parts.Separation.TheVariants.{ByBest, ByLast, ByNothing}
use Rattle.regatta_explain.specs.declared.parts.NeighbourPart.{NeighbourPart}
use Rattle.regatta_explain.specs.declared.parts.RankPart.{RankPart}

-- ---- values

-- a code by which a boat is scored, or FIN if she finished
abbrev pub status_word : Option Code → List ℕ
status_word None = codes "FIN"
status_word (Some code) = code_text code

-- a code, or null
unfoldable pub code_value : Option Code → List ℕ
code_value None = codes "null"
code_value (Some code) = quoted (code_text code)

-- redress as points, or as ALL or PRIOR for an average
unfoldable pub given_value : redress_type.Redress → List ℕ
given_value (Points award) = points_text award
given_value AllRaces = codes "\"ALL\""
given_value RacesBefore = codes "\"PRIOR\""

-- redress, or null
unfoldable pub redress_value : Option redress_type.Redress → List ℕ
redress_value None = codes "null"
redress_value (Some redress) = given_value redress

-- the rule by which boats that don't finish are scored
abbrev pub absent_word : Absent → List ℕ
absent_word A52 = codes "A5.2"
absent_word A53 = codes "A5.3"

-- ---- rows

-- the rules of the series
unfoldable pub rules_text : RulesPart → List ℕ
rules_text rules = field (codes "{\"absent\":\"") (absent_word rules.absent)
    ++ field (codes "\",\"scp\":") (number_value rules.scp)
    ++ field (codes ",\"exclude\":[") (values decimal rules.thresholds)
    ++ field (codes "],\"handicap\":") (flag_text rules.handicap) ++ codes "}"

-- a group of a finishing order
unfoldable pub group_text : GroupPart → List ℕ
group_text group = field (codes "{\"place\":") (decimal group.place)
    ++ field (codes ",\"sharing\":") (decimal group.sharing)
    ++ codes ",\"boats\":[" ++ values quoted group.boats ++ codes "]}"

-- how a boat is scored in a race
unfoldable pub status_text : HeldPart → List ℕ
status_text part = field (codes "{\"sail\":\"") part.sail
    ++ field (codes "\",\"status\":\"") (status_word part.status)
    ++ field (codes "\",\"came\":") (flag_text part.came)

-- her code and penalties there
unfoldable pub penalties_text : HeldPart → List ℕ
penalties_text part = field (codes ",\"code\":") (code_value part.code)
    ++ field (codes ",\"zfp\":") (decimal part.zfp) ++ field (codes ",\"scp\":") (decimal part.scp)

-- her redress and her time there
unfoldable pub redress_text : HeldPart → List ℕ
redress_text part = field (codes ",\"redress\":") (redress_value part.redress)
    ++ field (codes ",\"seconds\":") (number_value part.seconds) ++ codes "}"

-- what a boat has in a race
unfoldable pub held_text : HeldPart → List ℕ
held_text part = status_text part ++ penalties_text part ++ redress_text part

-- a race, whether it counts, and how many boats are entered
unfoldable pub race_head : RacePart → List ℕ
race_head part = field (codes "{\"race\":") (decimal part.race)
    ++ field (codes ",\"counts\":") (flag_text part.counts)
    ++ field (codes ",\"entered\":") (decimal part.entered)

-- how many came, and the DNF score and 20% of it
unfoldable pub race_scores_text : RacePart → List ℕ
race_scores_text part = field (codes ",\"came\":") (decimal part.came)
    ++ field (codes ",\"dnf\":") (decimal part.dnf)
    ++ field (codes ",\"twenty_percent\":") (decimal part.twenty_percent)

-- what a race is scored by
unfoldable pub race_text : RacePart → List ℕ
race_text part = race_head part ++ race_scores_text part

-- a boat's score in a race before redress
unfoldable pub base_text : ScorePart → List ℕ
base_text part = field (codes "{\"race\":") (decimal part.race)
    ++ field (codes ",\"status\":\"") (status_word part.status)
    ++ field (codes "\",\"base\":") (points_text part.base)
    ++ field (codes ",\"penalty\":") (decimal part.penalty)
    ++ field (codes ",\"plain\":") (points_text part.plain)

-- her redress, and the scores that an average counts
unfoldable pub average_text : ScorePart → List ℕ
average_text part = field (codes ",\"redress\":") (redress_value part.redress)
    ++ codes ",\"averaged\":[" ++ values decimal part.averaged
    ++ field (codes "],\"sum\":") (points_text part.sum)

-- her points
unfoldable pub points_part : ScorePart → List ℕ
points_part part = field (codes ",\"points\":") (points_text part.points)
    ++ field (codes ",\"mark\":") (mark_value part.mark)
    ++ field (codes ",\"excluded\":") (flag_text part.excluded) ++ codes "}"

-- a boat's score in a race
unfoldable pub score_text : ScorePart → List ℕ
score_text part = base_text part ++ average_text part ++ points_part part

-- a boat's place in the series
unfoldable pub boat_text : BoatPart → List ℕ
boat_text part = field (codes "{\"sail\":\"") part.sail
    ++ field (codes "\",\"rank\":") (decimal part.rank)
    ++ field (codes ",\"tied\":") (flag_text part.tied)
    ++ field (codes ",\"net\":") (points_text part.net)
    ++ field (codes ",\"total\":") (points_text part.total)

-- two scores, and where they are compared
unfoldable pub compared_text : Compared → List ℕ
compared_text compared = decimal compared.at
    ++ field (codes ",\"scores\":[") (points_text compared.first)
    ++ field (codes ",") (points_text compared.second) ++ codes "]}"

-- what separates two boats
unfoldable pub separation_text : Separation → List ℕ
separation_text (ByBest compared) = codes "\"A8.1\",\"position\":" ++ compared_text compared
separation_text (ByLast compared) = codes "\"A8.2\",\"race\":" ++ compared_text compared
separation_text ByNothing = codes "null}"

-- two neighbours with the same series score
unfoldable pub neighbour_text : NeighbourPart → List ℕ
neighbour_text part = field (codes "{\"first\":\"") part.first
    ++ field (codes "\",\"second\":\"") part.second
    ++ codes "\",\"rule\":" ++ separation_text part.rule

-- a boat's rank
unfoldable pub rank_text : RankPart → List ℕ
rank_text part = field (codes "[\"") part.sail ++ field (codes "\",") (decimal part.rank)
    ++ field (codes ",") (flag_text part.tied) ++ codes "]"
