-- A document worked out by hand.
use Rattle.std.specs.Prelude.{◌≡◌, refl, ℕ, List, [], ◌∷◌, map, codes}
use Rattle.std.specs.Fmt.{digits}
use Rattle.regatta_terms.specs.declared.command.Code.TheVariants.{Dnf}
use Rattle.regatta_terms.specs.declared.command.Command.TheVariants.{Enter, Finish, Mark, Score}
use Rattle.regatta_scores.specs.Journal.{Journal}
use Rattle.regatta_scores.specs.WorkedStandings.{a, b, c, default_rules, journal, scorer}
use Rattle.regatta_json.specs.Rows.{joined}
use Rattle.regatta_explain.specs.Explained.{document, explained, held_part, is_recorded, neighbour_part}
use Rattle.regatta_explain.specs.Explained.{boat_rows as boat_rows_of, race_part, race_rows as race_rows_of}
use Rattle.regatta_explain.specs.Explained.{ranks_after, score_part, score_parts}
use Rattle.regatta_explain.specs.Documents.{document_text, head_text, races_text, boats_text}
use Rattle.regatta_explain.specs.Documents.{neighbours_text, after_text, race_rows, race_groups, race_boats}
use Rattle.regatta_explain.specs.Documents.{boat_rows, after_row}
use Rattle.regatta_json.specs.Fields.{mark_value, number_value, quoted}
use Rattle.regatta_explain.specs.Rows.{code_value, given_value, redress_value}
use Rattle.regatta_explain.specs.Rows.{rules_text, group_text, status_text, penalties_text, redress_text}
use Rattle.regatta_explain.specs.Rows.{held_text, race_head, race_scores_text, race_text, base_text}
use Rattle.regatta_explain.specs.Rows.{average_text, points_part, score_text, boat_text, compared_text}
use Rattle.regatta_explain.specs.Rows.{separation_text, neighbour_text, rank_text}

-- A wins race 1 and B race 2. C doesn't finish race 1, and is third in race 2
unfoldable pub two_races : Journal
two_races = journal (map scorer
    (Enter a ∷ Enter b ∷ Enter c ∷ Finish 1 a ∷ Finish 1 b ∷ Mark 1 c Dnf ∷ Score 1
    ∷ Finish 2 b ∷ Finish 2 a ∷ Finish 2 c ∷ Score 2 ∷ []))

-- its document: one score is excluded, and the last race breaks the tie of A and B (A8.2)
unfoldable pub explained_by_hand : List ℕ
explained_by_hand = joined (
    codes "{\"rules\":{\"absent\":\"A5.2\",\"scp\":null,\"exclude\":[2],\"handicap\":false}"
    ∷ codes ",\n"
    ∷ codes "\"last_entry\":11,\n"
    ∷ codes "\"races\":[\n"
    ∷ codes "{\"race\":1,\"counts\":true,\"entered\":3,\"came\":3,\"dnf\":4,\"twenty_percent"
    ∷ codes "\":1,\"groups\":[\n"
    ∷ codes "{\"place\":1,\"sharing\":1,\"boats\":[\"A\"]},\n"
    ∷ codes "{\"place\":2,\"sharing\":1,\"boats\":[\"B\"]}\n"
    ∷ codes "],\"boats\":[\n"
    ∷ codes "{\"sail\":\"A\",\"status\":\"FIN\",\"came\":true,\"code\":null,\"zfp\":0,\"scp\":0,\""
    ∷ codes "redress\":null,\"seconds\":null},\n"
    ∷ codes "{\"sail\":\"B\",\"status\":\"FIN\",\"came\":true,\"code\":null,\"zfp\":0,\"scp\":0,\""
    ∷ codes "redress\":null,\"seconds\":null},\n"
    ∷ codes "{\"sail\":\"C\",\"status\":\"DNF\",\"came\":true,\"code\":\"DNF\",\"zfp\":0,\"scp\":0,"
    ∷ codes "\"redress\":null,\"seconds\":null}\n"
    ∷ codes "]},\n"
    ∷ codes "{\"race\":2,\"counts\":true,\"entered\":3,\"came\":3,\"dnf\":4,\"twenty_percent"
    ∷ codes "\":1,\"groups\":[\n"
    ∷ codes "{\"place\":1,\"sharing\":1,\"boats\":[\"B\"]},\n"
    ∷ codes "{\"place\":2,\"sharing\":1,\"boats\":[\"A\"]},\n"
    ∷ codes "{\"place\":3,\"sharing\":1,\"boats\":[\"C\"]}\n"
    ∷ codes "],\"boats\":[\n"
    ∷ codes "{\"sail\":\"A\",\"status\":\"FIN\",\"came\":true,\"code\":null,\"zfp\":0,\"scp\":0,\""
    ∷ codes "redress\":null,\"seconds\":null},\n"
    ∷ codes "{\"sail\":\"B\",\"status\":\"FIN\",\"came\":true,\"code\":null,\"zfp\":0,\"scp\":0,\""
    ∷ codes "redress\":null,\"seconds\":null},\n"
    ∷ codes "{\"sail\":\"C\",\"status\":\"FIN\",\"came\":true,\"code\":null,\"zfp\":0,\"scp\":0,\""
    ∷ codes "redress\":null,\"seconds\":null}\n"
    ∷ codes "]}\n"
    ∷ codes "],\n"
    ∷ codes "\"boats\":[\n"
    ∷ codes "{\"sail\":\"B\",\"rank\":1,\"tied\":false,\"net\":1.0,\"total\":3.0,\"scores\":[\n"
    ∷ codes "{\"race\":1,\"status\":\"FIN\",\"base\":2.0,\"penalty\":0,\"plain\":2.0,\"redress"
    ∷ codes "\":null,\"averaged\":[],\"sum\":0.0,\"points\":2.0,\"mark\":null,\"excluded\":t"
    ∷ codes "rue},\n"
    ∷ codes "{\"race\":2,\"status\":\"FIN\",\"base\":1.0,\"penalty\":0,\"plain\":1.0,\"redress"
    ∷ codes "\":null,\"averaged\":[],\"sum\":0.0,\"points\":1.0,\"mark\":null,\"excluded\":f"
    ∷ codes "alse}\n"
    ∷ codes "]},\n"
    ∷ codes "{\"sail\":\"A\",\"rank\":2,\"tied\":false,\"net\":1.0,\"total\":3.0,\"scores\":[\n"
    ∷ codes "{\"race\":1,\"status\":\"FIN\",\"base\":1.0,\"penalty\":0,\"plain\":1.0,\"redress"
    ∷ codes "\":null,\"averaged\":[],\"sum\":0.0,\"points\":1.0,\"mark\":null,\"excluded\":f"
    ∷ codes "alse},\n"
    ∷ codes "{\"race\":2,\"status\":\"FIN\",\"base\":2.0,\"penalty\":0,\"plain\":2.0,\"redress"
    ∷ codes "\":null,\"averaged\":[],\"sum\":0.0,\"points\":2.0,\"mark\":null,\"excluded\":t"
    ∷ codes "rue}\n"
    ∷ codes "]},\n"
    ∷ codes "{\"sail\":\"C\",\"rank\":3,\"tied\":false,\"net\":3.0,\"total\":7.0,\"scores\":[\n"
    ∷ codes "{\"race\":1,\"status\":\"DNF\",\"base\":4.0,\"penalty\":0,\"plain\":4.0,\"redress"
    ∷ codes "\":null,\"averaged\":[],\"sum\":0.0,\"points\":4.0,\"mark\":\"DNF\",\"excluded\":"
    ∷ codes "true},\n"
    ∷ codes "{\"race\":2,\"status\":\"FIN\",\"base\":3.0,\"penalty\":0,\"plain\":3.0,\"redress"
    ∷ codes "\":null,\"averaged\":[],\"sum\":0.0,\"points\":3.0,\"mark\":null,\"excluded\":f"
    ∷ codes "alse}\n"
    ∷ codes "]}\n"
    ∷ codes "],\n"
    ∷ codes "\"neighbours\":[\n"
    ∷ codes "{\"first\":\"B\",\"second\":\"A\",\"rule\":\"A8.2\",\"race\":2,\"scores\":[1.0,2.0]}"
    ∷ codes "\n"
    ∷ codes "],\n"
    ∷ codes "\"after_each\":[\n"
    ∷ codes "{\"race\":1,\"ranks\":[[\"A\",1,false],[\"B\",2,false],[\"C\",3,false]]},\n"
    ∷ codes "{\"race\":2,\"ranks\":[[\"B\",1,false],[\"A\",2,false],[\"C\",3,false]]}\n"
    ∷ codes "]}\n"
    ∷ [])

pub explains_two_races : explained default_rules two_races ≡ explained_by_hand
unfolding digits two_races explained_by_hand document is_recorded race_part held_part race_rows_of score_part
    score_parts boat_rows_of neighbour_part ranks_after document_text head_text races_text boats_text neighbours_text
    after_text race_rows race_groups race_boats boat_rows after_row quoted code_value mark_value number_value
    given_value redress_value rules_text group_text status_text penalties_text redress_text held_text
    race_head race_scores_text race_text base_text average_text points_part score_text boat_text
    compared_text separation_text neighbour_text rank_text
explains_two_races = refl
