-- The document of words: codes, kinds of penalty, roles, lines, refusals, faults and limits.
use Rattle.std.specs.Prelude.{ℕ, Bool, List, [], ◌∷◌, ◌++◌, codes, decimal}
use Rattle.regatta_terms.specs.declared.command.Code.{Code}
use Rattle.regatta_terms.specs.declared.command.PenaltyKind.{PenaltyKind}
use Rattle.regatta_terms.specs.declared.command.Role.{Role}
use Rattle.regatta_terms.specs.declared.command.Role.TheVariants.{Finish, Jury, Scorer}
use Rattle.regatta_terms.specs.declared.limits.TheConstants.{MAX_BOATS, MAX_RACES, MAX_ENTRIES}
use Rattle.regatta_terms.specs.declared.limits.TheConstants.{MAX_PENALTIES, MAX_SCP_POINTS}
use Rattle.regatta_terms.specs.declared.limits.TheConstants.{MAX_LINE, MAX_SEATS}
use Rattle.regatta_terms.specs.declared.line.LineFault.{LineFault}
use Rattle.regatta_terms.specs.declared.reply.Refusal.{Refusal}
use Rattle.regatta_terms.specs.Codes.{all_codes, code_text, is_jury_code}
use Rattle.regatta_terms.specs.CommandWords.{role_text, kind_text}
use Rattle.regatta_terms.specs.Replies.{number_of_refusal, number_of_fault}
use Rattle.regatta_scores.specs.RacePoints.{Coded, came}
use Rattle.regatta_json.specs.Rows.{flag_text, joined, rows}
use Rattle.regatta_words.specs.declared.forms.Form.{Form}
use Rattle.regatta_words.specs.Forms.{all_forms, form_text, form_sentence}
use Rattle.regatta_words.specs.Meanings.{meaning, rule, is_breach, scored_text, can_be_excluded}
use Rattle.regatta_words.specs.Meanings.{kind_meaning, kind_rule}
use Rattle.regatta_words.specs.Senders.{all_kinds, gives, sends}
use Rattle.regatta_words.specs.Sentences.{all_roles, all_refusals, all_faults, role_meaning}
use Rattle.regatta_words.specs.Sentences.{refusal_name, refusal_sentence, fault_name, fault_sentence}

-- for each role, whether something holds for it
unfoldable pub by_role : Bool → Bool → Bool → List ℕ
by_role finish jury scorer = joined (codes "{\"" ∷ role_text Finish ∷ codes "\":" ∷ flag_text finish
    ∷ codes ",\"" ∷ role_text Jury ∷ codes "\":" ∷ flag_text jury
    ∷ codes ",\"" ∷ role_text Scorer ∷ codes "\":" ∷ flag_text scorer ∷ codes "}" ∷ [])

-- what a code means and is about; whether it takes a hearing, is for a breach, and whether a boat
-- with it came to the starting area
unfoldable pub code_head : Code → List ℕ
code_head code = joined (codes "{\"code\":\"" ∷ code_text code ∷ codes "\",\"meaning\":\"" ∷ meaning code
    ∷ codes "\",\"rule\":\"" ∷ rule code ∷ codes "\",\"hearing\":" ∷ flag_text (is_jury_code code)
    ∷ codes ",\"breach\":" ∷ flag_text (is_breach code)
    ∷ codes ",\"came\":" ∷ flag_text (came (Coded code)) ∷ [])

-- the code whose points a code has, and whether the score can be excluded
unfoldable pub code_score : Code → List ℕ
code_score code = joined (codes ",\"scores_as\":\"" ∷ scored_text code
    ∷ codes "\",\"excludable\":" ∷ flag_text (can_be_excluded code) ∷ [])

-- who gives it
unfoldable pub code_givers : Code → List ℕ
code_givers code = codes ",\"given_by\":" ++ by_role (gives Finish code) (gives Jury code) (gives Scorer code)
    ++ codes "}"

-- the row of a code
unfoldable pub code_row : Code → List ℕ
code_row code = code_head code ++ code_score code ++ code_givers code

-- the row of a kind of penalty
unfoldable pub kind_row : PenaltyKind → List ℕ
kind_row kind = joined (codes "{\"kind\":\"" ∷ kind_text kind ∷ codes "\",\"meaning\":\""
    ∷ kind_meaning kind ∷ codes "\",\"rule\":\"" ∷ kind_rule kind ∷ codes "\"}" ∷ [])

-- the row of a role
unfoldable pub role_row : Role → List ℕ
role_row role = joined (codes "{\"role\":\"" ∷ role_text role ∷ codes "\",\"meaning\":\""
    ∷ role_meaning role ∷ codes "\"}" ∷ [])

-- the row of a form of lines
unfoldable pub form_row : Form → List ℕ
form_row form = joined (codes "{\"line\":\"" ∷ form_text form ∷ codes "\",\"text\":\"" ∷ form_sentence form
    ∷ codes "\",\"sent_by\":" ∷ [])
    ++ by_role (sends Finish form) (sends Jury form) (sends Scorer form) ++ codes "}"

-- the row of something with a number
unfoldable pub numbered_row : ℕ → List ℕ → List ℕ → List ℕ
numbered_row number name sentence = joined (codes "{\"number\":" ∷ decimal number ∷ codes ",\"name\":\""
    ∷ name ∷ codes "\",\"text\":\"" ∷ sentence ∷ codes "\"}" ∷ [])

-- the row of a refusal
abbrev pub refusal_row : Refusal → List ℕ
refusal_row refusal =
    numbered_row (number_of_refusal refusal) (refusal_name refusal) (refusal_sentence refusal)

-- the row of a fault
abbrev pub fault_row : LineFault → List ℕ
fault_row fault = numbered_row (number_of_fault fault) (fault_name fault) (fault_sentence fault)

-- codes and kinds of penalty
unfoldable pub marks_text : List ℕ
marks_text = codes "{\"codes\":[\n" ++ rows code_row all_codes
    ++ codes "\n],\n\"penalties\":[\n" ++ rows kind_row all_kinds

-- roles, and the lines that they send
unfoldable pub lines_text : List ℕ
lines_text = codes "\n],\n\"roles\":[\n" ++ rows role_row all_roles
    ++ codes "\n],\n\"lines\":[\n" ++ rows form_row all_forms

-- refusals and faults
unfoldable pub answers_text : List ℕ
answers_text = codes "\n],\n\"refusals\":[\n" ++ rows refusal_row all_refusals
    ++ codes "\n],\n\"faults\":[\n" ++ rows fault_row all_faults

-- the limits of a series
unfoldable pub series_limits : List ℕ
series_limits = (codes "\n],\n\"limits\":{\"boats\":" ++ decimal MAX_BOATS)
    ++ (codes ",\"races\":" ++ decimal MAX_RACES) ++ (codes ",\"entries\":" ++ decimal MAX_ENTRIES)

-- the limits of penalties, lines and seats
unfoldable pub other_limits : List ℕ
other_limits = (codes ",\"penalties\":" ++ decimal MAX_PENALTIES)
    ++ (codes ",\"scp_points\":" ++ decimal MAX_SCP_POINTS)
    ++ (codes ",\"line_bytes\":" ++ decimal MAX_LINE) ++ (codes ",\"seats\":" ++ decimal MAX_SEATS)
    ++ codes "}}\n"

-- the whole document
unfoldable pub words_text : List ℕ
words_text = marks_text ++ lines_text ++ answers_text ++ series_limits ++ other_limits
