-- The forms of lines.
use Rattle.std.specs.Prelude.{◌≡◌, refl, ℕ, true, nat_eq, List, [], ◌∷◌, codes}
use Rattle.std.specs.List.{list_any}
use Rattle.std.specs.Cmp.Lexicographic.{pointwise}
use Rattle.regatta_words.specs.declared.forms.Form.{Form}
use Rattle.regatta_words.specs.declared.forms.Form.TheVariants as form

-- every form
abbrev pub all_forms : List Form
all_forms = form.Finish ∷ form.Tie ∷ form.Before ∷ form.Time ∷ form.Strike ∷ form.Mark ∷ form.Penalty
    ∷ form.Redress ∷ form.Clear ∷ form.Enter ∷ form.Score ∷ form.Unscore ∷ form.Role ∷ form.Rank
    ∷ form.Show ∷ form.Quit ∷ []

-- the words of each form: its keyword, and a name for each argument
abbrev pub form_text : Form → List ℕ
form_text form.Finish = codes "FINISH race sail"
form_text form.Tie = codes "TIE race sail other"
form_text form.Before = codes "BEFORE race sail other"
form_text form.Time = codes "TIME race sail seconds"
form_text form.Strike = codes "STRIKE race sail"
form_text form.Mark = codes "MARK race sail code"
form_text form.Penalty = codes "PENALTY race sail kind"
form_text form.Redress = codes "REDRESS race sail how"
form_text form.Clear = codes "CLEAR race sail"
form_text form.Enter = codes "ENTER sail"
form_text form.Score = codes "SCORE race"
form_text form.Unscore = codes "UNSCORE race"
form_text form.Role = codes "ROLE role"
form_text form.Rank = codes "RANK sail"
form_text form.Show = codes "SHOW"
form_text form.Quit = codes "QUIT"

-- no form is missing
pub no_form_missing : (f : Form)
    → list_any (λ other. pointwise nat_eq (form_text other) (form_text f)) all_forms ≡ true
no_form_missing form.Finish = refl
no_form_missing form.Tie = refl
no_form_missing form.Before = refl
no_form_missing form.Time = refl
no_form_missing form.Strike = refl
no_form_missing form.Mark = refl
no_form_missing form.Penalty = refl
no_form_missing form.Redress = refl
no_form_missing form.Clear = refl
no_form_missing form.Enter = refl
no_form_missing form.Score = refl
no_form_missing form.Unscore = refl
no_form_missing form.Role = refl
no_form_missing form.Rank = refl
no_form_missing form.Show = refl
no_form_missing form.Quit = refl

-- what each says or asks for
abbrev pub form_sentence : Form → List ℕ
form_sentence form.Finish = codes "she finished, after all who have finished so far"
form_sentence form.Tie = codes "she finished level with the other (RRS A7)"
form_sentence form.Before = codes "she finished just ahead of the other"
form_sentence form.Time = codes "her corrected time, in a series by corrected time"
form_sentence form.Strike = codes "she leaves the finishing order"
form_sentence form.Mark = codes "she has this code, in place of any earlier one"
form_sentence form.Penalty = codes "one more ZFP or SCP"
form_sentence form.Redress = codes "ALL, PRIOR, or points as 2.5"
form_sentence form.Clear = codes "her code, penalties and redress in that race go"
form_sentence form.Enter = codes "she enters the series"
form_sentence form.Score = codes "the race counts"
form_sentence form.Unscore = codes "the race counts no longer"
form_sentence form.Role = codes "the lines after this one are sent in that role"
form_sentence form.Rank = codes "how she stands"
form_sentence form.Show = codes "the journal and the table"
form_sentence form.Quit = codes "the session ends"
