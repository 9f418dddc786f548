-- The names of refusals and faults, and what each says in one sentence.
use Rattle.std.specs.Prelude.{ℕ, List, [], ◌∷◌, codes, ◌≡◌, refl, map, nat_eq, true}
use Rattle.std.specs.List.{range_with_len, list_any}
use Rattle.regatta_terms.specs.Replies.{number_of_refusal, number_of_fault}
use Rattle.regatta_terms.specs.declared.command.Role.{Role}
use Rattle.regatta_terms.specs.declared.command.Role.TheVariants.{Finish, Jury, Scorer}
use Rattle.regatta_terms.specs.declared.reply.Refusal.{Refusal}
use Rattle.regatta_terms.specs.declared.reply.Refusal.TheVariants.{NoMemory, JournalFull, OldNumber}
use Rattle.regatta_terms.specs.declared.reply.Refusal.TheVariants.{NotYours, EntryFull}
use Rattle.regatta_terms.specs.declared.reply.Refusal.TheVariants.{AlreadyEntered, NotEntered}
use Rattle.regatta_terms.specs.declared.reply.Refusal.TheVariants.{AlreadyPlaced, NotPlaced}
use Rattle.regatta_terms.specs.declared.reply.Refusal.TheVariants.{Decided, PenaltyLimit}
use Rattle.regatta_terms.specs.declared.reply.Refusal.TheVariants.{NothingToClear, AlreadyScored}
use Rattle.regatta_terms.specs.declared.reply.Refusal.TheVariants.{NotScored, NoFinisher}
use Rattle.regatta_terms.specs.declared.reply.Refusal.TheVariants.{WrongSystem}
use Rattle.regatta_terms.specs.declared.line.LineFault.{LineFault}
use Rattle.regatta_terms.specs.declared.line.LineFault.TheVariants.{TooLong, NoSuchWord, WrongCount}
use Rattle.regatta_terms.specs.declared.line.LineFault.TheVariants.{BadSail, BadRace, BadPoints}
use Rattle.regatta_terms.specs.declared.line.LineFault.TheVariants.{BadCode, BadRole, BadNumber}
use Rattle.regatta_terms.specs.declared.line.LineFault.TheVariants.{BadSeconds}

-- every role
abbrev pub all_roles : List Role
all_roles = Finish ∷ Jury ∷ Scorer ∷ []

-- every refusal
abbrev pub all_refusals : List Refusal
all_refusals = NoMemory ∷ JournalFull ∷ OldNumber 0 ∷ NotYours ∷ EntryFull ∷ AlreadyEntered ∷ NotEntered
    ∷ AlreadyPlaced ∷ NotPlaced ∷ Decided ∷ PenaltyLimit ∷ NothingToClear ∷ AlreadyScored ∷ NotScored
    ∷ NoFinisher ∷ WrongSystem ∷ []

-- they are numbered from 1 to 16
pub refusals_in_order : map number_of_refusal all_refusals ≡ range_with_len 1 16
refusals_in_order = refl

-- no refusal is missing
pub no_refusal_missing : (refusal : Refusal)
    → list_any (λ r. nat_eq (number_of_refusal r) (number_of_refusal refusal)) all_refusals ≡ true
no_refusal_missing NoMemory = refl
no_refusal_missing JournalFull = refl
no_refusal_missing (OldNumber last) = refl
no_refusal_missing NotYours = refl
no_refusal_missing EntryFull = refl
no_refusal_missing AlreadyEntered = refl
no_refusal_missing NotEntered = refl
no_refusal_missing AlreadyPlaced = refl
no_refusal_missing NotPlaced = refl
no_refusal_missing Decided = refl
no_refusal_missing PenaltyLimit = refl
no_refusal_missing NothingToClear = refl
no_refusal_missing AlreadyScored = refl
no_refusal_missing NotScored = refl
no_refusal_missing NoFinisher = refl
no_refusal_missing WrongSystem = refl

-- every fault of a line or an entry
abbrev pub all_faults : List LineFault
all_faults = TooLong ∷ NoSuchWord ∷ WrongCount ∷ BadSail ∷ BadRace ∷ BadPoints ∷ BadCode ∷ BadRole
    ∷ BadNumber ∷ BadSeconds ∷ []

-- they are numbered from 20 to 29
pub faults_in_order : map number_of_fault all_faults ≡ range_with_len 20 10
faults_in_order = refl

-- no fault is missing
pub no_fault_missing : (fault : LineFault)
    → list_any (λ f. nat_eq (number_of_fault f) (number_of_fault fault)) all_faults ≡ true
no_fault_missing TooLong = refl
no_fault_missing NoSuchWord = refl
no_fault_missing WrongCount = refl
no_fault_missing BadSail = refl
no_fault_missing BadRace = refl
no_fault_missing BadPoints = refl
no_fault_missing BadCode = refl
no_fault_missing BadRole = refl
no_fault_missing BadNumber = refl
no_fault_missing BadSeconds = refl

-- who sends in each role
abbrev pub role_meaning : Role → List ℕ
role_meaning Finish = codes "the finish"
role_meaning Jury = codes "the jury"
role_meaning Scorer = codes "the scorer"

-- the name of each refusal
abbrev pub refusal_name : Refusal → List ℕ
refusal_name NoMemory = codes "NoMemory"
refusal_name JournalFull = codes "JournalFull"
refusal_name (OldNumber last) = codes "OldNumber"
refusal_name NotYours = codes "NotYours"
refusal_name EntryFull = codes "EntryFull"
refusal_name AlreadyEntered = codes "AlreadyEntered"
refusal_name NotEntered = codes "NotEntered"
refusal_name AlreadyPlaced = codes "AlreadyPlaced"
refusal_name NotPlaced = codes "NotPlaced"
refusal_name Decided = codes "Decided"
refusal_name PenaltyLimit = codes "PenaltyLimit"
refusal_name NothingToClear = codes "NothingToClear"
refusal_name AlreadyScored = codes "AlreadyScored"
refusal_name NotScored = codes "NotScored"
refusal_name NoFinisher = codes "NoFinisher"
refusal_name WrongSystem = codes "WrongSystem"

-- why a line was refused
abbrev pub refusal_sentence : Refusal → List ℕ
refusal_sentence NoMemory = codes "the computer has no memory left for this line"
refusal_sentence JournalFull = codes "the journal is full: it holds 8,192 entries"
refusal_sentence (OldNumber last) = codes "this seat has used up its numbers"
refusal_sentence NotYours = codes "your role doesn't send this line"
refusal_sentence EntryFull = codes "500 boats are entered, and no more fit"
refusal_sentence AlreadyEntered = codes "she is entered already"
refusal_sentence NotEntered = codes "a boat that is named isn't entered"
refusal_sentence AlreadyPlaced =
    codes "she is in the finishing order of this race already: strike her first if she is to be moved"
refusal_sentence NotPlaced =
    codes "she, or the other boat, isn't in the finishing order of this race"
refusal_sentence Decided =
    codes "she holds DSQ, DNE or redress in this race, and only the jury clears that"
refusal_sentence PenaltyLimit =
    codes "she has nine penalties of this kind in this race, and no more fit"
refusal_sentence NothingToClear = codes "she has no code, penalty or redress in this race"
refusal_sentence AlreadyScored = codes "this race counts already"
refusal_sentence NotScored = codes "this race doesn't count"
refusal_sentence NoFinisher = codes "nobody has finished in this race"
refusal_sentence WrongSystem =
    codes "a series by corrected time takes TIME, and any other takes FINISH, TIE and BEFORE"

-- the name of each fault
abbrev pub fault_name : LineFault → List ℕ
fault_name TooLong = codes "TooLong"
fault_name NoSuchWord = codes "NoSuchWord"
fault_name WrongCount = codes "WrongCount"
fault_name BadSail = codes "BadSail"
fault_name BadRace = codes "BadRace"
fault_name BadPoints = codes "BadPoints"
fault_name BadCode = codes "BadCode"
fault_name BadRole = codes "BadRole"
fault_name BadNumber = codes "BadNumber"
fault_name BadSeconds = codes "BadSeconds"

-- what is wrong with a line or an entry
abbrev pub fault_sentence : LineFault → List ℕ
fault_sentence TooLong = codes "the line is longer than 80 letters"
fault_sentence NoSuchWord =
    codes "the line is empty, or its first word isn't known; help lists the lines"
fault_sentence WrongCount = codes "the line has too few words, or too many"
fault_sentence BadSail = codes "this is no sail: 1 to 12 letters, digits and dashes"
fault_sentence BadRace = codes "this is no race: a number from 1 to 40"
fault_sentence BadPoints =
    codes "this is no redress: ALL, PRIOR, or points from 1.0 to 999.9, with one decimal at most"
fault_sentence BadCode = codes "this is no code, or no kind of penalty"
fault_sentence BadRole = codes "this is no role: FINISH, JURY or SCORER"
fault_sentence BadNumber =
    codes "the entry's seat isn't 1 to 16, or its number isn't 1 to 4,294,967,295"
fault_sentence BadSeconds = codes "these are no seconds: a whole number from 0 to 999,999"
