-- How far a session has come, read by read.
use Rattle.std.proofs.Common.{◌≡◌, ◌++◌, [], ℕ, List, Option, append-nil, refl, sym, subst}
use Rattle.std.specs.Io.KnownBytes.{Consumes, Keeps}
use Rattle.regatta_terms.specs.Rules.{RulesParts}
use Rattle.regatta_terms.specs.declared.command.Role.{Role}
use Rattle.regatta_streams.proofs.KnownBytes.{consumes-keeps, consumes-none, consumes-then}
use Rattle.regatta_scores.specs.Journal.{Journal}
use Rattle.regatta_desk.specs.Passes.{PassValue}
use Rattle.regatta_service.specs.LinesTaken.{AllReplied, Point, Stays, Talked, Took, WentOn}
use Rattle.regatta_service.specs.LinesTaken.{asked_from, asked_in, point}
use Rattle.regatta_service.specs.declared.sessions.End.{End}
use Rattle.regatta_service.proofs.Points.{stays_same, took_seated}
use Rattle.regatta_service.proofs.Taking.{all_taken, asked_of_text, none_taken, took_both}
use Rattle.regatta_service.proofs.Taking.{went_both}
use Rattle.regatta_talk.specs.declared.asked.AskedLine.{AskedLine}

-- the bytes that the stream gave so far, and what was done with them
pub record SoFar (rules : RulesParts) (to_read left : Option (List ℕ)) (before : Point)
    (later : List ℕ) (now : Point) : Type 0 where
  pub given : List ℕ
  pub consumed : Consumes to_read left given
  pub went : WentOn rules [] given before later now

-- nothing was read: there was no memory for replies
pub talked_none : (rules : RulesParts) (to_read : Option (List ℕ)) (before : PassValue)
    (old : Option (List ℕ)) (book : Option (List Journal))
    → Talked rules End.NoMemory to_read to_read before before old old book book
talked_none rules to_read before old book = record {
  given = [];
  consumed = consumes-none to_read;
  role = Role.Scorer;
  took = (refl, stays_same (point Role.Scorer before old book));
}

-- nothing was read yet
pub so_far_none : (rules : RulesParts) (to_read : Option (List ℕ)) (before : Point)
    → SoFar rules to_read to_read before [] before
so_far_none rules to_read before = record {
  given = [];
  consumed = consumes-none to_read;
  went = none_taken rules [] before;
}

module _ (rules : RulesParts) (to_read left : Option (List ℕ)) (before : PassValue)
    (old : Option (List ℕ)) (book : Option (List Journal)) (later : List ℕ) (between : Point)
    (s : SoFar rules to_read left (point Role.Scorer before old book) later between)
    (now : Point) (stays : Stays between now) where
  -- a piece was read and taken, and the session goes on
  pub so_far_more : (mid after : Option (List ℕ)) (piece : List ℕ) → Consumes left mid piece
      → Keeps mid after → (last : List ℕ) (next : Point) → WentOn rules later piece now last next
      → SoFar rules to_read after (point Role.Scorer before old book) last next
  so_far_more mid after piece consumed keeps last next w = record {
    given = s.given ++ piece;
    consumed = consumes-keeps to_read mid after (s.given ++ piece)
        (consumes-then to_read left mid s.given piece s.consumed consumed) keeps;
    went = went_both rules [] s.given (point Role.Scorer before old book) later between now stays piece
        next s.went last w;
  }

  -- or it ended
  pub talked_last : (mid after : Option (List ℕ)) (piece : List ℕ) → Consumes left mid piece
      → Keeps mid after → (end : End) (role : Role) (pass : PassValue) (new : Option (List ℕ))
      (noted : Option (List Journal))
      → (end ≡ End.NoMemory → ⊥) → Took rules end (asked_from later piece) now
      (point role pass new noted)
      → Talked rules end to_read after before pass old new book noted
  talked_last mid after piece consumed keeps end role pass new noted room t = record {
    given = s.given ++ piece;
    consumed = consumes-keeps to_read mid after (s.given ++ piece)
        (consumes-then to_read left mid s.given piece s.consumed consumed) keeps;
    role = role;
    took = subst (λ (asked : List AskedLine). Took rules end asked (point Role.Scorer before old book)
        (point role pass new noted)) (asked_of_text (s.given ++ piece))
        (took_both rules [] s.given (point Role.Scorer before old book) later between now stays piece
        (point role pass new noted) s.went end room t);
  }

  -- nothing more was read
  all_read : AllReplied rules (asked_in s.given) (point Role.Scorer before old book) now
  all_read = subst (λ (asked : List AskedLine). AllReplied rules asked (point Role.Scorer before old book)
      now) (asked_of_text s.given)
      (all_taken rules [] s.given (point Role.Scorer before old book) later between now stays s.went)

  pub talked_closed : (after : Option (List ℕ)) → Consumes left after []
      → Talked rules End.Closed to_read after before now.pass old now.written book now.book
  talked_closed after consumed = record {
    given = s.given ++ [];
    consumed = consumes-then to_read left after s.given [] s.consumed consumed;
    role = now.role;
    took = subst (λ (bytes : List ℕ). AllReplied rules (asked_in bytes)
        (point Role.Scorer before old book) now) (sym (append-nil s.given)) all_read;
  }

  pub talked_fault : (after : Option (List ℕ)) → Keeps left after
      → Talked rules End.ReadFault to_read after before now.pass old now.written book now.book
  talked_fault after keeps = record {
    given = s.given;
    consumed = consumes-keeps to_read left after s.given s.consumed keeps;
    role = now.role;
    took = all_read;
  }

-- the pass keeps its seat
pub talked_seat : (rules : RulesParts) (end : End) (to_read left : Option (List ℕ))
    (before after : PassValue) (old new : Option (List ℕ)) (book noted : Option (List Journal))
    → Talked rules end to_read left before after old new book noted → after.seat ≡ before.seat
talked_seat rules end to_read left before after old new book noted t =
    took_seated rules end (asked_in t.given) (point Role.Scorer before old book)
    (point t.role after new noted) t.took
