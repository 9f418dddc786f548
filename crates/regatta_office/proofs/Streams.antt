-- What a writer took, and a reader gave, over several steps of a run.
use Rattle.std.proofs.Common.{◌≡◌, ℕ, ◌<◌, length, Bool, true, false, List, [], ◌∷◌, ◌++◌, Option}
use Rattle.std.proofs.Common.{Some, None, Result, Ok, Err, IfOk, OnOk, IfSome, refl, sym, ap, ◌∙◌}
use Rattle.std.proofs.Common.{subst, append_assoc, append-nil, arith, take, drop}
use Rattle.std.proofs.Common.{length-append, ◌+◌, ◌-◌, ◌≤◌, inl, inr}
use Rattle.std.proofs.lemmas.List.{take-append-drop, take-take, take-append-le}
use Rattle.std.proofs.Math.Seq.{take-append-add}
use Rattle.regatta_streams.specs.Texts.{AppendsPrefix, GaveAtMost}
use Rattle.std.proofs.Math.Seq.{take-append_seam}
use Rattle.std.specs.Io.KnownBytes.{Appends, Consumes, Keeps}
use Rattle.regatta_terms.specs.Lines.{line_of}
use Rattle.regatta_streams.proofs.KnownBytes.{appends-none, appends-then, consumes-keeps}
use Rattle.regatta_streams.proofs.KnownBytes.{consumes-none, consumes-then}
use Rattle.regatta_terms.specs.TextLines.{is_line_end, lines_of_pieces}
use Rattle.regatta_office.specs.Coming.{Cuts, Stops, Finished, IsTooLong, IsWithin, Point, ReadSome}
use Rattle.regatta_office.specs.Coming.{Said, Talked, Went, said, ahead, coming, ended, unless}
use Rattle.regatta_talk.specs.HeardLines.{heard_with, heard_lines}
use Rattle.regatta_terms.specs.declared.line.Line.{Line}
use Rattle.regatta_terms.specs.declared.line.LineFault.{LineFault}
use Rattle.std.specs.List.{fold, list_any}
use Rattle.regatta_office.specs.Transcript.{is_quit}
use Rattle.regatta_office.specs.Turns.{talk_after, text_after}
use Rattle.regatta_office.proofs.Saying.{ahead-ahead, line_ends, line_goes, line_last, line_none}
use Rattle.regatta_office.proofs.Saying.{said-none}

-- bytes of a line were buffered
pub bytes_heard : (out : Option (List ℕ)) (before after : Point) (bytes : List ℕ)
    → list_any is_line_end bytes ≡ false
    → after ≡ record before { line = fold heard_with before.line bytes }
    → Went out out bytes before after false
bytes_heard out before after bytes none is = record {
  written = [];
  wrote = appends-none out;
  rules = ap (λ (p : Point). p.rules) is;
  goes = λ counts rest. line_goes counts before bytes rest none
      ∙ ap (λ (p : Point). coming p counts rest) (sym is);
}

-- a line ended, and was answered
pub line_ended : (old new : Option (List ℕ)) (before after : Point) (byte : ℕ) (quit : Bool)
    → is_line_end byte ≡ true
    → quit ≡ is_quit (line_of before.line)
    → Appends old new (text_after before.rules before.talk (line_of before.line))
    → after ≡ record {
      rules = before.rules;
      talk = talk_after before.rules before.talk
          (line_of before.line);
      line = [];
    }
    → Went old new (byte ∷ []) before after quit
line_ended old new before after byte quit is quits wrote went = record {
  written = text_after before.rules before.talk (line_of before.line);
  wrote = wrote;
  rules = ap (λ (p : Point). p.rules) went;
  goes = λ counts rest.
      line_ends counts before byte rest is
      ∙ (λ i. ahead (text_after before.rules before.talk (line_of before.line))
      (unless (sym quits i) counts (sym went i) rest));
}

-- ---- the end of a text

-- a last line without LF was answered
pub finished_line : (old new : Option (List ℕ)) (before after : Point) → 0 < length before.line
    → Appends old new (text_after before.rules before.talk (line_of before.line))
    → after ≡ record {
      rules = before.rules;
      talk = talk_after before.rules before.talk
          (line_of before.line);
      line = [];
    }
    → Finished old new before after
finished_line old new before after some wrote went = record {
  written = text_after before.rules before.talk (line_of before.line);
  wrote = wrote;
  rules = ap (λ (p : Point). p.rules) went;
  quit = is_quit (line_of before.line);
  says =
      line_last before some
      ∙ (λ i. ahead (text_after before.rules before.talk (line_of before.line))
      (ended (is_quit (line_of before.line)) (sym went i)));
}

-- there is none
pub finished_none : (out : Option (List ℕ)) (before after : Point) → length before.line ≡ 0
    → after ≡ before → Finished out out before after
finished_none out before after none same = record {
  written = [];
  wrote = appends-none out;
  rules = ap (λ (p : Point). p.rules) same;
  quit = false;
  says = line_none before none ∙ ap (ended false) (sym same);
}

-- some bytes, and then others
pub went-then : (a b c : Option (List ℕ)) (xs ys : List ℕ) (p q r : Point) (quit : Bool)
    → Went a b xs p q false → Went b c ys q r quit → Went a c (xs ++ ys) p r quit
went-then a b c xs ys p q r quit u v = record {
  written = u.written ++ v.written;
  wrote = appends-then a b c u.written v.written u.wrote v.wrote;
  rules = v.rules ∙ u.rules;
  goes = λ counts rest.
      ap (coming p counts) (append_assoc xs ys rest) ∙ u.goes counts (ys ++ rest)
      ∙ ap (ahead u.written) (v.goes counts rest)
      ∙ sym (ahead-ahead u.written v.written (unless quit counts r rest));
}

-- the rest of a line and its LF were taken, and the line was answered by one that reads alike
line_taken : (old new : Option (List ℕ)) (before after : Point) (rest line : List ℕ) (quit : Bool)
    → list_any is_line_end rest ≡ false
    → line_of (fold heard_with before.line rest) ≡ line_of line
    → quit ≡ is_quit (line_of line)
    → Appends old new (text_after before.rules before.talk (line_of line))
    → after ≡ record {
      rules = before.rules;
      talk = talk_after before.rules before.talk (line_of line);
      line = [];
    }
    → Went old new (rest ++ 10 ∷ []) before after quit
line_taken old new before after rest line quit none alike quits wrote went =
    went-then old old new rest (10 ∷ []) before mid after quit
    (bytes_heard old before mid rest none refl)
    (line_ended old new mid after 10 quit refl
    (quits ∙ sym (ap is_quit alike))
    (subst (λ (asked : Result Line LineFault). Appends old new
    (text_after before.rules before.talk asked)) (sym alike) wrote)
    (went ∙ ap (λ (asked : Result Line LineFault). record {
      rules = before.rules;
      talk = talk_after before.rules before.talk asked;
      line = [];
    }) (sym alike)))
  where
    mid : Point
    mid = record before { line = fold heard_with before.line rest }

-- the same for an answer that may have failed
pub line_taken_ok : {E : Type 0} (old new : Option (List ℕ)) (before after : Point)
    (rest line left : List ℕ) (r : Result Bool E)
    → left ≡ []
    → list_any is_line_end rest ≡ false
    → line_of (fold heard_with before.line rest) ≡ line_of line
    → IfOk r (λ quit. quit ≡ is_quit (line_of line))
    → OnOk r (Appends old new (text_after before.rules before.talk (line_of line)))
    → OnOk r (after ≡ record {
      rules = before.rules;
      talk = talk_after before.rules before.talk (line_of line);
      line = left;
    })
    → IfOk r (λ quit. Went old new (rest ++ 10 ∷ []) before after quit)
line_taken_ok old new before after rest line left (Ok quit) empty none alike quits wrote went =
    line_taken old new before after rest line quit none alike quits wrote
    (went ∙ ap (λ (l : List ℕ). record {
      rules = before.rules;
      talk = talk_after before.rules before.talk (line_of line);
      line = l;
    }) empty)
line_taken_ok old new before after rest line left (Err e) empty none alike quits wrote went = tt

-- if the run ended within some bytes, those after them count for nothing
pub went-quit : (a b : Option (List ℕ)) (xs ys : List ℕ) (p q : Point) → Went a b xs p q true
    → Went a b (xs ++ ys) p q true
went-quit a b xs ys p q u = record {
  written = u.written;
  wrote = u.wrote;
  rules = u.rules;
  goes = λ counts rest. ap (coming p counts) (append_assoc xs ys rest) ∙ u.goes counts (ys ++ rest);
}

-- ---- a writer that failed, and out of memory

-- some first part of a text is one of a longer text
pub prefix-longer : (old new : Option (List ℕ)) (a b : List ℕ) → AppendsPrefix old new a
    → AppendsPrefix old new (a ++ b)
prefix-longer old new a b (n, few, wrote) = (
  n,
  omega (arith, few, length-append a b),
  subst (Appends old new) (sym (take-append-le n a b (omega (arith, few)))) wrote,
)

-- a text, and then some first part of another
pub prefix-behind : (old mid new : Option (List ℕ)) (a b : List ℕ) → Appends old mid a
    → AppendsPrefix mid new b → AppendsPrefix old new (a ++ b)
prefix-behind old mid new a b wrote (n, few, more) = (
  length a + n,
  omega (arith, few, length-append a b),
  subst (Appends old new) (sym (take-append-add a b n))
      (appends-then old mid new a (take n b) wrote more),
)

-- the write of a last line's text failed
pub last_cut : (old new : Option (List ℕ)) (before : Point) → 0 < length before.line
    → AppendsPrefix old new (text_after before.rules before.talk (line_of before.line))
    → Cuts old new before []
last_cut old new before some cut = subst (λ (s : Said). AppendsPrefix old new s.text)
    (sym (line_last before some)) (prefix-longer old new _ [] cut)

-- the write after some bytes failed
pub cut-then : (a b c : Option (List ℕ)) (xs rest : List ℕ) (p q : Point) → Went a b xs p q false
    → Cuts b c q rest → Cuts a c p (xs ++ rest)
cut-then a b c xs rest p q u cut =
    subst (λ (s : Said). AppendsPrefix a c s.text) (sym (u.goes true rest))
    (prefix-behind a b c u.written _ u.wrote cut)

nothing_comes : (q : Point) → coming q false [] ≡ ended false q
unfolding heard_lines
nothing_comes q = ap (said q.rules q.talk) (none q.line) ∙ said-none q.rules q.talk
  where
    none : (line : List ℕ) → lines_of_pieces false (line ∷ []) ≡ []
    none [] = refl
    none (byte ∷ line) = refl

-- there is nothing to write yet
pub stop-none : (out : Option (List ℕ)) (before : Point) (text : List ℕ) → Stops out out before text
stop-none out before text = (
  0,
  subst (λ (s : Said). Appends out out s.text)
      (sym (nothing_comes before)) (appends-none out),
)

-- an allocation failed after some bytes
pub stop-then : (a b c : Option (List ℕ)) (xs rest : List ℕ) (p q : Point) → Went a b xs p q false
    → Stops b c q rest → Stops a c p (xs ++ rest)
stop-then a b c xs rest p q u (n, wrote) = (
  length xs + n,
  subst (Appends a c)
      (sym (ap (λ (s : Said). s.text) (ap (coming p false) (take-append-add xs rest n)
      ∙ u.goes false (take n rest))))
      (appends-then a b c u.written (coming q false (take n rest)).text u.wrote wrote),
)

-- what holds of each text that begins with what a reader gave
from_given : (K : List ℕ → Type 0) (a b : Option (List ℕ)) (given : List ℕ) → Consumes a b given
    → ((rest : List ℕ) → K (given ++ rest)) → IfSome a K
from_given K None b given took k = tt
from_given K (Some text) None given took k = absurd took
from_given K (Some text) (Some rest) given took k = subst K (sym took) (k rest)

-- and by what holds of the rest
before_rest : (K Rest : List ℕ → Type 0) (a b : Option (List ℕ)) (given : List ℕ)
    → Consumes a b given → ((rest : List ℕ) → Rest rest → K (given ++ rest)) → IfSome b Rest
    → IfSome a K
before_rest K Rest None b given took k h = tt
before_rest K Rest (Some text) None given took k h = absurd took
before_rest K Rest (Some text) (Some rest) given took k h = subst K (sym took) (k rest h)

-- what was given, cut in two
cut_of : (given bytes left rest : List ℕ) → given ≡ bytes ++ left
    → given ++ rest ≡ bytes ++ (left ++ rest)
cut_of given bytes left rest cut =
    ap (λ (t : List ℕ). t ++ rest) cut ∙ append_assoc bytes left rest

pub given_cut : (a b c d : Option (List ℕ)) (p : Point) (given bytes left : List ℕ)
    → given ≡ bytes ++ left → Consumes a b given
    → ((rest : List ℕ) → Cuts c d p (bytes ++ rest)) → IfSome a (Cuts c d p)
given_cut a b c d p given bytes left cut took k = from_given (Cuts c d p) a b given took (λ rest.
    subst (Cuts c d p) (sym (cut_of given bytes left rest cut)) (k (left ++ rest)))

pub given_stop : (a b c d : Option (List ℕ)) (p : Point) (given bytes left : List ℕ)
    → given ≡ bytes ++ left → Consumes a b given
    → ((rest : List ℕ) → Stops c d p (bytes ++ rest)) → IfSome a (Stops c d p)
given_stop a b c d p given bytes left cut took k = from_given (Stops c d p) a b given took (λ rest.
    subst (Stops c d p) (sym (cut_of given bytes left rest cut)) (k (left ++ rest)))

pub any_stop : (a c : Option (List ℕ)) (p : Point) → IfSome a (Stops c c p)
any_stop None c p = tt
any_stop (Some text) c p = stop-none c p text

-- ---- a reader and a writer

-- a first part of a list is one of a longer first part
pub take_front : (m n : ℕ) (xs : List ℕ) → m ≤ n → take n xs ≡ take m xs ++ drop m (take n xs)
take_front m n xs few =
    sym (take-append-drop m (take n xs)) ∙ ap (λ (ys : List ℕ). ys ++ drop m (take n xs))
    (take-take m n xs few)

-- a QUIT was in what the reader gave
pub talked_quit : (a b c d : Option (List ℕ)) (p q : Point) (given bytes left : List ℕ)
    → given ≡ bytes ++ left
    → Consumes a b given → Went c d bytes p q true → Talked a b c d p q None
talked_quit a b c d p q given bytes left cut took u = record {
  given = given;
  took = took;
  written = u.written;
  wrote = u.wrote;
  rules = u.rules;
  goes = λ n none. absurd (cc none);
  ends = λ none. by b;
}
  where
    by : (b : Option (List ℕ)) → IfSome b (λ rest. (quit : Bool)
        × (coming p true (given ++ rest) ≡ ahead u.written (ended quit q)))
    by None = tt
    by (Some rest) = (
      true,
      ap (coming p true) (cut_of given bytes left rest cut) ∙ u.goes true (left ++ rest),
    )

-- `most` bytes were answered, and the reader gave more
pub talked_long : (a b c d : Option (List ℕ)) (p q : Point) (most : ℕ) (given bytes left : List ℕ)
    → given ≡ bytes ++ left
    → length bytes ≡ most → 0 < length left
    → Consumes a b given → Went c d bytes p q false → IfSome a (λ text. IsTooLong c d (coming p) most text)
talked_long a b c d p q most given bytes left cut full more took u =
    from_given (IsTooLong c d (coming p) most) a b given took (λ rest.
    let split = cut_of given bytes left rest cut in
    let front : take most (given ++ rest) ≡ bytes = rw (split, sym full)
    (take-append_seam bytes (left ++ rest)) in
    let said_is : coming p false (take most (given ++ rest)) ≡ ahead u.written (ended false q) =
    ap (coming p false) (front ∙ sym (append-nil bytes)) ∙ u.goes false []
    ∙ ap (ahead u.written) (nothing_comes q)
    in
    record {
      long = rw split (omega (
        arith,
        full,
        more,
        length-append bytes (left ++ rest),
        length-append left rest,
      ));
      quit = ap (λ (s : Said). s.quit) said_is;
      wrote = subst (Appends c d) (sym (ap (λ (s : Said). s.text) said_is ∙ append-nil u.written))
          u.wrote;
    })

-- a QUIT was in the bytes that were answered, of which there are at most `most`
pub within_quit : (a b c d : Option (List ℕ)) (p q : Point) (most : ℕ) (given bytes left : List ℕ)
    → given ≡ bytes ++ left
    → length bytes ≤ most → Consumes a b given → Went c d bytes p q true
    → IfSome a (IsWithin (coming p) most)
within_quit a b c d p q most given bytes left cut few took u =
    from_given (IsWithin (coming p) most) a b given took (λ rest.
    let split = cut_of given bytes left rest cut in
    let sum : length bytes + (most - length bytes) ≡ most = omega (arith, few) in
    let front : take most (given ++ rest) ≡ bytes ++ take (most - length bytes) (left ++ rest) =
    rw split (ap (λ (n : ℕ). take n (bytes ++ (left ++ rest))) (sym sum)
    ∙ take-append-add bytes (left ++ rest) (most - length bytes))
    in
    inr (ap (λ (s : Said). s.quit) (ap (coming p false) front
    ∙ u.goes false (take (most - length bytes) (left ++ rest)))))

-- a part of a run to its end: all was answered
pub all_wrote : (a b d e : Option (List ℕ)) (p q : Point) → Talked a b d e p q None
    → IfSome a (λ text. Appends d e (coming p true text).text)
all_wrote None b d e p q u = tt
all_wrote (Some text) None d e p q u = absurd u.took
all_wrote (Some text) (Some rest) d e p q u =
    let said_is : coming p true text ≡ ahead u.written (ended (u.ends refl).0 q) =
    ap (coming p true) u.took ∙ (u.ends refl).1 in
    subst (Appends d e) (sym (ap (λ (s : Said). s.text) said_is ∙ append-nil u.written)) u.wrote

pub all_after : (a b d e : Option (List ℕ)) (p q : Point) → Talked a b d e p q None
    → IfSome a (λ text. q.talk.journal ≡ (coming p true text).journal)
all_after None b d e p q u = tt
all_after (Some text) None d e p q u = absurd u.took
all_after (Some text) (Some rest) d e p q u =
    sym (ap (λ (s : Said). s.journal) (ap (coming p true) u.took ∙ (u.ends refl).1))

-- nothing was read, and a read failed
pub none_read : (a b d : Option (List ℕ)) (p : Point) → Keeps a b
    → ReadSome a b d d (λ given. (coming p false given).text)
none_read a b d p stays = (
  [],
  consumes-keeps a a b [] (consumes-none a) stays,
  subst (λ (s : Said). Appends d d s.text) (sym (nothing_comes p)) (appends-none d),
)

-- one turn, and then another
module _ (a b c d e f : Option (List ℕ)) (p q r : Point) (n : ℕ)
    (u : Talked a b d e p q (Some n)) where
  u_goes : (counts : Bool) (rest : List ℕ) → coming p counts (u.given ++ rest)
      ≡ ahead u.written (coming q counts rest)
  u_goes = (u.goes n refl).1

  u_count : length u.given ≡ n
  u_count = (u.goes n refl).0

  -- the run goes on
  pub talked_more : (m : ℕ) → Talked b c e f q r (Some m) → Talked a c d f p r (Some (n + m))
  talked_more m v = record {
    given = u.given ++ v.given;
    took = consumes-then a b c u.given v.given u.took v.took;
    written = u.written ++ v.written;
    wrote = appends-then d e f u.written v.written u.wrote v.wrote;
    rules = v.rules ∙ u.rules;
    goes = λ k is. let same : n + m ≡ k = cc is in (
      length-append u.given v.given ∙ (λ i. u_count i + (v.goes m refl).0 i) ∙ same,
      λ counts rest.
          ap (coming p counts) (append_assoc u.given v.given rest) ∙ u_goes counts (v.given ++ rest)
          ∙ ap (ahead u.written) ((v.goes m refl).1 counts rest)
          ∙ sym (ahead-ahead u.written v.written (coming r counts rest)),
    );
    ends = λ is. absurd (cc is);
  }

  -- the run ended
  pub talked_end : Talked b c e f q r None → Talked a c d f p r None
  talked_end v = record {
    given = u.given ++ v.given;
    took = consumes-then a b c u.given v.given u.took v.took;
    written = u.written ++ v.written;
    wrote = appends-then d e f u.written v.written u.wrote v.wrote;
    rules = v.rules ∙ u.rules;
    goes = λ k is. absurd (cc is);
    ends = λ is. by c (v.ends refl);
  }
    where
      by : (c : Option (List ℕ)) → IfSome c (λ rest. (quit : Bool)
          × (coming q true (v.given ++ rest) ≡ ahead v.written (ended quit r)))
          → IfSome c (λ rest. (quit : Bool) × (coming p true ((u.given ++ v.given) ++ rest)
          ≡ ahead (u.written ++ v.written) (ended quit r)))
      by None end = tt
      by (Some rest) (quit, is) = (
        quit,
        ap (coming p true) (append_assoc u.given v.given rest) ∙ u_goes true (v.given ++ rest)
            ∙ ap (ahead u.written) is ∙ sym (ahead-ahead u.written v.written (ended quit r)),
      )

  -- the reader gave n bytes, and then at most `most` more
  pub gave_more : (most limit : ℕ) → n + most ≤ limit → GaveAtMost most b c → GaveAtMost limit a c
  gave_more most limit few (bytes, took, short) = (
    u.given ++ bytes,
    consumes-then a b c u.given bytes u.took took,
    (let bound : length (u.given ++ bytes) ≤ limit = omega
        (arith, few, short, u_count, length-append u.given bytes) in bound),
  )

  -- the reader broke off
  pub broke_off : Keeps b c → ReadSome a c d e (λ given. (coming p false given).text)
  broke_off stays = (
    u.given,
    consumes-keeps a b c u.given u.took stays,
    subst (Appends d e)
        (sym (ap (λ (s : Said). s.text) (ap (coming p false) (sym (append-nil u.given))
        ∙ u_goes false [] ∙ ap (ahead u.written) (nothing_comes q)) ∙ append-nil u.written))
        u.wrote,
  )

  -- a write failed after it, or an allocation did
  pub cut_at : IfSome b (Cuts e f q) → IfSome a (Cuts d f p)
  cut_at = before_rest (Cuts d f p) (Cuts e f q) a b u.given u.took (λ rest k.
      subst (λ (s : Said). AppendsPrefix d f s.text) (sym (u_goes true rest))
      (prefix-behind d e f u.written _ u.wrote k))

  pub stop_at : IfSome b (Stops e f q) → IfSome a (Stops d f p)
  stop_at = before_rest (Stops d f p) (Stops e f q) a b u.given u.took (λ rest k. (
    length u.given + k.0,
    subst (Appends d f) (sym (ap (λ (s : Said). s.text)
        (ap (coming p false) (take-append-add u.given rest k.0) ∙ u_goes false (take k.0 rest))))
        (appends-then d e f u.written (coming q false (take k.0 rest)).text u.wrote k.1),
  ))

  -- the first bytes of what was given and of the rest
  front : (most : ℕ) (rest : List ℕ) → coming p false (take (n + most) (u.given ++ rest))
      ≡ ahead u.written (coming q false (take most rest))
  front most rest =
      ap (λ (m : ℕ). coming p false (take (m + most) (u.given ++ rest))) (sym u_count)
      ∙ ap (coming p false) (take-append-add u.given rest most) ∙ u_goes false (take most rest)

  -- the text ends within the limit, or a QUIT does
  pub within_at : (most : ℕ) → IfSome b (IsWithin (coming q) most) → IfSome a (IsWithin (coming p) (n + most))
  within_at most = before_rest (IsWithin (coming p) (n + most)) (IsWithin (coming q) most) a b u.given u.took by
    where
      by : (rest : List ℕ) → IsWithin (coming q) most rest → IsWithin (coming p) (n + most) (u.given ++ rest)
      by rest (inl few) = inl (omega (arith, few, u_count, length-append u.given rest))
      by rest (inr quit) = inr (ap (λ (s : Said). s.quit) (front most rest) ∙ quit)

  -- the text is too long
  pub too_long_at : (most : ℕ) → IfSome b (λ text. IsTooLong e f (coming q) most text)
      → IfSome a (λ text. IsTooLong d f (coming p) (n + most) text)
  too_long_at most =
      before_rest (IsTooLong d f (coming p) (n + most)) (IsTooLong e f (coming q) most) a b u.given u.took (λ rest k.
      record {
        long = let l = k.long in omega (arith, l, u_count, length-append u.given rest);
        quit = ap (λ (s : Said). s.quit) (front most rest) ∙ k.quit;
        wrote = subst (Appends d f) (sym (ap (λ (s : Said). s.text) (front most rest)))
            (appends-then d e f u.written (coming q false (take most rest)).text u.wrote k.wrote);
      })
