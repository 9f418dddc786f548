-- What appending a text promises.
use Rattle.std.specs.Prelude.{◌≡◌, ℕ, ◌+◌, ◌<◌, ◌≤◌, List, ◌++◌, Result, length, take, vec_len}
use Rattle.std.specs.Prelude.{vec_capacity, OnOk, OnErr, IsOk}
use Rattle.std.specs.Global.{Vec}
use Rattle.regatta_tables.specs.declared.replies.TheConstants.{REPLY_ROOM}

-- the text was appended. An error leaves some first part of it, and comes only if there was no room
-- for the text; the capacity is never less
pub record Pushed {A E : Type 0} (text : List ℕ) (old new : Vec ℕ) (result : Result A E) : Type 0
  where
    pub ok : OnOk result (new.items ≡ old.items ++ text)
    pub err : OnErr result (take (vec_len old) new.items ≡ old.items)
    pub room : vec_capacity old ≤ vec_capacity new
    pub full : OnErr result (vec_capacity old < vec_len old + length text)

-- whatever was appended, the old text stays in front, and the capacity is never less
pub record Lengthened (old new : Vec ℕ) : Type 0 where
  pub before : take (vec_len old) new.items ≡ old.items
  pub room : vec_capacity old ≤ vec_capacity new

-- the text was appended. An error leaves the old text, and comes only if there was no room for the new
-- one; the capacity is never less
pub record Written {A E : Type 0} (text : List ℕ) (old new : Vec ℕ) (result : Result A E) : Type 0
  where
    pub ok : OnOk result (new.items ≡ old.items ++ text)
    pub err : OnErr result (new.items ≡ old.items)
    pub room : vec_capacity old ≤ vec_capacity new
    pub fits : vec_len old + length text ≤ vec_capacity old → IsOk result

-- the text was appended. An error leaves the old text; the capacity is never less
pub record Appended {A E : Type 0} (text : List ℕ) (old new : Vec ℕ) (result : Result A E) : Type 0
  where
    pub ok : OnOk result (new.items ≡ old.items ++ text)
    pub err : OnErr result (new.items ≡ old.items)
    pub room : vec_capacity old ≤ vec_capacity new

-- a reply or a part of one was appended. An error leaves the old text, and comes only if there was no
-- room for a reply; with such room the capacity stays, and it is never less
pub record Replied {A E : Type 0} (text : List ℕ) (old new : Vec ℕ) (result : Result A E) : Type 0
  where
    pub ok : OnOk result (new.items ≡ old.items ++ text)
    pub err : OnErr result (new.items ≡ old.items)
    pub room : vec_capacity old ≤ vec_capacity new
    pub fits : vec_len old + REPLY_ROOM ≤ vec_capacity old → IsOk result
    pub stays : vec_len old + REPLY_ROOM ≤ vec_capacity old → vec_capacity new ≡ vec_capacity old
